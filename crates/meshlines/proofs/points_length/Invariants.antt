-- `meshlines::points_length` meets its contract.
use mathlib.Core.Path.{◌≡◌}
use Prim.Native.Nat.{◌*◌, ◌≤◌}
use lib.ListN.{length}
use Rattle.lines.specs.Line.{longest_line, lettered}
use Rattle.meshlines.specs.MeshLines.{letter_v, point_numbers}
use Rattle.meshlines.proofs.LinesWritten.{lines_to}
use Rattle.meshlines.proofs.points_length.Given as goal

abbrev pub invariant-loop-i : goal.invariant-loop-i
invariant-loop-i l =
    (l.sum ≡ length (lines_to (λ i'. lettered letter_v (point_numbers l.points l.edges l.marks i')) l.i)) × (l.sum ≤ longest_line 5 * l.i)
