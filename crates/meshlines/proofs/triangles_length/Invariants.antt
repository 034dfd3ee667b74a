-- `meshlines::triangles_length` meets its contract.
use mathlib.Core.Path.{◌≡◌}
use Prim.Native.Nat.{◌*◌, ◌≤◌}
use lib.ListN.{length}
use Rattle.lines.specs.Line.{longest_line, lettered}
use Rattle.meshlines.specs.MeshLines.{letter_t, triangle_numbers}
use Rattle.meshlines.proofs.LinesWritten.{lines_to}
use Rattle.meshlines.proofs.triangles_length.Given as goal

abbrev pub invariant-loop-i : goal.invariant-loop-i
invariant-loop-i l =
    (l.sum ≡ length (lines_to (λ i'. lettered letter_t (triangle_numbers l.triangles i')) l.i)) × (l.sum ≤ longest_line 3 * l.i)
