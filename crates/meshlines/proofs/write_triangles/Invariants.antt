-- `meshlines::write_triangles` meets its contract.
use mathlib.Core.Path.{◌≡◌}
use Prim.Native.Nat.{◌+◌}
use lib.ListN.{length}
use lib.Seq.{sets}
use Rattle.lines.specs.Line.{lettered}
use Rattle.meshlines.specs.MeshLines.{letter_t, triangle_numbers}
use Rattle.meshlines.proofs.LinesWritten.{lines_to}
use Rattle.meshlines.proofs.write_triangles.Given as goal

abbrev pub invariant-loop-i : goal.invariant-loop-i
invariant-loop-i l =
    (length l.room ≡ length l.initial.room) × (l.at ≡ l.from + length (lines_to (λ i'. lettered letter_t (triangle_numbers l.triangles i')) l.i))
    × (l.room ≡ sets l.initial.room l.from (lines_to (λ i'. lettered letter_t (triangle_numbers l.triangles i')) l.i))
