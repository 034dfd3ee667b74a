-- `meshform::take_triangles` meets its contract: the lines passed were read, and their numbers stand in the room.
use Prim.Native.Nat.{◌+◌}
use Rattle.meshform.proofs.Lines.{TrianglesRead}
use Rattle.meshform.proofs.take_triangles.Given as goal

abbrev pub invariant-loop-k : goal.invariant-loop-k
invariant-loop-k l = TrianglesRead l.input l.from l.parts.triangles (2 + l.parts.points) l.base l.initial.work l.work l.k l.at
