-- `columns::gather_triangles` meets its contract: the column of the triangles so far, then all of them.
use mathlib.Core.Path.{◌≡◌}
use mathlib.Core.List.{List}
use Prim.Native.Nat.{ℕ}
use Rattle.columns.specs.Room.{StandsIn}
use Rattle.columns.proofs.Turns.{triangles_after}
use Rattle.columns.proofs.gather_triangles.Given as goal

pub record TrianglesPut (shells v t : ℕ) (filled now : List ℕ) (k : ℕ) : Type 0 where
  pub stands : StandsIn shells v t filled
  pub put : now ≡ triangles_after shells v t filled k

abbrev pub invariant-loop-k : goal.invariant-loop-k
invariant-loop-k l = TrianglesPut l.shells l.parts.points l.parts.triangles l.initial.work l.work l.k
