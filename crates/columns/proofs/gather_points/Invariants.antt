-- `columns::gather_points` meets its contract: the column of the points so far, then all of them.
use mathlib.Core.Path.{◌≡◌}
use mathlib.Core.List.{List}
use Prim.Native.Nat.{ℕ}
use Rattle.columns.specs.declared.ways.Way.{Way}
use Rattle.columns.specs.Room.{StandsIn}
use Rattle.columns.specs.Columns.{way_of, kind_of}
use Rattle.columns.proofs.Turns.{points_after}
use Rattle.columns.proofs.gather_points.Given as goal

pub record PointsPut (shells v t kind : ℕ) (way : Way) (filled now : List ℕ) (i : ℕ) : Type 0 where
  pub stands : StandsIn shells v t filled
  pub is_way : way ≡ way_of kind
  pub put : now ≡ points_after shells v t filled kind i

abbrev pub invariant-loop-i : goal.invariant-loop-i
invariant-loop-i l = PointsPut l.shells l.parts.points l.parts.triangles (kind_of l.field) l.way l.initial.work l.work l.i
