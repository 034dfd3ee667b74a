-- `sameshells::same_columns` meets its contract: the fields of the kinds passed are those of the records.
use Prim.Native.Nat.{ℕ, ◌<◌}
use Rattle.columns.specs.Room.{record_in}
use Rattle.sameshells.specs.Same.{shells_at, SameField, ColumnLeft}
use Rattle.sameshells.proofs.same_columns.Given as goal

abbrev pub invariant-loop-field : goal.invariant-loop-field
invariant-loop-field l =
    ColumnLeft l.parts.points l.parts.triangles l.shells l.initial.work l.work × ((k : ℕ) → k < l.field-index → SameField (shells_at l.input l.from l.shells) l.shells k (record_in l.parts.points l.parts.triangles l.initial.work))
