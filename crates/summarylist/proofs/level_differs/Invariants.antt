-- `summarylist::level_differs` meets its contract. The loop's invariant: the rows that were passed are those of the samples' summary.
use Rattle.grid.specs.Work.{size}
use Rattle.summarylist.proofs.Levels.{RowsTo}
use Rattle.summarylist.proofs.level_differs.Given as goal

abbrev pub invariant-loop-row : goal.invariant-loop-row
invariant-loop-row l = RowsTo (size l.nx l.ny l.nz) l.samples l.list l.level l.row
