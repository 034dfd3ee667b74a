-- `summarylist::is_summary` meets its contract. The loop's invariant: the levels that were passed are those of the samples' summary.
use Rattle.grid.specs.Work.{size}
use Rattle.summarylist.proofs.From.{LevelsFrom}
use Rattle.summarylist.proofs.is_summary.Given as goal

abbrev pub invariant-loop-tested : goal.invariant-loop-tested
invariant-loop-tested l = LevelsFrom (size l.nx l.ny l.nz) l.samples l.list l.tested
