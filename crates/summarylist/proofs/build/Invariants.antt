-- `summarylist::build` meets its contract. The loop's invariant: the list is as long as ever, and the levels that were passed are written.
use mathlib.Core.Path.{◌≡◌}
use lib.ListN.{length}
use Rattle.grid.specs.Work.{size}
use Rattle.summarylist.proofs.From.{LevelsFrom}
use Rattle.summarylist.proofs.build.Given as goal

abbrev pub invariant-loop-level : goal.invariant-loop-level
invariant-loop-level l = (length l.list ≡ length l.initial.list) × LevelsFrom (size l.nx l.ny l.nz) l.samples l.list l.level
