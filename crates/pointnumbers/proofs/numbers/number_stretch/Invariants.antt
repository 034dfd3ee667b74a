-- `pointnumbers::numbers::number_stretch` meets its contract. The invariant: the walk has passed some samples of the stretch, whose edges are numbered, and the busy word has the bits of those left.
--
use Rattle.rows.specs.Rows.{own_samples}
use Rattle.pointnumbers.proofs.Walk.{Walked}
use Rattle.pointnumbers.proofs.numbers.number_stretch.Given as goal

abbrev pub invariant-loop-busy : goal.invariant-loop-busy
invariant-loop-busy l = Walked l.masks l.at.s (own_samples l.at.left) l.crossed l.from l.initial.work l.busy l.n l.work

abbrev pub decreases-loop-busy : goal.decreases-loop-busy
decreases-loop-busy l = l.busy
