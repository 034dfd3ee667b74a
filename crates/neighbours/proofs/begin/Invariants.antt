-- `neighbours::begin` meets its contract: begins below p, sizes from p on.
use Rattle.neighbours.proofs.Begun.{BegunTo}
use Rattle.neighbours.proofs.begin.Given as goal

abbrev pub invariant-loop-p : goal.invariant-loop-p
invariant-loop-p l = BegunTo l.v l.at l.initial.work l.p l.sum l.work
