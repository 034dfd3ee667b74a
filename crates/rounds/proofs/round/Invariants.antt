-- `rounds::round` meets its contract: the new places of the points that were passed.
use Rattle.rounds.proofs.Rounding.{PlacedTo}
use Rattle.rounds.proofs.round.Given as goal

abbrev pub invariant-loop-p : goal.invariant-loop-p
invariant-loop-p l = PlacedTo l.marks l.weight l.at l.second l.smoothed l.initial.work l.p l.work
