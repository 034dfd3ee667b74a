-- `sets::rank` meets its contract: the ranks so far, then the parents as they were.
use Rattle.sets.proofs.Ranking.{Ranks}
use Rattle.sets.proofs.rank.Given as goal

abbrev pub invariant-loop-p : goal.invariant-loop-p
invariant-loop-p l = Ranks l.initial.room l.room l.next l.p
