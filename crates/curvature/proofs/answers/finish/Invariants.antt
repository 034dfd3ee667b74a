-- `curvature::answers::finish` meets its contract: the points passed have the vectors of their answers.
use Rattle.curvature.proofs.Finished.{Finished}
use Rattle.curvature.proofs.answers.finish.Given as goal

abbrev pub invariant-loop-i : goal.invariant-loop-i
invariant-loop-i l = Finished l.marks l.areas l.initial.vectors l.vectors l.i
