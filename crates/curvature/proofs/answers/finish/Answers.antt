-- `curvature::answers::finish` meets its contract: the points passed have the vectors of their answers.
use native.Mathlib.Omega.{arith}
use Rattle.curvature.proofs.Finished.{one_finished}
use Rattle.curvature.proofs.answers.finish.Goals as goal

pub loop-i-preserved : goal.loop-i-preserved
loop-i-preserved c =
    let l = c.loop-i in
    rw c.finish_point.ensures (one_finished c.args.marks.now c.args.areas.now c.args.vectors.now l.vectors l.i l.invariant (omega arith))
