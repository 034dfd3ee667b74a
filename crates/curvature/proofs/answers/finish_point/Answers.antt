-- `curvature::answers::finish_point` meets its contract.
use Rattle.curvature.proofs.Finished.{finish_of}
use Rattle.curvature.proofs.answers.finish_point.Goals as goal

pub returns : goal.returns
returns c =
    let a = c.args in
    finish_of a.vectors.now _ a.at a.mark a.area _ _ _ _ c.vector_at-running.ensures c.over.ensures c.answer_of-answer.ensures c.stored_vector.ensures c.put_vector.ensures
