-- `viewer::tholbrina_answer` meets its contract: a refusal's number, or the answer told.
use Rattle.curvature.proofs.Telling.{told_answer, told_refusal}
use Rattle.viewer.proofs.tholbrina_answer.Goals as goal

pub returns-in-Err : goal.returns-in-Err
returns-in-Err c = rw c.number.ensures (told_refusal _ _ _ _ _ _ c.in-Err.refusal c.in-Err.ensures)

pub returns-in-Ok : goal.returns-in-Ok
returns-in-Ok c =
    let t = c.told-plain.ensures in
    told_answer _ _ _ _ _ _ _ _ _ _ c.in-Ok.ensures t.0 t.1 t.2
