-- `judge::judge_mesh` meets its contract: 7, 8 and 9, and then the shells.
use mathlib.Core.Path.{sym, subst}
use Rattle.judge.specs.Judged.{JudgesSaid, refused_early}
use Rattle.judge.proofs.Steps.{no_mesh, is_mesh}
use Rattle.judge.proofs.judge_mesh.Goals as goal

pub returns-in-Err : goal.returns-in-Err
returns-in-Err c f =
    let a = c.args in
    refused_early _ c.refused_later.ensures.answer _ (no_mesh a.parts.points a.parts.triangles a.shells a.input.now a.from a.next a.work.now f c.in-Err.refusal c.in-Err.ensures) c.refused_later.ensures.zero

pub returns : goal.returns
returns c f =
    let a = c.args in
    subst (λ x. JudgesSaid x a.input.now a.work.now c.judge_shells.result c.judge_shells.new.work) (sym (is_mesh a.parts.points a.parts.triangles a.shells a.input.now a.from a.next a.work.now f c.in_default.ensures)) (c.judge_shells.ensures f)
