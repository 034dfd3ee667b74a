-- `meshform::take_lines` meets its contract: the three passes, one after the other.
use Rattle.std.proofs.lemmas.Result.{err_from_is_err_and}
use Rattle.meshform.proofs.Last.{points_wrong, triangles_wrong, shells_wrong, formed}
use Rattle.meshform.proofs.take_lines.Goals as goal

pub returns-in_err-triangles_at : goal.returns-in_err-triangles_at
returns-in_err-triangles_at c =
    let a = c.args in
    let p = err_from_is_err_and c.from_residual.result c.from_residual.ensures.1 in
    rw (p.1, p.2) (points_wrong a.input.now a.from a.parts.points a.parts.triangles a.shells _ c.in_err-triangles_at.ensures)

pub returns-in_err-shells_at : goal.returns-in_err-shells_at
returns-in_err-shells_at c =
    let a = c.args in
    let p = err_from_is_err_and c.from_residual-in_err-shells_at.result c.from_residual-in_err-shells_at.ensures.1 in
    rw (p.1, p.2) (triangles_wrong a.input.now a.from a.parts.points a.parts.triangles a.shells _ _ c.in_ok-triangles_at.ensures.lines _ c.in_err-shells_at.ensures)

pub returns-in_err-pass_shells : goal.returns-in_err-pass_shells
returns-in_err-pass_shells c =
    let a = c.args in
    let p = err_from_is_err_and c.from_residual-in_err-pass_shells.result c.from_residual-in_err-pass_shells.ensures.1 in
    rw (p.1, p.2) (shells_wrong a.input.now a.from a.parts.points a.parts.triangles a.shells _ _ c.in_ok-triangles_at.ensures.lines _ _ c.in_ok-shells_at.ensures.lines _ c.in_err-pass_shells.ensures)

pub returns : goal.returns
returns c =
    let a = c.args in
    formed a.input.now a.from a.parts.points a.parts.triangles a.shells a.work.now c.take_points.new.work c.take_triangles.new.work _ _ _ c.requires.3 c.in_ok-triangles_at.ensures c.in_ok-shells_at.ensures c.in_ok-pass_shells.ensures
