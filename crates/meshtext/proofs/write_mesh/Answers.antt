-- `meshtext::write_mesh` meets its contract: each way that it ends, by what its parts say of each other.
use mathlib.Core.Path.{◌≡◌, refl, sym, ◌∙◌}
use mathlib.Core.Bool.{true}
use lib.ListN.{length}
use Rattle.std.proofs.lemmas.Result.{err_from_is_err_and}
use Rattle.grid.proofs.Refused.{never_0}
use Rattle.meshtext.specs.MeshText.{lists_fit}
use Rattle.meshtext.proofs.Ending.{lists_refused, front_fits, records_fit, room_refused, tail_fits, mesh_written_lem}
use Rattle.meshtext.proofs.write_mesh.Goals as goal
use Rattle.meshtext.proofs.write_mesh.Goals.{After-shells_length-more}

pub returns-then-not-fit : goal.returns-then-not-fit
returns-then-not-fit c =
    let a = c.args in
    lists_refused a.points.now a.edges.now a.marks.now a.triangles.now a.records.now a.shells a.room.now (sym c.lists_fit-fit.ensures ∙ c.if-not-fit.true)

pub shells_length-more-requires : goal.shells_length-more-requires
shells_length-more-requires c =
    let a = c.args in
    records_fit a.points.now a.edges.now a.marks.now a.triangles.now a.records.now a.shells a.room.now (sym c.lists_fit-fit.ensures ∙ c.if-not-fit.false)

fit : (c : After-shells_length-more) → let a = c.args in lists_fit (length a.points.now) (length a.edges.now) (length a.marks.now) (length a.triangles.now) (length a.records.now) a.shells ≡ true
fit c = sym c.lists_fit-fit.ensures ∙ c.if-not-fit.false

pub write_front-requires : goal.write_front-requires
write_front-requires c =
    let a = c.args in
    let f = fit (goal.at.write_front-requires c).After-shells_length-more in (
      front_fits a.points.now a.edges.now a.marks.now a.triangles.now a.records.now a.shells a.room.now f,
      (records_fit a.points.now a.edges.now a.marks.now a.triangles.now a.records.now a.shells a.room.now f).1,
      c.shells_length-more.ensures.1,
    )

pub returns-in_err-front : goal.returns-in_err-front
returns-in_err-front c =
    let a = c.args in
    let f = fit (goal.at.returns-in_err-front c).After-shells_length-more in
    let p = err_from_is_err_and c.from_residual.result c.from_residual.ensures.1 in
    rw (p.1, p.2)
    (room_refused a.points.now a.edges.now a.marks.now a.triangles.now a.records.now a.shells a.room.now f _ _ c.write_front.new.room c.shells_length-more.result c.shells_length-more.ensures.0 c.in_err-front.ensures.1 c.in_err-front.ensures.0 (never_0 _))

pub write_shells-requires : goal.write_shells-requires
write_shells-requires c =
    let a = c.args in
    let f = fit (goal.at.write_shells-requires c).After-shells_length-more in (
      (records_fit a.points.now a.edges.now a.marks.now a.triangles.now a.records.now a.shells a.room.now f).0,
      tail_fits a.points.now a.edges.now a.marks.now a.triangles.now a.records.now a.shells a.room.now f 0 c.in_ok-front.front c.write_front.new.room c.shells_length-more.result c.shells_length-more.ensures.0 c.in_ok-front.ensures.1 refl,
    )

pub returns : goal.returns
returns c =
    let a = c.args in
    let f = fit (goal.at.returns c).After-shells_length-more in
    mesh_written_lem a.points.now a.edges.now a.marks.now a.triangles.now a.records.now a.shells a.room.now f 0 c.in_ok-front.front c.write_front.new.room c.shells_length-more.result c.shells_length-more.ensures.0 c.in_ok-front.ensures.1 refl
    c.write_shells.result c.write_shells.new.room c.write_shells.ensures.0 c.write_shells.ensures.1
