-- `query::answered` meets its contract.
use mathlib.Core.Path.{ap, ◌∙◌}
use lib.ListN.{length, replicate}
use Rattle.std.proofs.lemmas.Result.{err_from_is_err_and}
use Rattle.laws.proofs.Rooms.{zeros_at}
use Rattle.grid.specs.Work.{size}
use Rattle.grid.specs.Refusal.{number_of}
use Rattle.grid.proofs.Refused.{never_0}
use Rattle.extract.specs.Promise.{rooms}
use Rattle.summary.proofs.Places.{the_summary, length_summary}
use Rattle.steps.specs.Looks.{found_words}
use Rattle.query.proofs.Found.{found_cubes}
use Rattle.query.proofs.Ways.{mesh_refused, mesh_granted}
use Rattle.query.proofs.answered.Goals as goal

-- the lent summary is that of the samples, and so as long
pub look_at_all-blocks-requires-clause-summary_len : goal.look_at_all-blocks-requires-clause-summary_len
look_at_all-blocks-requires-clause-summary_len c =
    let a = c.args in
    let n = size a.nx a.ny a.nz in
    ap length (the_summary n a.samples.now a.summary.now c.requires.summary_value) ∙ length_summary n a.samples.now

pub measured-requires-clause-found_cubes : goal.measured-requires-clause-found_cubes
measured-requires-clause-found_cubes c =
    let a = c.args in
    let looks = c.look_at_all-blocks in
    found_cubes a.nx a.ny a.nz a.grey a.samples.now a.summary.now (replicate found_words 0) looks.new.found c.requires.sides_fit c.requires.summary_value
    (zeros_at found_words) looks.ensures.words looks.auto.found

pub returns-in_err-mesh : goal.returns-in_err-mesh
returns-in_err-mesh c =
    let a = c.args in
    let rest = rooms c.measured.new.points c.measured.new.edges c.measured.new.marks c.measured.new.triangles c.measured.new.work in
    let before = rooms a.points.now a.edges.now a.marks.now a.triangles.now a.work.now in
    let e = c.in_err-mesh.field-0.0 in
    let p = err_from_is_err_and c.from_residual.result c.from_residual.ensures.1 in
    rw (p.1, p.2) (mesh_refused a.nx a.ny a.nz a.grey a.samples.now a.summary.now before (number_of e) 0 0 rest c.in_err-mesh.ensures (never_0 e))

pub returns : goal.returns
returns c =
    let a = c.args in
    let rest = rooms c.measured.new.points c.measured.new.edges c.measured.new.marks c.measured.new.triangles c.measured.new.work in
    let before = rooms a.points.now a.edges.now a.marks.now a.triangles.now a.work.now in
    let o = c.in_ok-mesh.mesh in
    mesh_granted a.nx a.ny a.nz a.grey a.samples.now a.summary.now before o.points o.triangles c.look_at_all-blocks.result rest c.in_ok-mesh.ensures c.look_at_all-blocks.ensures.count
