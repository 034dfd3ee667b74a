-- `reader::read_mesh` meets its contract: the lists are decided and filled, then the records.
use Rattle.std.proofs.lemmas.Result.{err_from_is_err_and}
use Rattle.reader.proofs.Ending.{read_not, lines_fit, read_whole}
use Rattle.reader.proofs.read_mesh.Goals as goal

pub returns-in_err-judged : goal.returns-in_err-judged
returns-in_err-judged c =
    let a = c.args in
    let l = c.read_lists in
    let p = err_from_is_err_and c.from_residual.result c.from_residual.ensures.1 in
    rw (p.1, p.2) (read_not a.input.now a.points.now a.edges.now a.marks.now a.triangles.now a.records.now a.work.now l.new.points l.new.edges l.new.marks l.new.triangles l.new.work _ c.in_err-judged.ensures)

pub fill_records-requires : goal.fill_records-requires
fill_records-requires c =
    let a = c.args in
    let l = c.read_lists in
    lines_fit a.input.now a.points.now a.edges.now a.marks.now a.triangles.now a.records.now a.work.now l.new.points l.new.edges l.new.marks l.new.triangles l.new.work c.in_ok-judged.judged c.in_ok-judged.ensures

pub returns : goal.returns
returns c =
    let a = c.args in
    let l = c.read_lists in
    read_whole a.input.now a.points.now a.edges.now a.marks.now a.triangles.now a.records.now a.work.now l.new.points l.new.edges l.new.marks l.new.triangles l.new.work c.in_ok-judged.judged c.in_ok-judged.ensures c.fill_records.new.records c.fill_records.ensures
