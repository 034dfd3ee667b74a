-- `reader::read_lists` meets its contract.
use Rattle.std.proofs.lemmas.Result.{err_from_is_err_and}
use Rattle.reader.proofs.Ending.{lists_refused, lists_fit_lem}
use Rattle.reader.proofs.read_lists.Goals as goal

pub returns-in_err-judged : goal.returns-in_err-judged
returns-in_err-judged c =
    let a = c.args in
    let p = err_from_is_err_and c.from_residual.result c.from_residual.ensures.1 in
    rw (p.1, p.2) (lists_refused a.input.now a.records a.points.now a.edges.now a.marks.now a.triangles.now a.work.now c.judge.new.work c.judge.auto.work _ c.in_err-judged.ensures)

pub fill_lists-requires : goal.fill_lists-requires
fill_lists-requires c =
    let a = c.args in
    lists_fit_lem a.input.now a.records a.points.now a.edges.now a.marks.now a.triangles.now a.work.now c.judge.new.work c.judge.auto.work c.in_ok-judged.judged c.in_ok-judged.ensures
