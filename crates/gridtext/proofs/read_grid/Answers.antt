-- `gridtext::read_grid` meets its contract: line 1, its checks, and the rest.
use mathlib.Core.Path.{sym, ◌∙◌}
use Rattle.std.proofs.lemmas.Result.{err_from_is_err_and}
use Rattle.grid.proofs.Refused.{never_0}
use Rattle.gridtext.specs.Grid.{with_head, read_grid, refused}
use Rattle.gridtext.proofs.Checks.{head_refused}
use Rattle.gridtext.proofs.read_grid.Goals as goal

pub returns-in_default : goal.returns-in_default
unfolding read_grid with_head refused
returns-in_default c = rw c.in_default.ensures

pub returns-in_err-check_head : goal.returns-in_err-check_head
unfolding read_grid refused
returns-in_err-check_head c =
    let p = err_from_is_err_and c.from_residual.result c.from_residual.ensures.1 in
    let e = c.in_err-check_head in
    rw (p.1, p.2, c.in-Some.ensures, e.ensures.0, e.ensures.1)
    (head_refused c.in-Some.head _ c.args.samples.now (λ z. never_0 e.field-0.0 (e.ensures.0 ∙ z)))

pub read_samples-requires : goal.read_samples-requires
read_samples-requires c = sym c.in_ok-check_head.ensures.0

pub returns : goal.returns
unfolding read_grid
returns c = rw c.in-Some.ensures c.read_samples.ensures
