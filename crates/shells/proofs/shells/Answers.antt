-- `shells::shells` meets its contract: a refusal leaves the records, and a granted list makes them.
use mathlib.Core.Path.{refl}
use Rattle.std.proofs.lemmas.Result.{err_from_is_err_and}
use Rattle.grid.specs.Refusal.{number_of}
use Rattle.grid.proofs.Refused.{never_0}
use Rattle.shelllist.proofs.Ending.{ends_early, can_fill, ends_granted}
use Rattle.shells.proofs.shells.Goals as goal

pub returns-in_err-shells : goal.returns-in_err-shells
returns-in_err-shells c =
    let e = c.in_err-shells.field-0.0 in
    let p = err_from_is_err_and c.from_residual.result c.from_residual.ensures.1 in
    let l = c.list_numbers.new in
    rw (p.1, p.2) (ends_early _ _ _ _ _ c.args.records.now (number_of e) 0 l.numbers l.work c.in_err-shells.ensures (never_0 e))

pub fill-requires : goal.fill-requires
fill-requires c =
    let l = c.list_numbers.new in
    can_fill _ _ _ c.args.numbers.now c.args.work.now _ 0 c.in_ok-shells.shells l.numbers l.work c.in_ok-shells.ensures refl

pub returns : goal.returns
returns c =
    let l = c.list_numbers.new in
    ends_granted _ _ _ _ _ _ 0 c.in_ok-shells.shells l.numbers l.work c.in_ok-shells.ensures refl _ c.fill.ensures
