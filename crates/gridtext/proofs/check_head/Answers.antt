-- `gridtext::check_head` meets its contract: the checks in order.
use mathlib.Core.Path.{sym, ◌∙◌}
use native.Mathlib.Omega.{arith}
use Rattle.grid.proofs.Sides.{sides_within, rows_most, samples_most}
use Rattle.gridtext.proofs.check_head.Goals as goal

pub overflow_mul-head : goal.overflow_mul-head
overflow_mul-head c =
    let h = c.args.head in
    let fit = sides_within h.nx h.ny h.nz (sym c.sides_fit.ensures ∙ c.if-not-sides_fit.false) in
    omega (arith, rows_most h.nx h.ny h.nz fit)

pub overflow_mul-head-2 : goal.overflow_mul-head-2
overflow_mul-head-2 c =
    let h = c.args.head in
    let fit = sides_within h.nx h.ny h.nz (sym c.sides_fit.ensures ∙ c.if-not-sides_fit.false) in
    omega (arith, samples_most h.nx h.ny h.nz fit)
