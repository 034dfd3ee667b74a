-- `layers::open` meets its contract.
use mathlib.Core.Path.{ap, sym, ◌∙◌}
use borrow.Author.Tests.{eq-eqb, ne_eqb}
use Rattle.layers.specs.Promise.{open_left}
use Rattle.layers.proofs.Ways.{open_sides, open_length, open_granted}
use Rattle.layers.proofs.open.Goals as goal

pub returns-then-not-sides_fit : goal.returns-then-not-sides_fit
returns-then-not-sides_fit c =
    let a = c.args in
    open_sides a.nx a.ny a.nz a.grey a.state.now (sym c.sides_fit.ensures ∙ c.if-not-sides_fit.true)

pub returns-then-state-ne-STATE_LENGTH : goal.returns-then-state-ne-STATE_LENGTH
returns-then-state-ne-STATE_LENGTH c =
    let a = c.args in
    open_length a.nx a.ny a.nz a.grey a.state.now (sym c.sides_fit.ensures ∙ c.if-not-sides_fit.false) (ne_eqb _ _ c.if-state-ne-STATE_LENGTH.true)

pub returns : goal.returns
returns c =
    let a = c.args in
    ap (open_left 0) c.write_opened.ensures
    ∙ open_granted a.nx a.ny a.nz a.grey a.state.now (sym c.sides_fit.ensures ∙ c.if-not-sides_fit.false) (eq-eqb _ _ c.if-state-ne-STATE_LENGTH.false)
