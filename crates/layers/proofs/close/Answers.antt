-- `layers::close` meets its contract: the refusals in their order, and the last layer.
use mathlib.Core.Path.{◌∙◌}
use mathlib.Core.List.{[]}
use borrow.Author.Tests.{eq-eqb, ne_eqb}
use Rattle.layers.specs.Promise.{rooms}
use Rattle.layers.proofs.Tested.{is_some, is_early, of_room, fit, grey_fits}
use Rattle.layers.proofs.Ways.{closing_length, closing_none, closing_early, closing_taken}
use Rattle.layers.proofs.close.Goals as goal

pub returns-then-state-ne-STATE_LENGTH : goal.returns-then-state-ne-STATE_LENGTH
returns-then-state-ne-STATE_LENGTH c =
    closing_length (rooms c.args.points.now c.args.edges.now c.args.marks.now []) c.args.state.now (ne_eqb _ _ c.if-state-ne-STATE_LENGTH.true)

pub returns-then-not-is_state : goal.returns-then-not-is_state
returns-then-not-is_state c =
    let room = c.args.state.now in
    closing_none (rooms c.args.points.now c.args.edges.now c.args.marks.now []) room (eq-eqb _ _ c.if-state-ne-STATE_LENGTH.false)
    (of_room is_some room c.read_head-head.ensures c.is_state.ensures c.if-not-is_state.true)

pub returns-then-is_early : goal.returns-then-is_early
returns-then-is_early c =
    let room = c.args.state.now in
    closing_early (rooms c.args.points.now c.args.edges.now c.args.marks.now []) room (eq-eqb _ _ c.if-state-ne-STATE_LENGTH.false)
    (of_room is_some room c.read_head-head.ensures c.is_state.ensures c.if-not-is_state.false)
    (of_room is_early room c.read_head-head.ensures c.is_early.ensures c.if-is_early.true)

pub close_over-requires-clause-sides_fit : goal.close_over-requires-clause-sides_fit
close_over-requires-clause-sides_fit c =
    let head = c.read_head-head.result in
    (fit head c.is_state.ensures c.if-not-is_state.false, grey_fits head c.is_state.ensures c.if-not-is_state.false)

pub returns : goal.returns
returns c =
    let room = c.args.state.now in
    c.close_over.ensures
    ∙ closing_taken (rooms c.args.points.now c.args.edges.now c.args.marks.now []) room (eq-eqb _ _ c.if-state-ne-STATE_LENGTH.false)
    (of_room is_some room c.read_head-head.ensures c.is_state.ensures c.if-not-is_state.false)
    (of_room is_early room c.read_head-head.ensures c.is_early.ensures c.if-is_early.false)
