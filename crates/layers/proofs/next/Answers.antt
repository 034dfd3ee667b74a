-- `layers::next` meets its contract: the refusals in their order, a first layer, and a layer over another.
use mathlib.Core.Path.{ap, sym, ◌∙◌}
use lib.ListN.{length}
use borrow.Author.Tests.{eq-eqb, ne_eqb}
use Rattle.std.proofs.lemmas.Result.{err_from_is_err_and}
use Rattle.layerstate.specs.State.{state_in}
use Rattle.layers.specs.Outcome.{layer_hands, layer_measured}
use Rattle.layers.specs.Promise.{rooms}
use Rattle.layers.proofs.Tested.{is_some, is_amiss, of_room, fit, grey_fits, few}
use Rattle.layers.proofs.Ways.{layer_length, layer_none, layer_amiss_lem, layer_taken, first_layered}
use Rattle.layers.proofs.next.Goals as goal

pub returns-then-state-ne-STATE_LENGTH : goal.returns-then-state-ne-STATE_LENGTH
returns-then-state-ne-STATE_LENGTH c =
    layer_length (rooms c.args.points.now c.args.edges.now c.args.marks.now c.args.triangles.now) c.args.state.now c.args.layer.now (ne_eqb _ _ c.if-state-ne-STATE_LENGTH.true)

pub returns-then-not-is_state : goal.returns-then-not-is_state
returns-then-not-is_state c =
    let room = c.args.state.now in
    layer_none (rooms c.args.points.now c.args.edges.now c.args.marks.now c.args.triangles.now) room c.args.layer.now (eq-eqb _ _ c.if-state-ne-STATE_LENGTH.false)
    (of_room is_some room c.read_head-head.ensures c.is_state.ensures c.if-not-is_state.true)

pub is_amiss-requires : goal.is_amiss-requires
is_amiss-requires c = fit c.read_head-head.result c.is_state.ensures c.if-not-is_state.false

pub returns-then-is_amiss : goal.returns-then-is_amiss
returns-then-is_amiss c =
    let room = c.args.state.now in
    let layer = c.args.layer.now in
    layer_amiss_lem (rooms c.args.points.now c.args.edges.now c.args.marks.now c.args.triangles.now) room (eq-eqb _ _ c.if-state-ne-STATE_LENGTH.false)
    (of_room is_some room c.read_head-head.ensures c.is_state.ensures c.if-not-is_state.false)
    layer
    (of_room (is_amiss (length layer)) room c.read_head-head.ensures c.is_amiss.ensures c.if-is_amiss.true)

pub take_first-requires-clause-state_len : goal.take_first-requires-clause-state_len
take_first-requires-clause-state_len c =
    let head = c.read_head-head.result in
    let small = few (length c.args.layer.now) head c.is_amiss.ensures c.if-is_amiss.false (fit head c.is_state.ensures c.if-not-is_state.false) in
    (c.if-state-ne-STATE_LENGTH.false, small.0, small.1)

-- a first layer, refused or kept
pub returns-in_err-take_first : goal.returns-in_err-take_first
returns-in_err-take_first c =
    let room = c.args.state.now in
    let layer = c.args.layer.now in
    let p = err_from_is_err_and c.from_residual.result c.from_residual.ensures.1 in
    rw (p.1, p.2)
    (first_layered (rooms c.args.points.now c.args.edges.now c.args.marks.now c.args.triangles.now) room (eq-eqb _ _ c.if-state-ne-STATE_LENGTH.false)
    (of_room is_some room c.read_head-head.ensures c.is_state.ensures c.if-not-is_state.false)
    layer
    (of_room (is_amiss (length layer)) room c.read_head-head.ensures c.is_amiss.ensures c.if-is_amiss.false)
    (ap (λ h. h.taken) (sym c.read_head-head.ensures) ∙ c.if-head-eq0.true)
    c.in_err-take_first.ensures)

pub returns-then-head-eq0 : goal.returns-then-head-eq0
returns-then-head-eq0 c =
    let room = c.args.state.now in
    let layer = c.args.layer.now in
    first_layered (rooms c.args.points.now c.args.edges.now c.args.marks.now c.args.triangles.now) room (eq-eqb _ _ c.if-state-ne-STATE_LENGTH.false)
    (of_room is_some room c.read_head-head.ensures c.is_state.ensures c.if-not-is_state.false)
    layer
    (of_room (is_amiss (length layer)) room c.read_head-head.ensures c.is_amiss.ensures c.if-is_amiss.false)
    (ap (λ h. h.taken) (sym c.read_head-head.ensures) ∙ c.if-head-eq0.true)
    c.in_ok-take_first.ensures

pub take_over-requires-clause-sides_fit : goal.take_over-requires-clause-sides_fit
take_over-requires-clause-sides_fit c =
    let head = c.read_head-head.result in
    (fit head c.is_state.ensures c.if-not-is_state.false, grey_fits head c.is_state.ensures c.if-not-is_state.false)

pub returns : goal.returns
returns c =
    let room = c.args.state.now in
    let layer = c.args.layer.now in
    let r = rooms c.args.points.now c.args.edges.now c.args.marks.now c.args.triangles.now in
    c.take_over.ensures
    ∙ ap (λ h. layer_measured r room layer (layer_hands (state_in room) h.taken layer)) c.read_head-head.ensures
    ∙ layer_taken r room (eq-eqb _ _ c.if-state-ne-STATE_LENGTH.false)
    (of_room is_some room c.read_head-head.ensures c.is_state.ensures c.if-not-is_state.false)
    layer
    (of_room (is_amiss (length layer)) room c.read_head-head.ensures c.is_amiss.ensures c.if-is_amiss.false)
