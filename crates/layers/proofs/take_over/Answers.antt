-- `layers::take_over` meets its contract: the words of both layers, and what is handed out of them.
use mathlib.Core.Path.{◌≡◌, refl, ap, ap₂, subst, ◌∙◌}
use mathlib.Core.List.{List, ◌++◌}
use Prim.Native.Nat.{ℕ, ◌*◌, ◌≤◌}
use native.Mathlib.Nat.{mul_assoc}
use native.Mathlib.Omega.{arith}
use lib.ListN.{length, length-append}
use Rattle.masks.specs.Masks.{Masked}
use Rattle.layerstate.specs.State.{most_layer, kept_in}
use Rattle.layerstate.proofs.Kept.{layer_most, length_kept}
use Rattle.layers.specs.Outcome.{layer_measured}
use Rattle.layers.proofs.Frames.{pair_lent, sides_fit_lem, given_of, layer_handed}
use Rattle.layers.proofs.take_over.Goals as goal
use Rattle.layers.proofs.take_over.Goals.{After-frame-sides}

-- the start, from the call of `frame`, and this call, from the call of `fill`

-- the samples of a layer, and of the kept one and the new one
abbrev each : After-frame-sides → ℕ
each f = f.frame-sides.result.nx * f.frame-sides.result.ny

abbrev pair : After-frame-sides → List ℕ
pair f = kept_in (each f) f.args.state.now ++ f.args.layer.now

sides_most : (c : After-frame-sides) → each c ≤ most_layer
sides_most c = layer_most (sides_fit_lem c.args.head _ c.frame-sides.result c.frame-sides.ensures c.requires.sides_fit.0)

long : (c : After-frame-sides) → let sides = c.frame-sides.result in length (pair c) ≡ sides.nx * (sides.ny * 2)
long c =
    let room = c.args.state.now in
    let sides = c.frame-sides.result in
    omega (
      arith,
      length-append (kept_in (each c) room) c.args.layer.now,
      length_kept room (each c) (omega (arith, c.requires.state_len.0, sides_most c)),
      c.requires.state_len.1,
      ap₂ ◌*◌ c.frame-sides.ensures.nx c.frame-sides.ensures.ny,
      mul_assoc sides.nx sides.ny 2,
    )

pub hand_out-requires : goal.hand_out-requires
hand_out-requires c =
    let t = c.requires.taken_nonzero in
    let sides = c.frame-sides.result in
    let framed = c.frame-sides.ensures in
    let masked =
    subst (λ samples. Masked sides.nx (sides.ny * 2) c.args.head.grey samples c.fill.new.masks) (pair_lent c.args.state.now (each (goal.at.hand_out-requires c).After-frame-sides) c.args.layer.now)
    c.fill.ensures in record { given = given_of c.args.head _ sides framed c.requires.sides_fit.0 c.args.head.grey (pair (goal.at.hand_out-requires c).After-frame-sides) _ 2 _ (omega arith) (omega arith) (λ over. refl) refl (long (goal.at.hand_out-requires c).After-frame-sides) c.fill.auto.masks masked; below_bound = omega (arith, framed.below, framed.nz, t.0, t.1); head_value = c.requires.head_value; state_len = (c.requires.state_len.0, omega (arith, c.requires.state_len.1, layer_most c.requires.sides_fit.0), omega (arith, t.1, c.requires.sides_fit.0.most_z)) }

-- the call of `hand_out`, from the end

pub returns : goal.returns
returns c =
    let t = c.requires.taken_nonzero in
    c.hand_out.ensures
    ∙ ap (layer_measured _ c.args.state.now c.args.layer.now)
    (layer_handed c.args.head _ c.frame-sides.result c.frame-sides.ensures c.args.state.now c.requires.head_value c.args.layer.now (omega (arith, t.0)))
