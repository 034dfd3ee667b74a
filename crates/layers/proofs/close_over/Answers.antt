-- `layers::close_over` meets its contract: the words of the kept layer, and what is handed out of it.
use mathlib.Core.Path.{◌≡◌, ap, sym, subst, ◌∙◌}
use mathlib.Core.List.{List}
use Prim.Native.Nat.{ℕ, ◌*◌, ◌-◌, ◌≤◌}
use native.Mathlib.Nat.{mul-one}
use native.Mathlib.Omega.{arith}
use lib.ListN.{length}
use Rattle.masks.specs.Masks.{Masked}
use Rattle.layerstate.specs.State.{most_layer, kept_in}
use Rattle.layerstate.proofs.Kept.{layer_most, length_kept}
use Rattle.layers.specs.Outcome.{closing_measured}
use Rattle.layers.proofs.Frames.{kept_lent, sides_fit_lem, given_of, last_handed}
use Rattle.layers.proofs.close_over.Goals as goal
use Rattle.layers.proofs.close_over.Goals.{After-frame-sides}

-- the start, from the call of `frame`, and this call, from the call of `fill`

-- the samples of a layer, and the kept one
abbrev each : After-frame-sides → ℕ
each f = f.frame-sides.result.nx * f.frame-sides.result.ny

abbrev kept : After-frame-sides → List ℕ
kept f = kept_in (each f) f.args.state.now

sides_most : (c : After-frame-sides) → each c ≤ most_layer
sides_most c = layer_most (sides_fit_lem c.args.head _ c.frame-sides.result c.frame-sides.ensures c.requires.sides_fit.0)

long : (c : After-frame-sides) → length (kept c) ≡ each c
long c = length_kept c.args.state.now (each c) (omega (arith, c.requires.head_value.1, sides_most c))

pub hand_last-requires : goal.hand_last-requires
hand_last-requires c =
    let framed = c.frame-sides.ensures in
    let sides = c.frame-sides.result in
    let masked =
    subst (λ samples. Masked sides.nx sides.ny c.args.head.grey samples c.fill.new.masks) (kept_lent c.args.state.now (each (goal.at.hand_last-requires c).After-frame-sides)) c.fill.ensures in record {
      given = given_of c.args.head _ sides framed c.requires.sides_fit.0 c.args.head.grey (kept (goal.at.hand_last-requires c).After-frame-sides) _ 1 _ (omega arith) (omega arith) (λ over. absurd (omega arith)) (sym (mul-one sides.ny)) (long (goal.at.hand_last-requires c).After-frame-sides)
          c.fill.auto.masks
          masked;
      below_lt_nz = omega (arith, framed.below, framed.nz, c.requires.sides_fit.0.least_z);
      head_value = c.requires.head_value;
    }

-- the call of `hand_last`, from the end

pub returns : goal.returns
returns c =
    let room = c.args.state.now in
    c.hand_last.ensures
    ∙ ap (closing_measured _ room)
    (last_handed c.args.head _ c.frame-sides.result c.frame-sides.ensures room c.requires.head_value.0 (ap (λ h. h.nz - 1) c.requires.head_value.0))
