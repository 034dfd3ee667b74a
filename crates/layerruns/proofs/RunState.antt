-- The state of a run and what it has handed out are functions of sides, grey value and the layers taken.
use mathlib.Core.Path.{◌≡◌, refl, ap, sym, subst, ◌∙◌}
use mathlib.Core.List.{List, [], ◌++◌, flat_map}
use mathlib.Core.Bool.{Bool, true, false, cond, not, false≢true}
use Prim.Native.Nat.{ℕ, ◌+◌}
use native.Mathlib.Omega.{arith}
use lib.Dec.{eqb}
use lib.ListN.{length}
use lib.Seq.{drop-nil}
use Rattle.laws.specs.Range.{join_to}
use Rattle.laws.specs.Mesh.{flat}
use Rattle.grid.specs.Sides.{sides_fit}
use Rattle.grid.specs.Grid.{Size}
use Rattle.grid.specs.Work.{size}
use Rattle.grid.proofs.Sides.{sides_within}
use Rattle.layerstate.specs.State.{state_length, opened_room}
use Rattle.layerparts.specs.Layer.{first_sample}
use Rattle.layerparts.proofs.Local.{layers_on}
use Rattle.layers.specs.Outcome.{Opened, Rooms, Outcome, opened, refused, layered, closed}
use Rattle.layers.specs.Promise.{open_left}
use Rattle.layerruns.specs.Run.{Received, none, joined, handed_by, AreSamples, Run, opening, layer, closing, layer_refused, closing_refused}
use Rattle.layerruns.specs.SoFar.{received, all_handed, first_layers, so_far, standing, state_after, Stood}
use Rattle.layerruns.proofs.Granted.{layer_granted, layer_keeps, closing_granted, closing_keeps}
use Rattle.layerruns.proofs.Standing.{opening_written}
use Rattle.layerruns.proofs.Steps.{turn_read, all_read, closed_read, layer_stood, closing_stood}

-- a refusal leaves the state
kept_state : (r : Rooms) (room : List ℕ) {o : Outcome} → o ≡ refused r room o.number → o.state ≡ room
unfolding refused
kept_state r room stays = ap (λ o. o.state) stays

module _ (nx ny nz grey : ℕ) where
  abbrev n : Size
  n = size nx ny nz

  -- a granted opening
  open_granted : (before : List ℕ) → (opened nx ny nz grey before).number ≡ 0 → (sides_fit nx ny nz ≡ true) × ((opened nx ny nz grey before).state ≡ opened_room nx ny nz grey)
  unfolding opened
  open_granted before = go (sides_fit nx ny nz) (eqb (length before) state_length)
    where
      go : (a b : Bool)
          → let o : Opened = cond (not a) (open_left 1 before) (cond (not b) (open_left 3 before) (open_left 0 (opened_room nx ny nz grey))) in
          o.number ≡ 0 → (a ≡ true) × (o.state ≡ opened_room nx ny nz grey)
      go false b z = absurd (omega (arith, z))
      go true false z = absurd (omega (arith, z))
      go true true z = (refl, refl)

  first_state : opened_room nx ny nz grey ≡ state_after n grey [] 0 false
  unfolding state_after so_far first_layers all_handed join_to
  first_state = opening_written n grey ∙ ap (standing n grey 0 0 0 0) (sym (drop-nil (first_sample n 0)))

  nothing_yet : none ≡ received (so_far n grey [] 0 false)
  unfolding received so_far first_layers all_handed join_to flat flat_map
  nothing_yet = refl

  open_stood : (before : List ℕ) → (opened nx ny nz grey before).number ≡ 0 → Stood n grey 0 [] false (opened nx ny nz grey before).state none
  unfolding so_far first_layers all_handed join_to
  open_stood before z =
      let o = open_granted before z in
      record {
        sided = o.0;
        fit = sides_within nx ny nz o.0;
        whole = sym (omega (arith, layers_on n 0 0));
        small = λ i. omega arith;
        most = omega arith;
        ended = λ yes-over. absurd (false≢true yes-over);
        state_is = o.1 ∙ first_state;
        got_is = nothing_yet;
        few_points = omega arith;
        few_triangles = omega arith;
      }

  -- a granted layer and a granted closing of a run that stood
  layer_step : {taken : ℕ} {samples : List ℕ} (over : Bool) {state : List ℕ} {got : Received} → Stood n grey taken samples over state got → (new : List ℕ) → AreSamples new → (r : Rooms)
      → (layered r state new).number ≡ 0 → Stood n grey (taken + 1) (samples ++ new) over (layered r state new).state (joined got (handed_by (layered r state new)))
  layer_step {taken} {samples} true {state} {got} stood new small r z =
      absurd (closed_read n grey taken samples (layer_granted r _ new (subst (λ room. (layered r room new).number ≡ 0) stood.state_is z)).still_open)
  layer_step {taken} {samples} false {state} {got} stood new small r z =
      let room = state_after n grey samples taken false in
      let g = layer_granted r room new (subst (λ room. (layered r room new).number ≡ 0) stood.state_is z) in
      let turn = turn_read n grey taken samples stood.sided stood.fit stood.whole stood.small stood.most g.turn in
      subst (λ o. Stood n grey (taken + 1) (samples ++ new) false o.state (joined got (handed_by o))) (sym (ap (λ room. layered r room new) stood.state_is ∙ g.outcome))
      (layer_stood n grey taken samples stood.sided stood.fit stood.whole stood.small stood.most new turn r small got stood.got_is g)

  closing_step : {taken : ℕ} {samples : List ℕ} (over : Bool) {state : List ℕ} {got : Received} → Stood n grey taken samples over state got → (r : Rooms) → (closed r state).number ≡ 0
      → Stood n grey taken samples true (closed r state).state (joined got (handed_by (closed r state)))
  closing_step {taken} {samples} true {state} {got} stood r z =
      absurd (closed_read n grey taken samples (closing_granted r _ (subst (λ room. (closed r room).number ≡ 0) stood.state_is z)).still_open)
  closing_step {taken} {samples} false {state} {got} stood r z =
      let room = state_after n grey samples taken false in
      let g = closing_granted r room (subst (λ room. (closed r room).number ≡ 0) stood.state_is z) in
      let all = all_read n grey taken samples stood.sided stood.fit stood.whole stood.small stood.most g.turn in
      subst (λ o. Stood n grey taken samples true o.state (joined got (handed_by o))) (sym (ap (closed r) stood.state_is ∙ g.outcome))
      (closing_stood n grey taken samples stood.sided stood.fit stood.whole stood.small stood.most all r got stood.got_is stood.few_triangles g)

  -- what holds of every run
  pub run_stood : {taken : ℕ} {samples : List ℕ} {over : Bool} {state : List ℕ} {got : Received} → Run nx ny nz grey taken samples over state got → Stood n grey taken samples over state got
  run_stood (opening before after is z) = subst (λ o. Stood n grey 0 [] false o.state none) (sym is) (open_stood before (ap (λ o. o.number) (sym is) ∙ z))
  run_stood (layer {taken} {samples} {over} {state} {got} run new small before after is z) =
      subst (λ o. Stood n grey (taken + 1) (samples ++ new) over o.state (joined got (handed_by o))) (sym is)
      (layer_step over (run_stood run) new small before (ap (λ o. o.number) (sym is) ∙ z))
  run_stood (closing {taken} {samples} {over} {state} {got} run before after is z) =
      subst (λ o. Stood n grey taken samples true o.state (joined got (handed_by o))) (sym is) (closing_step over (run_stood run) before (ap (λ o. o.number) (sym is) ∙ z))
  run_stood (layer_refused {taken} {samples} {over} {state} {got} run new before after is some) =
      let stays = layer_keeps before state new (λ z. some (ap (λ o. o.number) is ∙ z)) in
      subst (λ room. Stood n grey taken samples over room got) (sym (ap (λ o. o.state) is ∙ kept_state before state stays)) (run_stood run)
  run_stood (closing_refused {taken} {samples} {over} {state} {got} run before after is some) =
      let stays = closing_keeps before state (λ z. some (ap (λ o. o.number) is ∙ z)) in
      subst (λ room. Stood n grey taken samples over room got) (sym (ap (λ o. o.state) is ∙ kept_state before state stays)) (run_stood run)
