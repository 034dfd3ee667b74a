-- What a run has left and handed out depends on sides, grey value and the layers taken, and on nothing else.
use mathlib.Core.Path.{◌≡◌, refl, ap, sym, subst, ◌∙◌}
use mathlib.Core.List.{List, [], ◌∷◌}
use mathlib.Core.Bool.{Bool}
use Prim.Native.Nat.{ℕ, zero, suc, ◌*◌}
use lib.ListN.{length, take}
use Rattle.laws.proofs.Sides.{length_corners}
use Rattle.grid.specs.Work.{size}
use Rattle.layerstate.specs.State.{state_in}
use Rattle.layerparts.specs.Layer.{first_sample}
use Rattle.layers.specs.Outcome.{Rooms, Outcome, refused, layered, closed}
use Rattle.layers.specs.Promise.{Layers, Closes}
use Rattle.layerruns.specs.Run.{Received, Run, Call, answer, answers}
use Rattle.layerruns.specs.SoFar.{received, so_far, state_after}
use Rattle.layerruns.proofs.Granted.{layer_keeps, closing_keeps}
use Rattle.layerruns.proofs.RunState.{run_stood}
use Rattle.layerruns.proofs.Standing.{points_read, triangles_read}

-- a refused layer or closing gives zero counts and leaves every room and the state
pub refusal_keeps : (new : List ℕ) (before : Rooms) (state : List ℕ) (after : Outcome) → Layers new before state after → (after.number ≡ 0 → ⊥) → after ≡ refused before state after.number
refusal_keeps new before state after is some =
    let stays = layer_keeps before state new (λ z. some (ap (λ o. o.number) is ∙ z)) in
    is ∙ stays ∙ ap (λ o. refused before state o.number) (sym is)

pub closing_refusal_keeps : (before : Rooms) (state : List ℕ) (after : Outcome) → Closes before state after → (after.number ≡ 0 → ⊥) → after ≡ refused before state after.number
closing_refusal_keeps before state after is some =
    let stays = closing_keeps before state (λ z. some (ap (λ o. o.number) is ∙ z)) in
    is ∙ stays ∙ ap (λ o. refused before state o.number) (sym is)

module _ {nx ny nz grey taken : ℕ} {samples : List ℕ} {over : Bool} {state : List ℕ} {got : Received} (run : Run nx ny nz grey taken samples over state got) where
  pub run_state : state ≡ state_after (size nx ny nz) grey samples taken over
  run_state = (run_stood nx ny nz grey run).state_is

  pub run_received : got ≡ received (so_far (size nx ny nz) grey samples taken over)
  run_received = (run_stood nx ny nz grey run).got_is

  -- the totals in the state are the lengths of what was handed out
  pub run_totals : ((state_in state).points ≡ length got.edges) × (3 * (state_in state).triangles ≡ length got.corners)
  unfolding state_after received
  run_totals =
      let h = so_far (size nx ny nz) grey samples taken over in
      let p = points_read (size nx ny nz) grey taken _ (length h.edges) (length h.triangles) _ in
      let t = triangles_read (size nx ny nz) grey taken _ (length h.edges) (length h.triangles) _ in
      let three : 3 * length h.triangles ≡ length got.corners = sym (ap (λ g. length g.corners) run_received ∙ length_corners h.triangles) in (
        ap (λ room. (state_in room).points) run_state ∙ p ∙ sym (ap (λ g. length g.edges) run_received),
        ap (λ room. 3 * (state_in room).triangles) run_state ∙ ap (λ k. 3 * k) t ∙ three,
      )

  -- another run that took the same layers
  module _ {other-state : List ℕ} {other-got : Received} (other : Run nx ny nz grey taken samples over other-state other-got) where
    pub same_layers : (state ≡ other-state) × (got ≡ other-got)
    same_layers =
        let o = run_stood nx ny nz grey other in
        (run_state ∙ sym o.state_is, run_received ∙ sym o.got_is)

    -- answers the next call alike, with equal rooms
    pub same_answer : (new : List ℕ) (before : Rooms) (one two : Outcome) → Layers new before state one → Layers new before other-state two → one ≡ two
    same_answer new before one two p q = p ∙ ap (λ room. layered before room new) same_layers.0 ∙ sym q

    pub same_closing : (before : Rooms) (one two : Outcome) → Closes before state one → Closes before other-state two → one ≡ two
    same_closing before one two p q = p ∙ ap (closed before) same_layers.0 ∙ sym q

-- Two volumes that agree on the layers handed in so far have had the same points and triangles handed out, and are left the same state.
pub same_so_far : (nx ny nz grey taken : ℕ) (one two : List ℕ) (over : Bool) {state other-state : List ℕ} {got other-got : Received}
    → take (first_sample (size nx ny nz) taken) one ≡ take (first_sample (size nx ny nz) taken) two → Run nx ny nz grey taken (take (first_sample (size nx ny nz) taken) one) over state got
    → Run nx ny nz grey taken (take (first_sample (size nx ny nz) taken) two) over other-state other-got → (state ≡ other-state) × (got ≡ other-got)
same_so_far nx ny nz grey taken one two over {state} {other-state} {got} {other-got} alike run other =
    same_layers run (subst (λ samples. Run nx ny nz grey taken samples over other-state other-got) (sym alike) other)

-- Calls that are the same so far, layers and rooms, are answered alike so far, refused ones among them.
answers_so_far : (many : ℕ) (state : List ℕ) (calls : List Call) → take many (answers state calls) ≡ answers state (take many calls)
unfolding answers
answers_so_far zero state calls = refl
answers_so_far (suc many) state [] = refl
answers_so_far (suc many) state (c ∷ calls) = ap (λ os. answer state c ∷ os) (answers_so_far many (answer state c).state calls)

pub same_answers : (many : ℕ) (state : List ℕ) (one two : List Call) → take many one ≡ take many two → take many (answers state one) ≡ take many (answers state two)
same_answers many state one two alike = answers_so_far many state one ∙ ap (answers state) alike ∙ sym (answers_so_far many state two)
