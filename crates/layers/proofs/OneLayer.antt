-- Any two outcomes that a promise allows are equal: for every state, granted or refused.
use mathlib.Core.Path.{◌≡◌, refl, ap, ◌∙◌}
use mathlib.Core.List.{List}
use mathlib.Core.Bool.{false}
use Prim.Native.Nat.{ℕ}
use native.Mathlib.Omega.{arith}
use Rattle.std.specs.Prelude.{Result, ⊤}
use Rattle.std.proofs.lemmas.Bool.Decides.{nat_tests}
use Rattle.grid.specs.declared.refusal.Refusal.{Refusal}
use Rattle.grid.specs.Refusal.{told}
use Rattle.grid.proofs.Refused.{names_line, same_answer}
use Rattle.layers.specs.declared.Answered.{Answered}
use Rattle.layers.specs.Outcome.{Opened, Rooms, Outcome, opened, refused, granted, layer_measured, closing_measured, with_state, layered, closed}
use Rattle.layers.specs.Promise.{open_left, none, answered, closing_answered, Opens, Layers, Closes}

pub one_opened : (nx ny nz grey : ℕ) (room : List ℕ) (one other : Opened) → Opens nx ny nz grey room one → Opens nx ny nz grey room other → one ≡ other
one_opened nx ny nz grey room one other p q = cc

pub one_layered : (layer : List ℕ) (before : Rooms) (state : List ℕ) (one other : Outcome) → Layers layer before state one → Layers layer before state other → one ≡ other
one_layered layer before state one other p q = cc

pub one_closed : (before : Rooms) (state : List ℕ) (one other : Outcome) → Closes before state one → Closes before state other → one ≡ other
one_closed before state one other p q = cc

-- no refusal of the three calls names a line
opened_names_none : (nx ny nz grey : ℕ) (room : List ℕ) → names_line (opened nx ny nz grey room).number ≡ false
unfolding opened
opened_names_none nx ny nz grey room = grind (arith, nat_tests)

layered_names_none : (before : Rooms) (state layer : List ℕ) → names_line (layered before state layer).number ≡ false
unfolding layered with_state layer_measured refused granted
layered_names_none before state layer = grind (arith, nat_tests)

closed_names_none : (before : Rooms) (state : List ℕ) → names_line (closed before state).number ≡ false
unfolding closed with_state closing_measured refused granted
closed_names_none before state = grind (arith, nat_tests)

-- the counts of an outcome
abbrev counted : Outcome → Answered
counted o = record { points = o.point_count; triangles = o.triangle_count }

-- so each answer itself is one
pub one_open_answer : (nx ny nz grey : ℕ) (room : List ℕ) (r q : Result ⊤ Refusal) (state other : List ℕ) → Opens nx ny nz grey room (open_left (told r) state)
    → Opens nx ny nz grey room (open_left (told q) other) → (r ≡ q) × (state ≡ other)
one_open_answer nx ny nz grey room r q state other a b =
    let same = one_opened nx ny nz grey room (open_left (told r) state) (open_left (told q) other) a b in
    (same_answer tt r q (ap (λ o. o.number) same) (ap (λ o. names_line o.number) a ∙ opened_names_none nx ny nz grey room) refl, ap (λ o. o.state) same)

pub one_next_answer : (layer : List ℕ) (before : Rooms) (room : List ℕ) (r q : Result Answered Refusal) (after rest : Rooms) (state other : List ℕ)
    → Layers layer before room (answered r after state) → Layers layer before room (answered q rest other) → (r ≡ q) × (after ≡ rest) × (state ≡ other)
one_next_answer layer before room r q after rest state other a b =
    let same = one_layered layer before room (answered r after state) (answered q rest other) a b in
    (same_answer none r q (ap (λ o. o.number) same) (ap (λ o. names_line o.number) a ∙ layered_names_none before room layer) (ap counted same), ap (λ o. o.rooms) same, ap (λ o. o.state) same)

pub one_close_answer : (before : Rooms) (room : List ℕ) (r q : Result ℕ Refusal) (after rest : Rooms) (state other : List ℕ) → Closes before room (closing_answered r after state)
    → Closes before room (closing_answered q rest other) → (r ≡ q) × (after ≡ rest) × (state ≡ other)
one_close_answer before room r q after rest state other a b =
    let same = one_closed before room (closing_answered r after state) (closing_answered q rest other) a b in
    (same_answer 0 r q (ap (λ o. o.number) same) (ap (λ o. names_line o.number) a ∙ closed_names_none before room) (ap (λ o. o.point_count) same), ap (λ o. o.rooms) same, ap (λ o. o.state) same)
