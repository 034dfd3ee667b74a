-- Any two outcomes that the promise allows are equal.
use mathlib.Core.Path.{◌≡◌, ap, sym, ◌∙◌}
use mathlib.Core.List.{List}
use mathlib.Core.Bool.{false}
use Prim.Native.Nat.{ℕ}
use native.Mathlib.Omega.{arith}
use Rattle.std.specs.Prelude.{Result}
use Rattle.std.proofs.lemmas.Bool.Decides.{nat_tests}
use Rattle.grid.specs.declared.refusal.Refusal.{Refusal}
use Rattle.grid.specs.Refusal.{told, granted_or}
use Rattle.grid.proofs.Refused.{names_line, same_answer}
use Rattle.writing.specs.Writing.{Outcome, outcome, written, refusal_text, refusal_written}

pub one_refusal : (number at : ℕ) (room : List ℕ) (a b : Outcome) → a ≡ refusal_written number at room → b ≡ refusal_written number at room → a ≡ b
one_refusal number at room a b p q = p ∙ sym q

-- no refusal names a line
pub written_names_none : (text room : List ℕ) → names_line (written text room).number ≡ false
unfolding written
written_names_none text room = grind (arith, nat_tests)

-- so the answer itself is one
pub one_refusal_answer : (number at : ℕ) (room : List ℕ) (r q : Result ℕ Refusal) (after other : List ℕ) → outcome (told r) (granted_or 0 r) after ≡ refusal_written number at room
    → outcome (told q) (granted_or 0 q) other ≡ refusal_written number at room → (r ≡ q) × (after ≡ other)
one_refusal_answer number at room r q after other a b =
    let same = one_refusal number at room (outcome (told r) (granted_or 0 r) after) (outcome (told q) (granted_or 0 q) other) a b in
    let none = ap (λ o. names_line o.number) a ∙ written_names_none (refusal_text number at) room in
    (same_answer 0 r q (ap (λ o. o.number) same) none (ap (λ o. o.length) same), ap (λ o. o.room) same)
