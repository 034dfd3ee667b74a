-- Any two outcomes that a promise allows are equal.
use mathlib.Core.Path.{◌≡◌, ap, sym, ◌∙◌}
use mathlib.Core.List.{List, []}
use mathlib.Core.Bool.{Bool, false}
use Prim.Native.Nat.{ℕ}
use native.Mathlib.Omega.{arith}
use lib.ListN.{length}
use denote.Ref.{Bor}
use Rattle.std.specs.Prelude.{Result, Ok, Err, MatchResult}
use Rattle.std.specs.Result.{result_map_both}
use Rattle.std.proofs.lemmas.Bool.Decides.{nat_tests}
use Rattle.grid.specs.declared.refusal.Refusal.{Refusal}
use Rattle.grid.specs.Refusal.{number_of, told, granted_or}
use Rattle.grid.proofs.Refused.{names_line, same_answer}
use Rattle.show.specs.Show.{show_number}
use Rattle.show.specs.Promise.{Shown, Shows}

pub one_shown : (raw smoothed : List ℕ) (second : Bool) (point : ℕ) (part other : List ℕ) (n m : ℕ) → Shown raw smoothed second point part n → Shown raw smoothed second point other m → (part ≡ other) × (n ≡ m)
one_shown raw smoothed second point part other n m a b = (a.0 ∙ sym b.0, a.1 ∙ sym b.1)

pub one_shows : (raw smoothed : List ℕ) (second point : ℕ) (held : List ℕ) (n m : ℕ) (after other : List ℕ) → Shows raw smoothed second point held n after → Shows raw smoothed second point held m other → (n ≡ m) × (after ≡ other)
one_shows raw smoothed second point held n m after other a b = (a.0 ∙ sym b.0, a.1 ∙ sym b.1)

-- no refusal names a line
show_names_none : (raw smoothed point : ℕ) → names_line (show_number raw smoothed point) ≡ false
unfolding show_number
show_names_none raw smoothed point = grind (arith, nat_tests)

-- what the call promises of its answer; and the answer, with the numbers of its part in place of where they lie
abbrev pub Answers : List ℕ → List ℕ → Bool → ℕ → Result (Bor (List ℕ)) Refusal → Type 0
Answers raw smoothed second point r = MatchResult r (λ part. Shown raw smoothed second point part.now 0) (λ e. Shown raw smoothed second point [] (number_of e))

abbrev pub seen : Result (Bor (List ℕ)) Refusal → Result (List ℕ) Refusal
seen r = result_map_both (λ part. part.now) (λ e. e) r

shown_of : (raw smoothed : List ℕ) (second : Bool) (point : ℕ) (r : Result (Bor (List ℕ)) Refusal) → Answers raw smoothed second point r
    → Shown raw smoothed second point (granted_or [] (seen r)) (told (seen r))
shown_of raw smoothed second point (Ok part) a = a
shown_of raw smoothed second point (Err e) a = a

-- so the answer itself is one
pub one_show_answer : (raw smoothed : List ℕ) (second : Bool) (point : ℕ) (r q : Result (Bor (List ℕ)) Refusal) → Answers raw smoothed second point r → Answers raw smoothed second point q → seen r ≡ seen q
one_show_answer raw smoothed second point r q a b =
    let one = shown_of raw smoothed second point r a in
    let other = shown_of raw smoothed second point q b in
    let none = ap names_line one.1 ∙ show_names_none (length raw) (length smoothed) point in
    same_answer [] (seen r) (seen q) (one.1 ∙ sym other.1) none (one.0 ∙ sym other.0)
