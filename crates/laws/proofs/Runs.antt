-- The values of a function written into a room from a place on: none, one more, each read back, and one of them changed.
use mathlib.Core.Path.{◌≡◌, refl, ap, sym, ◌∙◌}
use mathlib.Core.List.{List, [], ◌∷◌}
use Prim.Native.Nat.{ℕ, zero, suc, ◌+◌, ◌<◌, ◌≤◌}
use native.Mathlib.Omega.{arith}
use lib.ListN.{length, get_or, set}
use lib.Seq.{sets, set-set}
use Rattle.laws.specs.Range.{join_to}
use Rattle.laws.specs.Values.{list_to}
use Rattle.laws.proofs.Values.{list_next, length_list, list_at, list_change}
use Rattle.laws.proofs.Writes.{sets_append, sets_at, set_before}

-- a store inside a run of writes
sets_inside : {A : Type 0} (room : List A) (at i : ℕ) (xs : List A) (v : A) → i < length xs → set (sets room at xs) (at + i) v ≡ sets room at (set xs i v)
sets_inside room at i [] v l = absurd (omega arith)
sets_inside room at zero (x ∷ xs) v l =
    let e : at + 0 ≡ at = omega arith in
    rw e (set_before (set room at x) at (suc at) xs v (omega arith) ∙ ap (λ r. sets r (suc at) xs) (set-set room at x v))
sets_inside room at (suc i) (x ∷ xs) v l =
    let e : at + suc i ≡ suc at + i = omega arith in
    rw e (sets_inside (set room at x) (suc at) i xs v (omega arith))

module _ {A : Type 0} (room : List A) (at : ℕ) where
  pub run_none : (f : ℕ → A) → sets room at (list_to 0 f) ≡ room
  unfolding list_to join_to
  run_none f = refl

  pub run_more : (n : ℕ) (f : ℕ → A) → set (sets room at (list_to n f)) (at + n) (f n) ≡ sets room at (list_to (n + 1) f)
  run_more n f =
      ap (λ k. set (sets room at (list_to n f)) (at + k) (f n)) (sym (length_list n f))
      ∙ sets_append room at (list_to n f) (f n ∷ [])
      ∙ ap (sets room at) (sym (list_next n f))

  pub run_at : (n i : ℕ) (f : ℕ → A) (d : A) → at + n ≤ length room → i < n → get_or (sets room at (list_to n f)) (at + i) d ≡ f i
  run_at n i f d inside l =
      sets_at room at (list_to n f) i d (omega (arith, length_list n f)) (omega (arith, length_list n f)) ∙ list_at n i f d l

  -- one value changed, there and nowhere else
  pub run_change : (n i : ℕ) (f g : ℕ → A) → i < n → ((k : ℕ) → (k ≡ i → ⊥) → g k ≡ f k) → set (sets room at (list_to n f)) (at + i) (g i) ≡ sets room at (list_to n g)
  run_change n i f g l others = sets_inside room at i (list_to n f) (g i) (omega (arith, length_list n f)) ∙ ap (sets room at) (list_change n i f g l others)
