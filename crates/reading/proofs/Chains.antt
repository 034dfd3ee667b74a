-- Lines that fit one after the other, each the bound that the one before it sets.
use mathlib.Core.List.{List, [], ◌∷◌}
use Prim.Native.Nat.{ℕ, zero, suc, ◌<◌}
use native.Mathlib.Omega.{arith}
use lib.ListN.{length, get_or}
use Rattle.laws.specs.Sum.{All}
use Rattle.reading.proofs.Following.{Chain}

module _ {A : Type 0} (Fits : ℕ → A → Type 0) (next : A → ℕ) where
  -- a chain, from what each line is at its place
  pub chain_places : (d : A) (xs : List A) (bound : ℕ) → (0 < length xs → Fits bound (get_or xs 0 d)) → ((i : ℕ) → suc i < length xs → Fits (next (get_or xs i d)) (get_or xs (suc i) d))
      → Chain Fits next bound xs
  chain_places d [] bound first later = tt
  chain_places d (x ∷ xs) bound first later = (first (omega arith), chain_places d xs (next x) (λ l. later 0 (omega arith)) (λ i l. later (suc i) (omega arith)))

  -- and back
  pub chain_next : (d : A) (xs : List A) (bound i : ℕ) → Chain Fits next bound xs → suc i < length xs → Fits (next (get_or xs i d)) (get_or xs (suc i) d)
  chain_next d [] bound i c l = absurd (omega arith)
  chain_next d (x ∷ []) bound zero c l = absurd (omega arith)
  chain_next d (x ∷ y ∷ xs) bound zero c l = c.1.0
  chain_next d (x ∷ xs) bound (suc i) c l = chain_next d xs (next x) i c.1 (omega arith)

  -- what holds of every line that fits
  pub chain_all : (P : A → Type 0) → ((bound : ℕ) (a : A) → Fits bound a → P a) → (xs : List A) (bound : ℕ) → Chain Fits next bound xs → All P xs
  chain_all P h [] bound c = tt
  chain_all P h (x ∷ xs) bound c = (h bound x c.0, chain_all P h xs (next x) c.1)

-- where no line sets a bound
pub free_chain : {A : Type 0} (Fits : A → Type 0) (xs : List A) (bound : ℕ) → All Fits xs → Chain (λ bound a. Fits a) (λ a. 0) bound xs
free_chain Fits [] bound a = tt
free_chain Fits (x ∷ xs) bound a = (a.0, free_chain Fits xs 0 a.1)
