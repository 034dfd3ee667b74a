-- A sum over a list does not depend on the list's order.
use mathlib.Core.Path.{◌≡◌, refl, ap}
use mathlib.Core.List.{List, [], ◌∷◌}
use mathlib.Core.Bool.{Bool, true, false, cond, ◌||◌, false≢true}
use Prim.Native.Nat.{ℕ, ◌+◌}
use native.Mathlib.Omega.{arith}
use Rattle.laws.specs.Sum.{sum_of}
use Rattle.laws.specs.Order.{is_in, without, rearranged}
use Rattle.laws.proofs.Tests.{both}

module _ {A : Type 0} (same : A → A → Bool) (sound : (a b : A) → same a b ≡ true → a ≡ b) (v : A → ℕ) where
  sum_without : (a : A) (xs : List A) → is_in same a xs ≡ true → sum_of v xs ≡ v a + sum_of v (without same a xs)
  unfolding sum_of is_in without
  sum_without a [] h = absurd (false≢true h)
  sum_without a (x ∷ xs) h = go (same a x) refl h (λ r. sum_without a xs r)
    where
      go : (b : Bool) → same a x ≡ b → (b || is_in same a xs) ≡ true → (is_in same a xs ≡ true → sum_of v xs ≡ v a + sum_of v (without same a xs))
          → v x + sum_of v xs ≡ v a + sum_of v (cond b xs (x ∷ without same a xs))
      go true e h later = omega (arith, ap v (sound a x e))
      go false e h later = omega (arith, later h)

  pub sum_rearranged : (xs ys : List A) → rearranged same xs ys ≡ true → sum_of v xs ≡ sum_of v ys
  unfolding sum_of rearranged
  sum_rearranged [] [] h = refl
  sum_rearranged [] (y ∷ ys) h = absurd (false≢true h)
  sum_rearranged (x ∷ xs) ys h =
      let p = both (is_in same x ys) (rearranged same xs (without same x ys)) h in
      omega (arith, sum_without x ys p.0, sum_rearranged xs (without same x ys) p.1)
