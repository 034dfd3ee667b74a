-- Differences of whole numbers: their sums, and when they fit.
use mathlib.Core.Path.{◌≡◌, refl, ap, sym, ◌∙◌}
use mathlib.Core.List.{List, [], ◌∷◌, ◌++◌}
use mathlib.Core.Bool.{Bool, true, false, cond}
use Prim.Native.Nat.{ℕ, zero, suc, ◌+◌, ◌-◌, ◌<◌, ◌^◌}
use native.Mathlib.Omega.{arith}
use lib.Dec.{ltb}
use lib.IntN.{ℤ, pos, negsuc, neg_ℤ, ◌+ℤ◌, ◌-ℤ◌, +ℤ_assoc, +ℤ_comm, +ℤ_idl, +ℤ_idr, neg_ℤ-+ℤ}
use lib.Signed.{mag}
use mir.Syntax.{w64}
use mir.Val.{SFits}
use Rattle.laws.specs.Sum.{sum_of}
use Rattle.laws.specs.Signed.{sum_of_ℤ}

-- the sum of two differences
pub differences : (a b c d : ℕ) → (pos a -ℤ pos b) +ℤ (pos c -ℤ pos d) ≡ pos (a + c) -ℤ pos (b + d)
differences a b c d =
    +ℤ_assoc (pos a) (neg_ℤ (pos b)) (pos c -ℤ pos d)
    ∙ ap (λ z. pos a +ℤ z) (sym (+ℤ_assoc (neg_ℤ (pos b)) (pos c) (neg_ℤ (pos d))))
    ∙ ap (λ z. pos a +ℤ (z +ℤ neg_ℤ (pos d))) (+ℤ_comm (neg_ℤ (pos b)) (pos c))
    ∙ ap (λ z. pos a +ℤ z) (+ℤ_assoc (pos c) (neg_ℤ (pos b)) (neg_ℤ (pos d)))
    ∙ sym (+ℤ_assoc (pos a) (pos c) (neg_ℤ (pos b) +ℤ neg_ℤ (pos d)))
    ∙ ap (λ z. pos (a + c) +ℤ z) (sym (neg_ℤ-+ℤ (pos b) (pos d)))

module _ {A : Type 0} where
  pub sum_append_ℤ : (v : A → ℤ) (xs : List A) (x : A) → sum_of_ℤ v (xs ++ (x ∷ [])) ≡ sum_of_ℤ v xs +ℤ v x
  unfolding sum_of_ℤ
  sum_append_ℤ v [] x = +ℤ_idr (v x) ∙ sym (+ℤ_idl (v x))
  sum_append_ℤ v (y ∷ xs) x = ap (λ z. v y +ℤ z) (sum_append_ℤ v xs x) ∙ sym (+ℤ_assoc (v y) (sum_of_ℤ v xs) (v x))

  pub sum_differences : (g l : A → ℕ) (xs : List A) → sum_of_ℤ (λ x. pos (g x) -ℤ pos (l x)) xs ≡ pos (sum_of g xs) -ℤ pos (sum_of l xs)
  unfolding sum_of_ℤ sum_of
  sum_differences g l [] = refl
  sum_differences g l (x ∷ xs) = ap (λ z. (pos (g x) -ℤ pos (l x)) +ℤ z) (sum_differences g l xs) ∙ differences (g x) (l x) (sum_of g xs) (sum_of l xs)

-- a difference of two numbers is no larger than the larger
difference_mag : (a b m : ℕ) → a < m → b < m → mag (pos a -ℤ pos b) < m
difference_mag a zero m la lb = omega (arith, la)
difference_mag a (suc b) m la lb = go (ltb a (suc b))
  where
    go : (t : Bool) → mag (cond t (negsuc (suc b - suc a)) (pos (a - suc b))) < m
    go true = omega (arith, lb)
    go false = omega (arith, la)

pub difference_fits : (a b : ℕ) → a < 2 ^ 63 → b < 2 ^ 63 → SFits w64 (pos a -ℤ pos b)
difference_fits a b la lb = record { sfits = difference_mag a b (2 ^ 63) la lb }
