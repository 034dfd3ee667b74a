-- Numbers parted among classes: what the classes have together is what there is.
use mathlib.Core.Path.{◌≡◌, refl, ◌∙◌}
use mathlib.Core.Bool.{Bool, true, false, cond}
use Prim.Native.Nat.{ℕ, zero, suc, ◌<◌}
use native.Mathlib.Omega.{arith}
use lib.Dec.{eqb}
use Rattle.laws.specs.Range.{sum_to, count_to, one_if}
use Rattle.laws.proofs.Ranges.{sum_cong, sum_add, sum_none, sum_picks}

-- a number below n is in one class
in_one : (n m : ℕ) → m < n → sum_to n (λ i. one_if (eqb m i)) ≡ 1
in_one n m l = sum_cong n (λ i. one_if (eqb m i)) (λ i. cond (eqb m i) 1 0) (λ i k. one (eqb m i)) ∙ sum_picks n m 1 l
  where
    one : (b : Bool) → one_if b ≡ cond b 1 0
    one true = refl
    one false = refl

-- each of v numbers is in one class below n
pub parted : (n v : ℕ) (f : ℕ → ℕ) → ((p : ℕ) → p < v → f p < n) → sum_to n (λ i. count_to v (λ p. eqb (f p) i)) ≡ v
unfolding count_to sum_to
parted n zero f h = sum_none n (λ i. 0) (λ i l. refl)
parted n (suc v) f h =
    sum_add n (λ i. count_to v (λ p. eqb (f p) i)) (λ i. one_if (eqb (f v) i))
    ∙ omega (arith, parted n v f (λ p l. h p (omega arith)), in_one n (f v) (h v (omega arith)))
