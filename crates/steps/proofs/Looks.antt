-- What is counted and what is found from a block on, by what the step at it says.
use mathlib.Core.Path.{◌≡◌, refl, ap, sym, ◌∙◌}
use mathlib.Core.Bool.{Bool, true, false, ◌||◌, or-false}
use mathlib.Core.List.{List}
use Prim.Native.Nat.{ℕ, zero, suc, ◌+◌, ◌*◌, ◌-◌, ◌<◌, ◌≤◌}
use native.Mathlib.Omega.{arith}
use lib.ListN.{get_or}
use Rattle.laws.specs.Bits.{bit}
use Rattle.laws.specs.Range.{sum_to}
use Rattle.grid.specs.Limits.{most_side}
use Rattle.summary.specs.Blocks.{half}
use Rattle.summary.specs.Steps.{looked}
use Rattle.summary.proofs.Looked.{looked_is}
use Rattle.steps.specs.Looks.{found_from, found_in, Marks}
use Rattle.steps.proofs.Marks.{marks_same, from_halves, from_closed}

module _ (step : ℕ → ℕ → ℕ → ℕ → Bool) (x y z : ℕ) where
  -- the block itself is looked at
  pub looked_some : (n : ℕ) → 1 ≤ looked step n x y z
  looked_some n = omega (arith, looked_is step n x y z)

  -- a block that is not found is all that is looked at, and nothing is found
  pub looked_closed : (n : ℕ) → 0 < n → step n x y z ≡ false → looked step n x y z ≡ 1
  unfolding looked
  looked_closed zero l e = absurd (omega arith)
  looked_closed (suc j) l e = rw e

  pub found_closed : (n : ℕ) → 0 < n → step n x y z ≡ false → (words : List ℕ) → Marks words words (found_from step n x y z)
  found_closed zero l e words = absurd (omega arith)
  found_closed (suc j) l e words =
      λ a b c lb lc. sym (ap (λ t. bit (get_or words (b + most_side * c) 0) a || t) (from_closed j x y z a b c step e) ∙ or-false (bit (get_or words (b + most_side * c) 0) a))

  -- from a block that is opened on it is what its halves have
  pub looked_open : (n : ℕ) → 0 < n → step n x y z ≡ true → looked step n x y z ≡ 1 + sum_to 8 (half (looked step (n - 1)) x y z)
  unfolding looked
  looked_open zero l e = absurd (omega arith)
  looked_open (suc j) l e = let back : suc j - 1 ≡ j = omega arith in rw (e, back)

  pub found_open : (n : ℕ) → 0 < n → step n x y z ≡ true → (entry exit : List ℕ) → Marks entry exit (found_in step (n - 1) x y z 8) → Marks entry exit (found_from step n x y z)
  found_open zero l e entry exit m = absurd (omega arith)
  found_open (suc j) l e entry exit m =
      let back : suc j - 1 ≡ j = omega arith in
      marks_same entry exit (found_in step (suc j - 1) x y z 8) (found_from step (suc j) x y z)
      (λ a b c. ap (λ i. found_in step i x y z 8 a b c) back ∙ from_halves j x y z a b c step e) m

  -- eight single cubes
  pub eight_cubes : sum_to 8 (half (looked step 0) x y z) ≡ 8
  unfolding sum_to looked
  eight_cubes = refl
