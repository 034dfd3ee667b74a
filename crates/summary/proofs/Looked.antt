-- Whatever the steps say: the blocks looked at are one, and eight for each that is opened; and no more than there are.
use mathlib.Core.Path.{◌≡◌, refl}
use mathlib.Core.Bool.{Bool, true, false, cond}
use Prim.Native.Nat.{ℕ, zero, suc, ◌+◌, ◌*◌, ◌^◌, ◌≤◌}
use native.Mathlib.Nat.{pow-suc}
use native.Mathlib.Omega.{arith}
use Rattle.laws.specs.Range.{sum_to}
use Rattle.cube.specs.Cube.{corner_x, corner_y, corner_z}
use Rattle.summary.specs.Blocks.{half}
use Rattle.summary.specs.Steps.{looked, opened}

module _ (step : ℕ → ℕ → ℕ → ℕ → Bool) where
  pub looked_is : (j x y z : ℕ) → looked step j x y z ≡ 1 + 8 * opened step j x y z
  unfolding looked opened sum_to
  looked_is zero x y z = refl
  looked_is (suc j) x y z = go (step (suc j) x y z) (λ h. looked_is j (2 * x + corner_x h) (2 * y + corner_y h) (2 * z + corner_z h))
    where
      go : (b : Bool) → ((h : ℕ) → half (looked step j) x y z h ≡ 1 + 8 * half (opened step j) x y z h)
          → 1 + cond b (sum_to 8 (half (looked step j) x y z)) 0 ≡ 1 + 8 * cond b (1 + sum_to 8 (half (opened step j) x y z)) 0
      go true of = omega (arith, of 0, of 1, of 2, of 3, of 4, of 5, of 6, of 7)
      go false of = refl

  -- no more than all the blocks that there are: one, and eight times those from a half on
  pub looked_most : (j x y z : ℕ) → 7 * looked step j x y z + 1 ≤ 8 ^ suc j
  unfolding looked sum_to
  looked_most zero x y z = rw (pow-suc 8 0) (omega arith)
  looked_most (suc j) x y z = go (step (suc j) x y z) (λ h. looked_most j (2 * x + corner_x h) (2 * y + corner_y h) (2 * z + corner_z h))
    where
      go : (b : Bool) → ((h : ℕ) → 7 * half (looked step j) x y z h + 1 ≤ 8 ^ suc j) → 7 * (1 + cond b (sum_to 8 (half (looked step j) x y z)) 0) + 1 ≤ 8 ^ suc (suc j)
      go true of = omega (arith, of 0, of 1, of 2, of 3, of 4, of 5, of 6, of 7, pow-suc 8 (suc j))
      go false of = omega (arith, of 0, pow-suc 8 (suc j))
