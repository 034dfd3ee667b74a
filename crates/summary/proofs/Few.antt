-- The blocks that are opened are few: each holds a crossed cube, and a cube is in one block of each size.
use mathlib.Core.Path.{◌≡◌, refl, sym, ◌∙◌}
use mathlib.Core.Bool.{Bool, true, false, cond, false≢true}
use mathlib.Core.List.{List}
use Prim.Native.Nat.{ℕ, zero, suc, ◌+◌, ◌*◌, ◌/◌, ◌^◌, ◌<◌, ◌≤◌}
use native.Mathlib.Decide.{dec_lt}
use native.Mathlib.Nat.{pow-zero, div-one, suc-mul}
use native.Mathlib.Omega.{arith}
use lib.ListN.{get_or}
use Rattle.laws.specs.Range.{one_if, sum_to}
use Rattle.laws.proofs.Ranges.{term_le, sum_times}
use Rattle.cube.specs.Cube.{corner_x, corner_y, corner_z}
use Rattle.grid.specs.Limits.{most_number}
use Rattle.grid.specs.Grid.{Size}
use Rattle.summary.specs.Blocks.{half}
use Rattle.summary.specs.Steps.{opened}
use Rattle.summary.proofs.Halves.{half_of, half_small, half_at, wider}
use Rattle.summary.proofs.Numbers.{CubeOf}
use Rattle.summary.proofs.Crossed.{grid_step, crossed_here}
use Rattle.summary.proofs.Alike.{unopened}

module _ (n : Size) (samples : List ℕ) (grey : ℕ) where
  -- the crossed cubes of a block, half by half
  unfoldable pub crossed_in : ℕ → ℕ → ℕ → ℕ → ℕ
  crossed_in zero x y z = one_if (crossed_here n samples grey x y z)
  crossed_in (suc j) x y z = sum_to 8 (half (crossed_in j) x y z)

  -- a crossed cube is counted in each block around it
  counted : (j a b c : ℕ) → one_if (crossed_here n samples grey a b c) ≤ crossed_in j (a / 2 ^ j) (b / 2 ^ j) (c / 2 ^ j)
  unfolding crossed_in
  counted zero a b c = rw (pow-zero 2, div-one a, div-one b, div-one c) (omega arith)
  counted (suc j) a b c =
      let p = a / 2 ^ j in
      let q = b / 2 ^ j in
      let r = c / 2 ^ j in
      rw (wider a j, wider b j, wider c j)
      (omega (
        arith,
        counted j a b c,
        half_at (crossed_in j) p q r,
        term_le 8 (half_of p q r) (half (crossed_in j) (p / 2) (q / 2) (r / 2)) (half_small p q r),
      ))

  module _ (sixteen-bits : (s : ℕ) → get_or samples s 0 ≤ most_number) where
    pub opened_holds_a_crossed_cube : (j x y z : ℕ) → grid_step n samples grey j x y z ≡ true → 1 ≤ crossed_in j x y z
    opened_holds_a_crossed_cube j x y z h = go (dec_lt 0 (crossed_in j x y z))
      where
        none : (crossed_in j x y z ≡ 0) → (a b c : ℕ) → CubeOf j x y z a b c → crossed_here n samples grey a b c ≡ false
        none e a b c cube =
            let most : one_if (crossed_here n samples grey a b c) ≤ crossed_in j x y z
            = rw (← cube.along_x, ← cube.along_y, ← cube.along_z) (counted j a b c) in
            clear (crossed_here n samples grey a b c) (omega (arith, most, e))
          where
            clear : (t : Bool) → one_if t ≡ 0 → t ≡ false
            clear true e = absurd (omega arith)
            clear false e = refl

        go : Dec (0 < crossed_in j x y z) → 1 ≤ crossed_in j x y z
        go (yes l) = omega arith
        go (no ge) = absurd (false≢true (sym (unopened n samples grey sixteen-bits j x y z (none (omega arith))) ∙ h))

    pub few_opened : (j x y z : ℕ) → opened (grid_step n samples grey) j x y z ≤ j * crossed_in j x y z
    unfolding opened crossed_in
    few_opened zero x y z = omega arith
    few_opened (suc j) x y z =
        go (grid_step n samples grey (suc j) x y z) refl
        (sum_times j 8 (half (opened (grid_step n samples grey) j) x y z) (half (crossed_in j) x y z)
        (λ h l. few_opened j (2 * x + corner_x h) (2 * y + corner_y h) (2 * z + corner_z h)))
      where
        go : (t : Bool) → grid_step n samples grey (suc j) x y z ≡ t
            → sum_to 8 (half (opened (grid_step n samples grey) j) x y z) ≤ j * sum_to 8 (half (crossed_in j) x y z)
            → cond t (1 + sum_to 8 (half (opened (grid_step n samples grey) j) x y z)) 0 ≤ suc j * sum_to 8 (half (crossed_in j) x y z)
        go true e below =
            omega (arith, below, opened_holds_a_crossed_cube (suc j) x y z e, suc-mul j (sum_to 8 (half (crossed_in j) x y z)))
        go false e below = omega arith
