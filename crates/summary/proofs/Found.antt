-- The steps over the summary of a grid, which are given no samples, are those over the numbers of its blocks: what they find, how many they are, and that they are few.
use mathlib.Core.Path.{◌≡◌, refl, ap, ap₂, sym, subst, ◌∙◌}
use mathlib.Core.Bool.{Bool, cond, ◌&&◌}
use mathlib.Core.List.{List}
use Prim.Native.Nat.{ℕ, zero, suc, ◌+◌, ◌*◌, ◌-◌, ◌/◌, ◌^◌, ◌<◌, ◌≤◌}
use native.Mathlib.Nat.{pow-suc, add-zero, div-lt_iff_lt-mul}
use native.Mathlib.Omega.{arith}
use lib.ListN.{get_or}
use lib.Pow.{pow_pos, pow-add}
use Rattle.laws.proofs.Ranges.{sum_cong}
use Rattle.cube.specs.Cube.{corner_x, corner_y, corner_z}
use Rattle.grid.specs.Limits.{halvings, most_number}
use Rattle.grid.specs.Grid.{Size, is_above_grey}
use Rattle.grid.specs.Work.{size, SidesFit}
use Rattle.summary.specs.Blocks.{in_grid, block_least, block_greatest, place_of, summary_of}
use Rattle.summary.specs.Steps.{finds, step_at, looked, opened, found}
use Rattle.summary.specs.Crossed.{is_crossed, crossed_cubes}
use Rattle.summary.proofs.Looked.{looked_is}
use Rattle.summary.proofs.Crossed.{grid_step, cube_step, found_is_step}
use Rattle.summary.proofs.Few.{few_opened}
use Rattle.summary.proofs.Counted.{all_crossed}
use Rattle.summary.proofs.Places.{numbers_at_lem}

-- block (x, y, z), which can be halved j times, is one of the whole block's
pub record Within (j x y z : ℕ) : Type 0 where
  pub in_levels : j ≤ halvings
  pub in_x : x < 2 ^ (halvings - j)
  pub in_y : y < 2 ^ (halvings - j)
  pub in_z : z < 2 ^ (halvings - j)

-- a half of it, and the block around a cube
twice : (j : ℕ) → suc j ≤ halvings → 2 ^ (halvings - j) ≡ 2 ^ (halvings - suc j) * 2
twice j l =
    let e : halvings - j ≡ suc (halvings - suc j) = omega arith in
    ap (λ k. 2 ^ k) e ∙ pow-suc 2 (halvings - suc j)

pub half_within : (j x y z h : ℕ) → Within (suc j) x y z → Within j (2 * x + corner_x h) (2 * y + corner_y h) (2 * z + corner_z h)
half_within j x y z h w =
    let t = twice j w.in_levels in
    record { in_levels = omega (arith, w.in_levels); in_x = omega (arith, t, w.in_x); in_y = omega (arith, t, w.in_y); in_z = omega (arith, t, w.in_z) }

pub around_within : (j x y z : ℕ) → j ≤ halvings → x < 2 ^ halvings → y < 2 ^ halvings → z < 2 ^ halvings → Within j (x / 2 ^ j) (y / 2 ^ j) (z / 2 ^ j)
around_within j x y z l lx ly lz =
    let whole : 2 ^ halvings ≡ 2 ^ (halvings - j) * 2 ^ j
    = ap (λ k. 2 ^ k) (let e : halvings ≡ halvings - j + j = omega arith in e) ∙ pow-add 2 (halvings - j) j in
    let at : (a : ℕ) → a < 2 ^ halvings → a / 2 ^ j < 2 ^ (halvings - j) = λ a la. (div-lt_iff_lt-mul (pow_pos j)).1 (subst (λ t. a < t) whole la) in
    record { in_levels = l; in_x = at x lx; in_y = at y ly; in_z = at z lz }

-- steps that say the same of each of these blocks look at as many and find the same cubes
module _ (step other : ℕ → ℕ → ℕ → ℕ → Bool) (same : (j x y z : ℕ) → Within j x y z → step j x y z ≡ other j x y z) where
  pub looked_same : (j x y z : ℕ) → Within j x y z → looked step j x y z ≡ looked other j x y z
  unfolding looked
  looked_same zero x y z w = refl
  looked_same (suc j) x y z w =
      ap₂ (λ b s. 1 + cond b s 0) (same (suc j) x y z w) (sum_cong 8 _ _ (λ h l. looked_same j _ _ _ (half_within j x y z h w)))

  pub opened_same : (j x y z : ℕ) → Within j x y z → opened step j x y z ≡ opened other j x y z
  unfolding opened
  opened_same zero x y z w = refl
  opened_same (suc j) x y z w =
      ap₂ (λ b s. cond b (1 + s) 0) (same (suc j) x y z w) (sum_cong 8 _ _ (λ h l. opened_same j _ _ _ (half_within j x y z h w)))

  pub found_same : (j x y z : ℕ) → j ≤ halvings → x < 2 ^ halvings → y < 2 ^ halvings → z < 2 ^ halvings → found step j x y z ≡ found other j x y z
  unfolding found
  found_same zero x y z l lx ly lz = same zero x y z (record { in_levels = l; in_x = lx; in_y = ly; in_z = lz })
  found_same (suc j) x y z l lx ly lz =
      ap₂ ◌&&◌ (same (suc j) _ _ _ (around_within (suc j) x y z l lx ly lz)) (found_same j x y z (omega arith) lx ly lz)

module _ (n : Size) (samples : List ℕ) (grey : ℕ) where
  abbrev list_step : ℕ → ℕ → ℕ → ℕ → Bool
  list_step = step_at (summary_of n samples) grey

  pub step_is : (j x y z : ℕ) → Within j x y z → list_step j x y z ≡ grid_step n samples grey j x y z
  unfolding step_at
  step_is j x y z w =
      let k = halvings - j in
      let left : halvings - k ≡ j = omega (arith, w.in_levels) in
      let least = numbers_at_lem n samples k x y z 0 (omega arith) w.in_x w.in_y w.in_z (omega arith) in
      let greatest = numbers_at_lem n samples k x y z 1 (omega arith) w.in_x w.in_y w.in_z (omega arith) in
      ap₂ (finds grey)
      (ap (λ p. get_or (summary_of n samples) p 0) (sym (add-zero (place_of k x y z))) ∙ least ∙ ap (λ i. block_least n samples i x y z) left)
      (greatest ∙ ap (λ i. block_greatest n samples i x y z) left)

  -- a single cube is found exactly when it is in the grid and crossed
  pub found_is_crossed : (x y z : ℕ) → x < 2 ^ halvings → y < 2 ^ halvings → z < 2 ^ halvings
      → found list_step halvings x y z ≡ (in_grid n x y z && is_crossed n (is_above_grey grey samples) x y z)
  found_is_crossed x y z lx ly lz =
      found_same list_step (grid_step n samples grey) step_is halvings x y z (omega arith) lx ly lz
      ∙ found_is_step n samples grey halvings x y z
      ∙ cube_step n samples grey x y z

-- with c crossed cubes at most 1 + 48c blocks are looked at
pub few_looks : (nx ny nz grey : ℕ) (samples : List ℕ) → SidesFit nx ny nz → ((s : ℕ) → get_or samples s 0 ≤ most_number)
    → looked (step_at (summary_of (size nx ny nz) samples) grey) halvings 0 0 0 ≤ 1 + 8 * halvings * crossed_cubes (size nx ny nz) (is_above_grey grey samples)
few_looks nx ny nz grey samples fits sixteen-bits =
    let n = size nx ny nz in
    let whole : Within halvings 0 0 0 = record { in_levels = omega arith; in_x = omega arith; in_y = omega arith; in_z = omega arith } in
    omega (
      arith,
      looked_is (step_at (summary_of n samples) grey) halvings 0 0 0,
      opened_same (step_at (summary_of n samples) grey) (grid_step n samples grey) (step_is n samples grey) halvings 0 0 0 whole,
      few_opened n samples grey sixteen-bits halvings 0 0 0,
      all_crossed n samples grey (omega (arith, fits.most_x)) (omega (arith, fits.most_y)) (omega (arith, fits.most_z)),
    )

-- two grids with the same summary have the same steps, as many, and the same cubes found
pub steps_blind : (n m : Size) (samples others : List ℕ) (grey : ℕ) → summary_of n samples ≡ summary_of m others
    → (looked (step_at (summary_of n samples) grey) ≡ looked (step_at (summary_of m others) grey)) × (found (step_at (summary_of n samples) grey) ≡ found (step_at (summary_of m others) grey))
steps_blind n m samples others grey same = (ap (λ list. looked (step_at list grey)) same, ap (λ list. found (step_at list grey)) same)
