-- The numbers of a block worked out without looking into blocks wholly outside the grid: so that figures can be computed.
use mathlib.Core.Path.{◌≡◌, refl, sym, ◌∙◌}
use mathlib.Core.Bool.{Bool, true, false, cond}
use mathlib.Core.List.{List}
use Prim.Native.Nat.{ℕ, zero, suc, ◌+◌, ◌*◌, ◌^◌, min, max}
use native.Mathlib.Omega.{arith}
use Rattle.laws.specs.Least.{gathered}
use Rattle.cube.specs.Cube.{corner_x, corner_y, corner_z}
use Rattle.grid.specs.Limits.{most_number, halvings}
use Rattle.grid.specs.Grid.{Size}
use Rattle.summary.specs.Blocks.{in_grid, eight, half, cube_number, block_number, summary_of}
use Rattle.summary.specs.Steps.{finds, step_at, looked, opened}
use Rattle.summary.proofs.Numbers.{least_outside, greatest_outside, begins_outside}
use Rattle.summary.proofs.Found.{Within, step_is, looked_same, opened_same}

module _ (op : ℕ → ℕ → ℕ) (outside : ℕ) (n : Size) (samples : List ℕ) where
  unfoldable pub quick_number : ℕ → ℕ → ℕ → ℕ → ℕ
  quick_number zero x y z = cube_number op outside n samples x y z
  quick_number (suc j) x y z = cond (in_grid n (2 ^ suc j * x) (2 ^ suc j * y) (2 ^ suc j * z)) (gathered op (half (quick_number j) x y z) eight) outside

  quick_is : ((j x y z : ℕ) → in_grid n (2 ^ j * x) (2 ^ j * y) (2 ^ j * z) ≡ false → block_number op outside n samples j x y z ≡ outside)
      → (j x y z : ℕ) → quick_number j x y z ≡ block_number op outside n samples j x y z
  unfolding quick_number block_number
  quick_is out zero x y z = refl
  quick_is out (suc j) x y z = go (in_grid n (2 ^ suc j * x) (2 ^ suc j * y) (2 ^ suc j * z)) refl (quick_is out j)
    where
      go : (t : Bool) → in_grid n (2 ^ suc j * x) (2 ^ suc j * y) (2 ^ suc j * z) ≡ t
          → ((a b c : ℕ) → quick_number j a b c ≡ block_number op outside n samples j a b c)
          → cond t (gathered op (half (quick_number j) x y z) eight) outside ≡ gathered op (half (block_number op outside n samples j) x y z) eight
      go true e same =
          λ i. gathered op (λ h. same (2 * x + corner_x h) (2 * y + corner_y h) (2 * z + corner_z h) i) eight
      go false e same = sym (out (suc j) x y z e)

module _ (n : Size) (samples : List ℕ) (grey : ℕ) where
  abbrev pub quick_step : ℕ → ℕ → ℕ → ℕ → Bool
  quick_step j x y z = finds grey (quick_number min most_number n samples j x y z) (quick_number max 0 n samples j x y z)

  quick_step_lem : (j x y z : ℕ) → Within j x y z → step_at (summary_of n samples) grey j x y z ≡ quick_step j x y z
  quick_step_lem j x y z w =
      let least = quick_is min most_number n samples (λ j x y z out. least_outside n samples j x y z (begins_outside n samples j x y z out)) j x y z in
      let greatest = quick_is max 0 n samples (λ j x y z out. greatest_outside n samples j x y z (begins_outside n samples j x y z out)) j x y z in
      step_is n samples grey j x y z w ∙ sym (λ i. finds grey (least i) (greatest i))

  whole : Within halvings 0 0 0
  whole = record { in_levels = omega arith; in_x = omega arith; in_y = omega arith; in_z = omega arith }

  -- what is looked at and opened by the summary
  pub looked_quick : looked (step_at (summary_of n samples) grey) halvings 0 0 0 ≡ looked quick_step halvings 0 0 0
  looked_quick = looked_same (step_at (summary_of n samples) grey) quick_step quick_step_lem halvings 0 0 0 whole

  pub opened_quick : opened (step_at (summary_of n samples) grey) halvings 0 0 0 ≡ opened quick_step halvings 0 0 0
  opened_quick = opened_same (step_at (summary_of n samples) grey) quick_step quick_step_lem halvings 0 0 0 whole
