-- A single cube is found exactly when it is crossed.
use mathlib.Core.Path.{◌≡◌, refl, ap₂, sym, ◌∙◌}
use mathlib.Core.Bool.{Bool, true, false, not, cond, ◌&&◌, and_comm, and-false}
use mathlib.Core.List.{List}
use Prim.Native.Nat.{ℕ, zero, suc, ◌/◌, ◌^◌, ◌<◌, ◌≤◌, min, max}
use native.Mathlib.Nat.{pow-zero, div-one}
use native.Mathlib.Omega.{arith}
use lib.Dec.{leb, ltb}
use borrow.Author.Tests.{ltb-true, ltb-false, leb-true, leb-false, lt-ltb, le-leb, lt-leb}
use Rattle.laws.specs.Range.{some_to}
use Rattle.laws.specs.Least.{gathered}
use Rattle.laws.proofs.Tests.{both}
use Rattle.laws.proofs.Some.{some_true, some_false}
use Rattle.grid.specs.Limits.{most_number}
use Rattle.grid.specs.Grid.{Size, is_above_grey}
use Rattle.summary.specs.Blocks.{in_grid, eight, cube_number, block_number, block_least, block_greatest}
use Rattle.summary.specs.Steps.{finds, found}
use Rattle.summary.specs.Crossed.{is_crossed}
use Rattle.summary.proofs.Halves.{wider}
use Rattle.summary.proofs.Numbers.{corner_sample, least_of_eight, greatest_of_eight, some_least, some_greatest, least_narrower, greatest_narrower}

-- what a step finds, and when it does
pub finds_both : (grey least greatest : ℕ) → finds grey least greatest ≡ true → (least < grey) × (grey ≤ greatest)
unfolding finds
finds_both grey least greatest h = let s = both _ _ h in (ltb-true _ _ s.0, leb-true _ _ s.1)

pub both_finds : (grey least greatest : ℕ) → least < grey → grey ≤ greatest → finds grey least greatest ≡ true
unfolding finds
both_finds grey least greatest l g = rw (lt-ltb least grey l, le-leb grey greatest g)

module _ (grey : ℕ) (v : ℕ → ℕ) where
  -- the least of eight is below the grey value if one of them is
  some_below : ltb (gathered min v eight) grey ≡ some_to 8 (λ c. not (leb grey (v c)))
  some_below = go (ltb (gathered min v eight) grey) refl
    where
      go : (t : Bool) → ltb (gathered min v eight) grey ≡ t → ltb (gathered min v eight) grey ≡ some_to 8 (λ c. not (leb grey (v c)))
      go true e =
          let o = some_least v in
          e ∙ sym (some_true 8 (λ c. not (leb grey (v c))) o.which o.small (rw (lt-leb grey (v o.which) (omega (arith, o.worth, ltb-true (gathered min v eight) grey e)))))
      go false e =
          e ∙ sym (some_false 8 (λ c. not (leb grey (v c))) (λ i l. rw (le-leb grey (v i) (omega (arith, least_of_eight v i l, ltb-false (gathered min v eight) grey e)))))

  -- the greatest is not if one of them isn't
  some_above : leb grey (gathered max v eight) ≡ some_to 8 (λ c. leb grey (v c))
  some_above = go (leb grey (gathered max v eight)) refl
    where
      go : (t : Bool) → leb grey (gathered max v eight) ≡ t → leb grey (gathered max v eight) ≡ some_to 8 (λ c. leb grey (v c))
      go true e =
          let o = some_greatest v in
          e ∙ sym (some_true 8 (λ c. leb grey (v c)) o.which o.small (le-leb grey (v o.which) (omega (arith, o.worth, leb-true grey (gathered max v eight) e))))
      go false e =
          e ∙ sym (some_false 8 (λ c. leb grey (v c)) (λ i l. lt-leb grey (v i) (omega (arith, greatest_of_eight v i l, leb-false grey (gathered max v eight) e))))

-- what the step says of a block of a grid
abbrev pub grid_step : Size → List ℕ → ℕ → ℕ → ℕ → ℕ → ℕ → Bool
grid_step n samples grey j x y z = finds grey (block_least n samples j x y z) (block_greatest n samples j x y z)

module _ (n : Size) (samples : List ℕ) (grey : ℕ) where
  -- a cube in the grid with a corner above and a corner below
  abbrev pub crossed_here : ℕ → ℕ → ℕ → Bool
  crossed_here x y z = in_grid n x y z && is_crossed n (is_above_grey grey samples) x y z

  -- the step at a single cube
  pub cube_step : (x y z : ℕ) → grid_step n samples grey zero x y z ≡ crossed_here x y z
  unfolding block_number cube_number finds is_crossed is_above_grey
  cube_step x y z = go (in_grid n x y z)
    where
      v : ℕ → ℕ
      v = corner_sample n samples x y z

      go : (t : Bool) → (ltb (cond t (gathered min v eight) most_number) grey && leb grey (cond t (gathered max v eight) 0))
          ≡ (t && (some_to 8 (λ c. leb grey (v c)) && some_to 8 (λ c. not (leb grey (v c)))))
      go true = ap₂ ◌&&◌ (some_below grey v) (some_above grey v) ∙ and_comm (some_to 8 (λ c. not (leb grey (v c)))) (some_to 8 (λ c. leb grey (v c)))
      go false = neither (ltb most_number grey) refl
        where
          neither : (t : Bool) → ltb most_number grey ≡ t → (ltb most_number grey && leb grey 0) ≡ false
          neither true e = rw (e, lt-leb grey 0 (omega (arith, ltb-true most_number grey e)))
          neither false e = rw e

  -- a step that finds a block finds every block around it
  step_wider : (j x y z : ℕ) → grid_step n samples grey j x y z ≡ true → grid_step n samples grey (suc j) (x / 2) (y / 2) (z / 2) ≡ true
  step_wider j x y z h =
      let f = finds_both grey (block_least n samples j x y z) (block_greatest n samples j x y z) h in
      both_finds grey (block_least n samples (suc j) (x / 2) (y / 2) (z / 2)) (block_greatest n samples (suc j) (x / 2) (y / 2) (z / 2))
      (omega (arith, f.0, least_narrower n samples j x y z))
      (omega (arith, f.1, greatest_narrower n samples j x y z))

  around_found : (j x y z : ℕ) → grid_step n samples grey zero x y z ≡ true → grid_step n samples grey j (x / 2 ^ j) (y / 2 ^ j) (z / 2 ^ j) ≡ true
  around_found zero x y z h = rw (pow-zero 2, div-one x, div-one y, div-one z) h
  around_found (suc j) x y z h =
      rw (wider x j, wider y j, wider z j) (step_wider j (x / 2 ^ j) (y / 2 ^ j) (z / 2 ^ j) (around_found j x y z h))

  -- so a cube is found if the step at it finds it
  pub found_is_step : (j x y z : ℕ) → found (grid_step n samples grey) j x y z ≡ grid_step n samples grey zero x y z
  unfolding found
  found_is_step zero x y z = refl
  found_is_step (suc j) x y z = rw (found_is_step j x y z) (go (grid_step n samples grey zero x y z) refl)
    where
      go : (t : Bool) → grid_step n samples grey zero x y z ≡ t
          → (grid_step n samples grey (suc j) (x / 2 ^ suc j) (y / 2 ^ suc j) (z / 2 ^ suc j) && t) ≡ t
      go true e = rw (around_found (suc j) x y z e)
      go false e = and-false (grid_step n samples grey (suc j) (x / 2 ^ suc j) (y / 2 ^ suc j) (z / 2 ^ suc j))
