-- The cubes that the steps found are those that may have a triangle: what the walk along the cubes asks of lent words.
use mathlib.Core.Path.{◌≡◌, ap, sym, subst, ◌∙◌}
use mathlib.Core.Bool.{Bool, true, false, ◌&&◌, ◌||◌}
use mathlib.Core.List.{List}
use Prim.Native.Nat.{ℕ, ◌+◌, ◌*◌, ◌-◌, ◌<◌}
use native.Mathlib.Omega.{arith}
use lib.ListN.{length, get_or}
use Rattle.laws.specs.Range.{one_if}
use Rattle.laws.specs.Bits.{bit, bits}
use Rattle.laws.proofs.Tests.{both}
use Rattle.laws.proofs.Halves.{bit_of_zero}
use Rattle.cube.specs.Cube.{cases, case_of}
use Rattle.cube.specs.Answer.{count}
use Rattle.grid.specs.Limits.{halvings, most_side}
use Rattle.grid.specs.Grid.{Size, is_above_grey}
use Rattle.grid.specs.Mesh.{corner_site, case_at}
use Rattle.grid.specs.Work.{size, SidesFit, is_found}
use Rattle.cuberows.specs.Cubes.{FoundCubes}
use Rattle.cuberows.proofs.Cases.{whole_cube}
use Rattle.summary.specs.Blocks.{in_grid, is_summary}
use Rattle.summary.specs.Steps.{step_at, found}
use Rattle.summary.specs.Crossed.{is_crossed}
use Rattle.summary.proofs.Numbers.{in_grid_lem, is_in_grid}
use Rattle.summary.proofs.Alike.{corners_alike}
use Rattle.summary.proofs.Found.{found_is_crossed}
use Rattle.summary.proofs.Places.{the_summary}
use Rattle.steps.specs.Looks.{is_in, found_words, found_from, Marks}
use Rattle.steps.proofs.Marks.{is_in_lem, in_is}

-- a case of eight corners that are alike
all_same : (b : Bool) (at : ℕ → Bool) → ((c : ℕ) → c < 8 → at c ≡ b) → case_of at ≡ (cases - 1) * one_if b
unfolding case_of bits
all_same b at same =
    rw (same 0 (omega arith), same 1 (omega arith), same 2 (omega arith), same 3 (omega arith), same 4 (omega arith), same 5 (omega arith), same 6 (omega arith), same 7 (omega arith))
    (omega arith)

-- a cube that is not crossed has no triangle
pub uncrossed_empty : (n : Size) (above : ℕ → Bool) (x y z : ℕ) → is_crossed n above x y z ≡ false → count (case_at n above x y z) ≡ 0
unfolding case_at
uncrossed_empty n above x y z h =
    let at : ℕ → Bool = λ c. above (corner_site n x y z c) in
    let same : (c : ℕ) → c < 8 → at c ≡ at 0 = λ c l. corners_alike n above x y z h c 0 l (omega arith) in
    ap count (all_same (at 0) at same) ∙ whole_cube (at 0)

-- the words that the steps leave, from words that are zero
module _ (nx ny nz grey : ℕ) (samples summary entry words : List ℕ) (fits : SidesFit nx ny nz) (right : is_summary (size nx ny nz) samples summary ≡ true)
    (none : (r : ℕ) → get_or entry r 0 ≡ 0) (marks : Marks entry words (found_from (step_at summary grey) halvings 0 0 0)) where
  abbrev n : Size
  n = size nx ny nz

  abbrev crossed : ℕ → ℕ → ℕ → Bool
  crossed x y z = is_crossed n (is_above_grey grey samples) x y z

  -- what a bit says
  told : (x y z : ℕ) → y < most_side → z < most_side → is_found words x y z ≡ (is_in halvings 0 0 0 x y z && found (step_at summary grey) halvings x y z)
  unfolding found_from
  told x y z ly lz =
      marks x y z ly lz
      ∙ ap (λ w. bit w x || found_from (step_at summary grey) halvings 0 0 0 x y z) (none (y + most_side * z))
      ∙ ap (λ t. t || found_from (step_at summary grey) halvings 0 0 0 x y z) (bit_of_zero x)

  found_is : (x y z : ℕ) → x < most_side → y < most_side → z < most_side → found (step_at summary grey) halvings x y z ≡ (in_grid n x y z && crossed x y z)
  found_is x y z lx ly lz =
      ap (λ list. found (step_at list grey) halvings x y z) (the_summary n samples summary right) ∙ found_is_crossed n samples grey x y z lx ly lz

  -- a cube that is found is one of the grid
  pub found_inside : (x y z : ℕ) → y < most_side → z < most_side → is_found words x y z ≡ true → x + 1 < nx
  found_inside x y z ly lz h =
      let s = both (is_in halvings 0 0 0 x y z) (found (step_at summary grey) halvings x y z) (sym (told x y z ly lz) ∙ h) in
      let lx : x < most_side = omega (arith, (is_in_lem halvings 0 0 0 x y z s.0).along_x) in
      let r = both (in_grid n x y z) (crossed x y z) (sym (found_is x y z lx ly lz) ∙ s.1) in
      (in_grid_lem n x y z r.0).along_x

  -- one of the grid that is not has no triangle
  pub found_quiet : (x y z : ℕ) → x + 1 < nx → y + 1 < ny → z + 1 < nz → is_found words x y z ≡ false → count (case_at n (is_above_grey grey samples) x y z) ≡ 0
  found_quiet x y z lx ly lz h =
      let sx : x < most_side = omega (arith, fits.most_x) in
      let sy : y < most_side = omega (arith, fits.most_y) in
      let sz : z < most_side = omega (arith, fits.most_z) in
      let whole = in_is halvings 0 0 0 x y z (record { along_x = omega arith; along_y = omega arith; along_z = omega arith }) in
      let here = is_in_grid n x y z (record { along_x = lx; along_y = ly; along_z = lz }) in
      let not_found : (true && found (step_at summary grey) halvings x y z) ≡ false
      = subst (λ t. (t && found (step_at summary grey) halvings x y z) ≡ false) whole (sym (told x y z sy sz) ∙ h) in
      let not-crossed : (true && crossed x y z) ≡ false
      = subst (λ t. (t && crossed x y z) ≡ false) here (sym (found_is x y z sx sy sz) ∙ not_found) in
      uncrossed_empty n (is_above_grey grey samples) x y z not-crossed

  pub found_cubes : length words ≡ found_words → FoundCubes n (is_above_grey grey samples) words
  found_cubes long z hz some =
      record {
        listed = λ y hy. omega (arith, long, fits.most_y, fits.most_z);
        inside = λ x y hy h. found_inside x y z (omega (arith, fits.most_y)) (omega (arith, fits.most_z)) h;
        quiet = λ x y hx hy h. found_quiet x y z hx hy hz h;
      }
