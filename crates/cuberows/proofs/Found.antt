-- Words of found cubes: what a stretch takes of those of its layer, and that what they owe depends on which samples of the grid are above, and on nothing else.
use mathlib.Core.Path.{◌≡◌, refl, ap, sym, ◌∙◌}
use mathlib.Core.List.{List, []}
use mathlib.Core.Bool.{Bool, cond}
use Prim.Native.Nat.{ℕ, ◌+◌, ◌-◌, ◌<◌}
use native.Mathlib.Omega.{arith}
use borrow.Author.Tests.{lt-ltb, ltb-true, le-leb}
use lib.ListN.{length}
use Rattle.laws.specs.Bits.{word_bits}
use Rattle.cube.specs.Answer.{count}
use Rattle.grid.specs.Grid.{Size, sample_count}
use Rattle.grid.proofs.Same.{case_same}
use Rattle.grid.specs.Work.{found_row}
use Rattle.masks.specs.Masks.{word_cubes}
use Rattle.rows.specs.declared.Sides.{Sides}
use Rattle.rows.specs.declared.Stretch.{Stretch}
use Rattle.rows.specs.Rows.{size_of, words_above, Ready, Stands, first_x, own_cubes, cubes_mask}
use Rattle.rows.proofs.Stretches.{cubes_set}
use Rattle.cuberows.specs.Cubes.{FoundIn, FoundCubes, RowFound}
use Rattle.cuberows.proofs.Layers.{corners, cube_is}

-- where none are lent, nothing is owed
pub none_owed : (n : Size) (above : ℕ → Bool) (z : ℕ) → FoundIn n above [] z
none_owed n above z some = absurd (some refl)

module _ (sides : Sides) (masks : List ℕ) (z : ℕ) (ready : Ready sides z masks) (at : Stretch) (stands : Stands sides z at) (hy : at.y + 1 < sides.ny) (hz : z + 1 < sides.nz) where
  -- a row has no more samples than a word, so it is one stretch
  row_whole : (first_x sides at ≡ 0) × (own_cubes at.left + 1 ≡ sides.nx)
  row_whole =
      let most = ready.fit.most_x in
      let left : at.left ≡ sides.nx = omega (arith, most, stands.along, stands.some) in
      (omega arith, omega (arith, most, stands.some, ap (λ t. cond t (at.left - 1) word_cubes) (le-leb at.left word_bits (omega arith))))

  -- and the word of the row has the busy ones of the stretch's cubes
  pub row_found : (found : List ℕ) → FoundIn (size_of sides) (words_above sides masks) found z → (length found ≡ 0 → ⊥)
      → RowFound found (found_row at.y z) (corners sides masks z ready at stands hy hz) (cubes_mask sides at.left)
  row_found found by some =
      let here = by some in
      let own : ℕ = own_cubes at.left in
      let mask = cubes_set sides masks z ready at stands in
      record {
        listed = here.listed at.y hy;
        busy = record {
          inside = λ i set. mask i ∙ lt-ltb i own (omega (arith, row_whole, here.inside i at.y hy set));
          quiet = λ i mine clear.
              let l : i < own = ltb-true i own (sym (mask i) ∙ mine) in
              let x : first_x sides at + i ≡ i = omega (arith, row_whole) in
              rw (cube_is sides masks z ready at stands hy hz i l, x) (here.quiet i at.y (omega (arith, row_whole)) hy clear);
        };
      }

module _ (n : Size) (px : 0 < n.nx) (py : 0 < n.ny) (above other : ℕ → Bool) (same : (s : ℕ) → s < sample_count n → above s ≡ other s) where
  pub found_same : (found : List ℕ) → FoundCubes n other found → FoundCubes n above found
  found_same found by z hz some =
      let here = by z hz some in
      record { listed = here.listed; inside = here.inside; quiet = λ x y hx hy clear. ap count (case_same n px py above other same x y z (omega arith) (omega arith) (omega arith)) ∙ here.quiet x y hx hy clear }
