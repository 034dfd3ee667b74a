-- A layer of cubes, stretch by stretch: what is counted of a stretch, and what is passed.
use mathlib.Core.Path.{◌≡◌, refl, ap, sym, subst, ◌∙◌}
use mathlib.Core.List.{List}
use mathlib.Core.Bool.{Bool, true, false, cond, true≢false}
use Prim.Native.Nat.{ℕ, ◌+◌, ◌*◌, ◌-◌, ◌<◌, ◌≤◌}
use native.Mathlib.Omega.{arith}
use lib.Dec.{ltb}
use lib.ListN.{length, length-map}
use borrow.Author.Tests.{lt-ltb, le-ltb, ltb-true}
use Rattle.laws.specs.Bits.{word_bits, bit}
use Rattle.laws.specs.Range.{sum_to}
use Rattle.laws.specs.Mesh.{rename}
use Rattle.laws.proofs.Ranges.{sum_next, sum_cong, sum_quiet, sum_most}
use Rattle.laws.proofs.Tests.{leb_cases}
use Rattle.laws.proofs.Box.{sum_box, sum_box_cong, length_box}
use Rattle.cube.specs.Answer.{most_case_triangles, count, triangles}
use Rattle.grid.specs.Limits.{most_side}
use Rattle.cube.proofs.Corners.{case_small}
use Rattle.grid.specs.Mode.{cubes}
use Rattle.grid.specs.Mesh.{corner_site, grid_edge, case_at, cube_triangles, edge_mesh}
use Rattle.masks.specs.Masks.{word_cubes}
use Rattle.rows.specs.declared.Sides.{Sides}
use Rattle.rows.specs.declared.Stretch.{Stretch}
use Rattle.rows.specs.Rows.{size_of, words_above, Ready, Stands, first_x, own_cubes, cubes_mask, next_stretch}
use Rattle.rows.proofs.Stretches.{first_x_lem, both_is, among, both_there, cubes_most, cubes_set}
use Rattle.cuberows.specs.declared.Corners.{Corners}
use Rattle.cuberows.specs.Cubes.{corners_at, word_case, BusyCubes, busy_count, stretch_count, cube_case, layer_count}
use Rattle.cuberows.proofs.Cases.{word_case_small, count_most, case_is}

-- no row of cubes has more triangles, and no layer
abbrev pub most_in_row : ℕ
most_in_row = most_case_triangles * (most_side - 1)

abbrev pub most_in_layer : ℕ
most_in_layer = most_in_row * (most_side - 1)

-- at most five triangles a cube
pub busy_most : (m : Corners) (cubes n : ℕ) → sum_to n (busy_count m cubes) ≤ most_case_triangles * n
busy_most m cubes n = sum_most most_case_triangles n (busy_count m cubes) (λ i l. go i (bit cubes i))
  where
    go : (i : ℕ) (b : Bool) → cond b (count (word_case m i)) 0 ≤ most_case_triangles
    go i true = count_most (word_case m i) (word_case_small m i)
    go i false = omega arith

-- how many triangles a layer's cubes have, row by row, up to cube x of row y
abbrev pub counted_to : Sides → List ℕ → ℕ → ℕ → ℕ → ℕ
counted_to sides masks z x y =
    sum_to y (λ y. sum_to (sides.nx - 1) (λ x. count (cube_case sides masks z x y))) + sum_to x (λ x. count (cube_case sides masks z x y))

module _ (sides : Sides) (masks : List ℕ) (z : ℕ) where
  cube_most : (x y : ℕ) → count (cube_case sides masks z x y) ≤ most_case_triangles
  unfolding case_at
  cube_most x y = count_most (cube_case sides masks z x y) (case_small (λ c. words_above sides masks (corner_site (size_of sides) x y z c)))

  pub counted_most : (x y : ℕ) → sides.nx ≤ most_side → counted_to sides masks z x y ≤ most_in_row * y + most_case_triangles * x
  counted_most x y h =
      omega (
        arith,
        sum_most most_in_row y (λ y. sum_to (sides.nx - 1) (λ x. count (cube_case sides masks z x y)))
            (λ y l. omega (arith, sum_most most_case_triangles (sides.nx - 1) (λ x. count (cube_case sides masks z x y)) (λ x k. cube_most x y))),
        sum_most most_case_triangles x (λ x. count (cube_case sides masks z x y)) (λ x k. cube_most x y),
      )

  pub counted_none : 0 ≡ counted_to sides masks z 0 0
  unfolding sum_to
  counted_none = refl

  -- at the end of a row the next begins, and at the end of the last the layer is counted
  pub counted_row : (y : ℕ) → counted_to sides masks z (sides.nx - 1) y ≡ counted_to sides masks z 0 (y + 1)
  unfolding sum_to
  counted_row y = omega (arith, sum_next y (λ y. sum_to (sides.nx - 1) (λ x. count (cube_case sides masks z x y))))

  pub counted_all : counted_to sides masks z 0 (sides.ny - 1) ≡ layer_count sides masks z
  unfolding layer_count sum_to
  counted_all = omega arith

-- the rows that are walked: cubes up to the last but one, of which the one past them is begun and no more
abbrev pub Within : Sides → ℕ → ℕ → Type 0
Within sides x y = (y < sides.ny) × (y + 1 ≡ sides.ny → x ≡ 0)

module _ (sides : Sides) (masks : List ℕ) (z : ℕ) (ready : Ready sides z masks) (at : Stretch) (stands : Stands sides z at) where
  -- What holds past a stretch's cubes holds at the next stretch; at the end of a row that is the next row's beginning.
  pub cubes_next : (P : ℕ → ℕ → Type 0) → (P (sides.nx - 1) at.y → P 0 (at.y + 1)) → P (first_x sides at + own_cubes at.left) at.y
      → P (first_x sides (next_stretch sides at)) (next_stretch sides at).y
  cubes_next P row =
      leb_cases at.left word_bits
      (λ t. P (first_x sides at + cond t (at.left - 1) word_cubes) at.y → P (sides.nx - cond t sides.nx (at.left - word_cubes)) (cond t (at.y + 1) at.y))
      (λ l p.
      let last : first_x sides at + (at.left - 1) ≡ sides.nx - 1 = omega (arith, stands.along, stands.some) in
      let first : 0 ≡ sides.nx - sides.nx = omega arith in
      subst (λ x. P x (at.y + 1)) first (row (subst (λ x. P x at.y) last p)))
      (λ l p.
      let next : first_x sides at + word_cubes ≡ sides.nx - (at.left - word_cubes) = omega (arith, stands.along) in
      subst (λ x. P x at.y) next p)

  module _ (hy : at.y + 1 < sides.ny) (hz : z + 1 < sides.nz) where
    abbrev pub corners : Corners
    corners = corners_at masks sides.words sides.ny at.word

    -- the four words are among the words
    pub corners_there : at.word + sides.words * sides.ny + sides.words < length masks
    corners_there = among sides masks z ready at stands _ (both_there sides masks z ready at stands hy hz) (both_is sides z at stands)

    -- cube i of the stretch is a cube of the grid
    pub cube_is : (i : ℕ) → i < own_cubes at.left → word_case corners i ≡ cube_case sides masks z (first_x sides at + i) at.y
    cube_is i h = rw (first_x_lem sides z at stands) (case_is sides masks z ready at stands hy hz i h)

    -- no cube past the stretch's own is busy, and those of its own that are not have no triangle
    module _ (busy : ℕ) (by : BusyCubes corners (cubes_mask sides at.left) busy) where
      mask_bit : (i : ℕ) → bit (cubes_mask sides at.left) i ≡ ltb i (own_cubes at.left)
      mask_bit = cubes_set sides masks z ready at stands

      pub past_quiet : (i : ℕ) → own_cubes at.left ≤ i → bit busy i ≡ false
      past_quiet i h = go (bit busy i) refl
        where
          go : (b : Bool) → bit busy i ≡ b → b ≡ false
          go true e = absurd (true≢false (sym (by.inside i e) ∙ mask_bit i ∙ le-ltb i (own_cubes at.left) h))
          go false e = refl

      pub own_busy : (i : ℕ) → bit busy i ≡ true → i < own_cubes at.left
      own_busy i e = ltb-true i (own_cubes at.left) (sym (mask_bit i) ∙ by.inside i e)

      pub own_quiet : (i : ℕ) → i < own_cubes at.left → bit busy i ≡ false → count (cube_case sides masks z (first_x sides at + i) at.y) ≡ 0
      own_quiet i l e = sym (ap count (cube_is i l)) ∙ by.quiet i (mask_bit i ∙ lt-ltb i (own_cubes at.left) l) e

      -- what is counted of the stretch are the triangles of its cubes
      pub stretch_count_lem : stretch_count corners busy ≡ sum_to (own_cubes at.left) (λ i. count (cube_case sides masks z (first_x sides at + i) at.y))
      unfolding stretch_count
      stretch_count_lem =
          sum_quiet (own_cubes at.left) word_bits (busy_count corners busy) (omega (arith, cubes_most sides z at stands))
          (λ i h k. ap (λ b. cond b (count (word_case corners i)) 0) (past_quiet i h))
          ∙ sum_cong (own_cubes at.left) (busy_count corners busy) (λ i. count (cube_case sides masks z (first_x sides at + i) at.y)) (λ i l. own i l (bit busy i) refl)
        where
          own : (i : ℕ) → i < own_cubes at.left → (b : Bool) → bit busy i ≡ b → cond b (count (word_case corners i)) 0 ≡ count (cube_case sides masks z (first_x sides at + i) at.y)
          own i l true e = ap count (cube_is i l)
          own i l false e = sym (own_quiet i l e)

-- how many triangles the first layers have: at most so many, and all of them those of the mesh
module _ (sides : Sides) (masks : List ℕ) where
  layer_most : (z : ℕ) → sides.nx ≤ most_side → sides.ny ≤ most_side → layer_count sides masks z ≤ most_in_layer
  layer_most z h k =
      omega (arith, counted_all sides masks z, counted_most sides masks z 0 (sides.ny - 1) h)

  pub layers_most : (n : ℕ) → sides.nx ≤ most_side → sides.ny ≤ most_side → sum_to n (layer_count sides masks) ≤ most_in_layer * n
  layers_most n h k = sum_most most_in_layer n (layer_count sides masks) (λ z l. layer_most z h k)

  pub mesh_count : sum_to (sides.nz - 1) (layer_count sides masks) ≡ length (edge_mesh cubes (size_of sides) (words_above sides masks))
  unfolding layer_count count edge_mesh cube_triangles sum_box
  mesh_count =
      let n = size_of sides in
      let above = words_above sides masks in
      sum_box_cong (sides.nx - 1) (sides.ny - 1) (sides.nz - 1) (λ x y z. count (case_at n above x y z)) (λ x y z. length (cube_triangles cubes n above x y z))
      (λ x y z lx ly lz. sym (length-map (triangles (case_at n above x y z)) (rename (grid_edge cubes n x y z))))
      ∙ sym (length_box (sides.nx - 1) (sides.ny - 1) (sides.nz - 1) (cube_triangles cubes n above))
