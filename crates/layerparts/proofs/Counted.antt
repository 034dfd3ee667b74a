-- The points of a stretch, and the points and triangles of a layer, counted from words.
use mathlib.Core.Path.{◌≡◌, ap, sym, ◌∙◌}
use mathlib.Core.List.{List}
use mathlib.Core.Bool.{Bool, ◌&&◌}
use Prim.Native.Nat.{ℕ, ◌+◌, ◌*◌, ◌-◌, ◌^◌, ◌<◌, ◌≤◌}
use native.Mathlib.Nat.{mul_assoc, mul-le-mul}
use native.Mathlib.Omega.{arith}
use lib.Count.{ones}
use lib.Dec.{ltb}
use lib.ListN.{length, length-map}
use borrow.Author.Tests.{lt-ltb, le-ltb}
use Rattle.laws.specs.Bits.{word_bits, bit}
use Rattle.laws.specs.Range.{one_if, sum_to, join_to, count_to}
use Rattle.laws.specs.Mesh.{Triangle, rename}
use Rattle.laws.proofs.Ranges.{sum_cong, sum_add, sum_blocks, sum_quiet, sum_most, length_join}
use Rattle.laws.proofs.Keep.{length_from, keep_most}
use Rattle.laws.proofs.Ones.{ones_bits}
use Rattle.cube.specs.Answer.{most_case_triangles, count, triangles}
use Rattle.cube.proofs.Corners.{case_small}
use Rattle.grid.specs.Grid.{Size, axes, crossed}
use Rattle.grid.specs.Mode.{cubes}
use Rattle.grid.specs.Mesh.{corner_site, case_at, grid_edge, cube_triangles}
use Rattle.rows.specs.declared.Sides.{Sides}
use Rattle.rows.specs.declared.Crossed.{Crossed}
use Rattle.rows.specs.Rows.{size_of, words_above, cut, CutWords}
use Rattle.cuberows.specs.Cubes.{layer_count}
use Rattle.cuberows.proofs.Cases.{count_most}
use Rattle.pointplaces.specs.Places.{crossings}
use Rattle.layerstate.specs.State.{layer_size}
use Rattle.layerparts.specs.Layer.{first_sample, layer_edges, layer_triangles}
use Rattle.layerparts.proofs.Local.{layers_on}

module _ (sides : Sides) (masks : List ℕ) (s many : ℕ) (few : many ≤ word_bits) where
  -- the set bits of a word that says where an edge of each sample is crossed
  word_ones : (word : ℕ) (edge : ℕ → ℕ) → word < 2 ^ word_bits → ((i : ℕ) → bit word i ≡ (ltb i many && cut sides masks (edge i)))
      → ones word ≡ sum_to many (λ i. one_if (cut sides masks (edge i)))
  unfolding count_to
  word_ones word edge small is =
      ones_bits word_bits word small
      ∙ sum_quiet many word_bits (λ i. one_if (bit word i)) few (λ i h l. ap one_if (is i ∙ ap (λ t. t && cut sides masks (edge i)) (le-ltb i many h)))
      ∙ sum_cong many _ _ (λ i l. ap one_if (is i ∙ ap (λ t. t && cut sides masks (edge i)) (lt-ltb i many l)))

  pub stretch_counted : (c : Crossed) → c.x < 2 ^ word_bits → c.y < 2 ^ word_bits → c.z < 2 ^ word_bits → CutWords sides masks s many c
      → ones c.x + ones c.y + ones c.z ≡ length (crossings sides masks (3 * s) (3 * (s + many)))
  unfolding count_to sum_to
  stretch_counted c sx sy sz by =
      let at : ℕ → ℕ = λ e. one_if (cut sides masks e) in
      let x : ℕ → ℕ = λ i. at (3 * (s + i)) in
      let y : ℕ → ℕ = λ i. at (3 * (s + i) + 1) in
      let z : ℕ → ℕ = λ i. at (3 * (s + i) + 2) in
      let all : sum_to many (λ i. x i + y i + z i) ≡ sum_to (3 * many) (λ j. at (3 * s + j))
      = sum_cong many _ _
      (λ i l.
      let px : 3 * (s + i) ≡ 3 * s + (3 * i + 0) = omega arith in
      let py : 3 * (s + i) + 1 ≡ 3 * s + (3 * i + 1) = omega arith in
      let pz : 3 * (s + i) + 2 ≡ 3 * s + (3 * i + 2) = omega arith in
      omega (arith, ap at px, ap at py, ap at pz))
      ∙ sym (sum_blocks 3 many (λ j. at (3 * s + j))) in
      let long : 3 * (s + many) - 3 * s ≡ 3 * many = omega arith in
      omega (
        arith,
        word_ones c.x (λ i. 3 * (s + i)) sx by.along_x,
        word_ones c.y (λ i. 3 * (s + i) + 1) sy by.along_y,
        word_ones c.z (λ i. 3 * (s + i) + 2) sz by.along_z,
        sum_add many x y,
        sum_add many (λ i. x i + y i) z,
        all,
        length_from (3 * s) (3 * (s + many)) (cut sides masks),
        ap (λ n. sum_to n (λ j. at (3 * s + j))) long,
      )

-- the triangles of the cubes over a layer, counted by the words
module _ (sides : Sides) (masks : List ℕ) (z : ℕ) where
  pub layer_count_lem : layer_count sides masks z ≡ length (layer_triangles (size_of sides) (words_above sides masks) z)
  unfolding layer_count count cube_triangles layer_triangles
  layer_count_lem =
      let n = size_of sides in
      let above = words_above sides masks in
      let cube : ℕ → ℕ → List Triangle = λ y x. cube_triangles cubes n above x y z in
      sym
      (length_join (sides.ny - 1) (λ y. join_to (sides.nx - 1) (cube y))
      ∙ sum_cong (sides.ny - 1) _ _
      (λ y ly. length_join (sides.nx - 1) (cube y)
      ∙ sum_cong (sides.nx - 1) _ _ (λ x lx. length-map (triangles (case_at n above x y z)) (rename (grid_edge cubes n x y z)))))

-- how many points a layer has at most, and triangles the cubes over it
module _ (n : Size) (above : ℕ → Bool) (z : ℕ) where
  cube_most : (x y : ℕ) → length (cube_triangles cubes n above x y z) ≤ most_case_triangles
  unfolding cube_triangles count case_at
  cube_most x y =
      let k = case_at n above x y z in
      omega (arith, length-map (triangles k) (rename (grid_edge cubes n x y z)), count_most k (case_small (λ c. above (corner_site n x y z c))))

  pub triangles_most : length (layer_triangles n above z) ≤ most_case_triangles * layer_size n
  unfolding layer_triangles
  triangles_most =
      let cube : ℕ → ℕ → List Triangle = λ y x. cube_triangles cubes n above x y z in
      let row = most_case_triangles * (n.nx - 1) in
      omega (
        arith,
        length_join (n.ny - 1) (λ y. join_to (n.nx - 1) (cube y)),
        sum_most row (n.ny - 1) (λ y. length (join_to (n.nx - 1) (cube y)))
            (λ y l. omega (arith, length_join (n.nx - 1) (cube y), sum_most most_case_triangles (n.nx - 1) (λ x. length (cube y x)) (λ x k. cube_most x y))),
        mul-le-mul {n₁ = row} {m₁ = n.ny - 1} {n₂ = most_case_triangles * n.nx} {m₂ = n.ny} (omega arith) (omega arith),
        mul_assoc most_case_triangles n.nx n.ny,
      )

  pub points_most : length (layer_edges n above z) ≤ 3 * layer_size n
  unfolding layer_edges
  points_most = omega (arith, keep_most (3 * first_sample n z) (3 * first_sample n (z + 1)) (crossed axes n above), layers_on n z 1)
