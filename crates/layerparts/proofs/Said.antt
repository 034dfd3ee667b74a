-- What the words say of the first lent layer is what the samples say, and what is written for its cubes are their triangles.
use mathlib.Core.Path.{◌≡◌, refl, ap, sym, ◌∙◌}
use mathlib.Core.List.{List, [], map, map-id}
use Prim.Native.Nat.{ℕ, ◌+◌, ◌*◌, ◌-◌, ◌<◌, ◌≤◌}
use native.Mathlib.Decide.{dec_lt}
use native.Mathlib.Nat.{mul_assoc}
use native.Mathlib.Omega.{arith}
use lib.Dec.{leb}
use Rattle.laws.specs.Range.{join_to}
use Rattle.laws.specs.Mesh.{Triangle, corners_of, flat}
use Rattle.laws.proofs.Ranges.{join_cong, flat_join}
use Rattle.cube.specs.Cube.{cube_edges}
use Rattle.grid.specs.Grid.{Size, sample_count, is_above_grey}
use Rattle.grid.specs.Mode.{cubes}
use Rattle.grid.specs.Mesh.{cube_triangles}
use Rattle.grid.specs.Work.{name_of}
use Rattle.masks.proofs.Above.{told_above}
use Rattle.rows.specs.declared.Sides.{Sides}
use Rattle.rows.specs.Rows.{size_of, words_above, grid_samples, layer_first}
use Rattle.rows.proofs.Window.{sample_lent, above_lent}
use Rattle.triangles.specs.Names.{edge_offset, grid_names, layer_names}
use Rattle.triangles.proofs.Named.{cube_named}
use Rattle.pointplaces.specs.Places.{Given}
use Rattle.layerparts.specs.Layer.{first_sample, AlikeFrom, layer_triangles}
use Rattle.layerparts.specs.Parts.{word_edges, lent_edges}
use Rattle.layerparts.proofs.Local.{layers_on, layers_rise, edges_alike, triangles_alike}

module _ (sides : Sides) (grey : ℕ) (samples masks : List ℕ) (given : Given sides sides.below grey samples masks) (inside : sides.below < sides.nz) where
  abbrev n : Size
  n = size_of sides

  abbrev z : ℕ
  z = sides.below

  some_x : 0 < n.nx
  some_x = omega (arith, given.ready.fit.least_x)

  some_y : 0 < n.ny
  some_y = omega (arith, given.ready.fit.least_y)

  -- a sample of the layer or of the next is one of those lent
  lent : (s : ℕ) → first_sample n z ≤ s → s < first_sample n (z + 2) → s < sample_count n → s - first_sample n z < first_sample n given.ready.layers
  lent s h l k = go (dec_lt (z + 1) sides.nz)
    where
      go : Dec (z + 1 < sides.nz) → s - first_sample n z < first_sample n given.ready.layers
      go (yes over) =
          omega (arith, layers_on n z 2, layers_rise n 2 given.ready.layers (omega (arith, given.ready.over over)), mul_assoc n.nx n.ny 2)
      go (no last) =
          let top : sides.nz ≡ z + 1 = omega arith in
          omega (
            arith,
            ap (first_sample n) top,
            layers_on n z 1,
            layers_rise n 1 given.ready.layers (omega (arith, given.ready.here)),
            mul_assoc n.nx n.ny 1,
          )

  said : AlikeFrom n z (words_above sides masks) (is_above_grey grey (grid_samples sides samples))
  unfolding is_above_grey
  said s h l k =
      let t = s - first_sample n z in
      let at : s ≡ layer_first sides z + t = omega arith in
      rw at
      (above_lent sides masks some_x t
      ∙ told_above sides.nx (sides.ny * given.ready.layers) (is_above_grey grey samples) masks given.ready.fit.least_x given.masked t (lent s h l k)
      ∙ ap (leb grey) (sym (sample_lent sides samples t)))

  pub edges_said : word_edges sides masks ≡ lent_edges sides grey samples
  unfolding word_edges lent_edges
  edges_said = edges_alike n some_x some_y z (words_above sides masks) (is_above_grey grey (grid_samples sides samples)) said inside

  pub triangles_said : z + 1 < sides.nz → layer_triangles n (words_above sides masks) z ≡ layer_triangles n (is_above_grey grey (grid_samples sides samples)) z
  triangles_said = triangles_alike n some_x some_y z (words_above sides masks) (is_above_grey grey (grid_samples sides samples)) said

-- where no names are lent, what is written for a layer's cubes are their triangles' grid edges
module _ (sides : Sides) (masks offsets : List ℕ) (right : offsets ≡ map (edge_offset sides.nx sides.ny) cube_edges) (z : ℕ) where
  abbrev cube : ℕ → ℕ → List Triangle
  cube y x = cube_triangles cubes (size_of sides) (words_above sides masks) x y z

  own_numbers : ◌≡◌ {A = ℕ → ℕ} (name_of []) (λ e. e)
  unfolding name_of
  own_numbers = refl

  cube_numbers : (x y : ℕ) → grid_names offsets [] sides masks z x y ≡ flat (cube y x)
  cube_numbers x y = cube_named sides masks [] offsets right x y z ∙ ap (λ f. map f (flat (cube y x))) own_numbers ∙ map-id (flat (cube y x))

  pub layer_numbers : layer_names offsets [] sides masks z ≡ flat (layer_triangles (size_of sides) (words_above sides masks) z)
  unfolding layer_triangles flat
  layer_numbers =
      sym
      (flat_join corners_of (sides.ny - 1) (λ y. join_to (sides.nx - 1) (cube y))
      ∙ join_cong (sides.ny - 1) _ _
      (λ y ly. flat_join corners_of (sides.nx - 1) (cube y) ∙ join_cong (sides.nx - 1) _ _ (λ x lx. sym (cube_numbers x y))))
