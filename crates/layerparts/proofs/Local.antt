-- What a layer of a volume has depends on its samples and on the next layer's, whatever the rest of the volume is.
use mathlib.Core.Path.{◌≡◌, refl, ap, ap₂, ◌∙◌}
use mathlib.Core.List.{List, flat_map}
use mathlib.Core.Bool.{Bool, true, false, ◌&&◌, xor}
use Prim.Native.Nat.{ℕ, zero, suc, ◌+◌, ◌*◌, ◌-◌, ◌/◌, ◌%◌, ◌^◌, ◌<◌, ◌≤◌}
use native.Mathlib.Nat.{mul-add, mul_assoc, mul-le-mul_left, one-le-mul, le-mul_of_pos_right}
use native.Mathlib.Omega.{arith}
use lib.Dec.{leb}
use lib.ListN.{get_or}
use Rattle.laws.specs.Range.{keep_from}
use Rattle.laws.proofs.Ranges.{join_cong}
use Rattle.laws.proofs.Tests.{both}
use Rattle.laws.proofs.Keep.{keep_cong_from, keep_passes}
use Rattle.laws.proofs.Lists.{flat_cong}
use Rattle.cube.specs.Cube.{corner_x, corner_y, corner_z, case_of}
use Rattle.grid.specs.Grid.{Size, sample_count, site, along, axes, is_above_grey, other_end, is_there, crossed_from, crossed}
use Rattle.grid.specs.Point.{place_from, place}
use Rattle.grid.specs.Mode.{cubes}
use Rattle.grid.specs.Mesh.{corner_site, case_at, cube_triangles}
use Rattle.grid.specs.Work.{size}
use Rattle.grid.proofs.Sites.{site_small}
use Rattle.grid.proofs.Crossings.{step_x, step_y, step_z, there_small}
use Rattle.layerstate.specs.State.{layer_size}
use Rattle.layerparts.specs.Layer.{first_sample, AlikeFrom, layer_edges, layer_triangles, layer_through, last_layer}

-- the first sample so many layers on
pub layers_on : (n : Size) (z k : ℕ) → first_sample n (z + k) ≡ first_sample n z + layer_size n * k
layers_on n z k = rw (mul-add n.ny z k, mul-add n.nx (n.ny * z) (n.ny * k)) (omega (arith, mul_assoc n.nx n.ny k))

pub layers_rise : (n : Size) (z k : ℕ) → z ≤ k → first_sample n z ≤ first_sample n k
layers_rise n z k h = mul-le-mul_left n.nx (mul-le-mul_left n.ny h)

module _ (n : Size) (px : 0 < n.nx) (py : 0 < n.ny) (z : ℕ) where
  -- the next sample along an axis is a layer further on at most
  step_most : (axis : ℕ) → axis < 3 → site n (along (2 ^ axis) 0) (along (2 ^ axis) 1) (along (2 ^ axis) 2) ≤ layer_size n
  step_most zero h = rw (step_x n) (one-le-mul px py)
  step_most (suc zero) h = rw (step_y n) (le-mul_of_pos_right n.nx py)
  step_most (suc (suc zero)) h = rw (step_z n) (omega arith)
  step_most (suc (suc (suc axis))) h = absurd (omega arith)

  -- an edge that leaves a sample of the layer, and its other end
  module _ (e : ℕ) (h : 3 * first_sample n z ≤ e) (l : e < 3 * first_sample n (z + 1)) where
    abbrev end : ℕ
    end = other_end n (e / 3) (2 ^ (e % 3))

    leaves : first_sample n z ≤ e / 3
    leaves = omega arith

    within : e / 3 < first_sample n (z + 2)
    within = omega (arith, layers_on n z 1, layers_on n z 2)

    here : z < n.nz → e / 3 < sample_count n
    here hz = omega (arith, layers_rise n (z + 1) n.nz (omega arith))

    end_from_lem : first_sample n z ≤ end
    unfolding other_end
    end_from_lem = omega (arith, leaves)

    end_to : end < first_sample n (z + 2)
    unfolding other_end
    end_to = omega (arith, layers_on n z 1, layers_on n z 2, step_most (e % 3) (omega arith))

  -- edges and triangles, by which samples are above
  module _ (one other : ℕ → Bool) (alike : AlikeFrom n z one other) where
    crossed_alike : z < n.nz → (e : ℕ) → 3 * first_sample n z ≤ e → e < 3 * first_sample n (z + 1) → crossed axes n one e ≡ crossed axes n other e
    unfolding crossed crossed_from
    crossed_alike hz e h l = go (is_there n (e / 3) (2 ^ (e % 3))) refl
      where
        go : (b : Bool) → is_there n (e / 3) (2 ^ (e % 3)) ≡ b → (b && xor (one (e / 3)) (one (end e h l))) ≡ (b && xor (other (e / 3)) (other (end e h l)))
        go true t = ap₂ xor (alike (e / 3) (leaves e h l) (within e h l) (here e h l hz)) (alike (end e h l) (end_from_lem e h l) (end_to e h l) (there_small n (e / 3) (2 ^ (e % 3)) t))
        go false t = refl

    pub edges_alike : z < n.nz → layer_edges n one z ≡ layer_edges n other z
    unfolding layer_edges
    edges_alike hz = keep_cong_from (3 * first_sample n z) (3 * first_sample n (z + 1)) (crossed axes n one) (crossed axes n other) (crossed_alike hz)

    -- a corner of a cube between the layer and the next
    module _ (x y : ℕ) (hx : x < n.nx - 1) (hy : y < n.ny - 1) (hz : z + 1 < n.nz) where
      abbrev corner : ℕ → ℕ
      corner c = site n (x + corner_x c) (y + corner_y c) (corner_z c)

      corner_is : (c : ℕ) → corner_site n x y z c ≡ first_sample n z + corner c
      unfolding corner_site site
      corner_is c = simp mul-add (omega arith)

      corner_small : (c : ℕ) → corner c < layer_size n * 2
      corner_small c =
          let small : site (size n.nx n.ny 2) (x + corner_x c) (y + corner_y c) (corner_z c) < n.nx * (n.ny * 2)
          = site_small (size n.nx n.ny 2) (x + corner_x c) (y + corner_y c) (corner_z c) (omega arith) (omega arith) (omega arith) in
          unfold site in omega (arith, small, mul_assoc n.nx n.ny 2)

      corner_alike : (c : ℕ) → one (corner_site n x y z c) ≡ other (corner_site n x y z c)
      corner_alike c =
          let there : corner_site n x y z c < sample_count n = unfold corner_site in
          site_small n (x + corner_x c) (y + corner_y c) (z + corner_z c) (omega arith) (omega arith) (omega arith) in
          alike (corner_site n x y z c) (omega (arith, corner_is c)) (omega (arith, corner_is c, corner_small c, layers_on n z 2)) there

      cube_alike : cube_triangles cubes n one x y z ≡ cube_triangles cubes n other x y z
      unfolding cube_triangles case_at case_of
      cube_alike =
          rw (corner_alike 0, corner_alike 1, corner_alike 2, corner_alike 3, corner_alike 4, corner_alike 5, corner_alike 6, corner_alike 7)

    pub triangles_alike : z + 1 < n.nz → layer_triangles n one z ≡ layer_triangles n other z
    unfolding layer_triangles
    triangles_alike hz = join_cong (n.ny - 1) _ _ (λ y hy. join_cong (n.nx - 1) _ _ (λ x hx. cube_alike x y hx hy hz))

  -- and places, by the samples
  module _ (grey : ℕ) (one other : List ℕ) (hz : z < n.nz) (alike : AlikeFrom n z (λ s. get_or one s 0) (λ s. get_or other s 0)) where
    above_alike : AlikeFrom n z (is_above_grey grey one) (is_above_grey grey other)
    unfolding is_above_grey
    above_alike s h l k = ap (leb grey) (alike s h l k)

    place_alike : (e : ℕ) → 3 * first_sample n z ≤ e → e < 3 * first_sample n (z + 1) → crossed axes n (is_above_grey grey one) e ≡ true → place axes n grey one e ≡ place axes n grey other e
    unfolding place place_from crossed crossed_from
    place_alike e h l cut =
        let there = (both (is_there n (e / 3) (2 ^ (e % 3))) _ cut).0 in
        rw (alike (e / 3) (leaves e h l) (within e h l) (here e h l hz), alike (end e h l) (end_from_lem e h l) (end_to e h l) (there_small n (e / 3) (2 ^ (e % 3)) there))

    places_alike : flat_map (place axes n grey one) (layer_edges n (is_above_grey grey one) z) ≡ flat_map (place axes n grey other) (layer_edges n (is_above_grey grey other) z)
    unfolding layer_edges
    places_alike =
        let first = 3 * first_sample n z in
        let past = 3 * first_sample n (z + 1) in
        let cut = crossed axes n (is_above_grey grey one) in
        flat_cong (λ e. (first ≤ e) × (e < past) × (cut e ≡ true)) (place axes n grey one) (place axes n grey other) (λ e so. place_alike e so.0 so.1 so.2)
        (keep_from first past cut)
        (keep_passes first past cut)
        ∙ ap (flat_map (place axes n grey other)) (edges_alike (is_above_grey grey one) (is_above_grey grey other) above_alike hz)

    -- what a layer hands out
    pub layer_local : z + 1 < n.nz → layer_through n grey one z ≡ layer_through n grey other z
    unfolding layer_through
    layer_local over =
        rw (places_alike, edges_alike (is_above_grey grey one) (is_above_grey grey other) above_alike hz, triangles_alike (is_above_grey grey one) (is_above_grey grey other) above_alike over)

    pub last_local : last_layer n grey one z ≡ last_layer n grey other z
    unfolding last_layer
    last_local = rw (places_alike, edges_alike (is_above_grey grey one) (is_above_grey grey other) above_alike hz)
