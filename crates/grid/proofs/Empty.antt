-- Grey value 0 makes all samples above, and the mesh empty (document 01, "Numbers and sizes").
use mathlib.Core.Path.{◌≡◌, refl}
use mathlib.Core.List.{List, [], map, flat_map}
use mathlib.Core.Bool.{Bool, true, false, xor, and-false}
use Prim.Native.Nat.{ℕ, ◌-◌, ◌/◌, ◌%◌}
use lib.Dec.{leb-zero}
use lib.ListN.{get_or}
use Rattle.laws.specs.Range.{join_box, keep_to}
use Rattle.laws.specs.Bits.{bits, bit}
use Rattle.laws.specs.Mesh.{rename}
use Rattle.laws.proofs.Ranges.{join_empty}
use Rattle.cube.specs.Cube.{cases, case_of, is_above}
use Rattle.cube.specs.Face.{cuts, way_round, face_segments, segments_of}
use Rattle.cube.specs.Loop.{loops}
use Rattle.cube.specs.Answer.{segments, fan_of, triangles}
use Rattle.grid.specs.Grid.{Size, Kind, axes, is_above_grey, is_there, edge_count, crossed_from, crossed}
use Rattle.grid.specs.Point.{point_edges}
use Rattle.grid.specs.Mode.{Mode, cubes}
use Rattle.grid.specs.Mesh.{case_at, grid_edge, cube_triangles, edge_mesh, mesh}

-- no edge is crossed, and every cube has all corners above
module _ (n : Size) (above : ℕ → Bool) (all : (s : ℕ) → above s ≡ true) where
  none_crossed : (k : Kind) (e : ℕ) → crossed k n above e ≡ false
  unfolding crossed crossed_from xor
  none_crossed k e = simp all (and-false (is_there n (e / k.many) (k.direction (e % k.many))))

  pub no_points : (k : Kind) → point_edges k n above ≡ []
  unfolding point_edges keep_to
  no_points k = join_empty (edge_count k n) _ (λ e. rw (none_crossed k e))

  full_case : (x y z : ℕ) → case_at n above x y z ≡ cases - 1
  unfolding case_at case_of bits
  full_case x y z = simp all

  pub no_triangles : (m : Mode) → m.triangles (cases - 1) ≡ [] → mesh m n above ≡ []
  unfolding mesh edge_mesh join_box cube_triangles
  no_triangles m none =
      let empty : (x y z : ℕ) → map (rename (grid_edge m n x y z)) (m.triangles (case_at n above x y z)) ≡ []
      = λ x y z. rw (full_case x y z, none) in
      rw (join_empty (n.nz - 1) _ (λ z. join_empty (n.ny - 1) _ (λ y. join_empty (n.nx - 1) _ (λ x. empty x y z))))

-- the case with all corners above has no triangle
none_in_full : cubes.triangles (cases - 1) ≡ []
unfolding triangles flat_map fan_of loops segments segments_of face_segments cuts way_round is_above bit
none_in_full = refl

module _ (n : Size) (samples : List ℕ) where
  pub all_above : (s : ℕ) → is_above_grey 0 samples s ≡ true
  unfolding is_above_grey
  all_above s = leb-zero (get_or samples s 0)

  pub grey_0_no_points : point_edges axes n (is_above_grey 0 samples) ≡ []
  grey_0_no_points = no_points n (is_above_grey 0 samples) all_above axes

  pub grey_0_no_triangles : mesh cubes n (is_above_grey 0 samples) ≡ []
  grey_0_no_triangles = no_triangles n (is_above_grey 0 samples) all_above cubes none_in_full
