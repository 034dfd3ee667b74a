-- What the definitions that take a kind of grid edges or a mode are for document 01's cubes, in its words and its order. Each of these is a line to read in place of the
-- general one.
use mathlib.Core.Path.{◌≡◌, refl, ap, ap₂, ◌∙◌}
use mathlib.Core.List.{List, [], ◌∷◌, map}
use mathlib.Core.Bool.{Bool, true, false, cond, ◌&&◌, ◌||◌, xor, and-true, or_assoc, or-false}
use Prim.Native.Nat.{ℕ, zero, suc, ◌+◌, ◌*◌, ◌^◌, ◌<◌}
use native.Mathlib.Nat.{zero-mul, one-mul}
use native.Mathlib.Omega.{arith}
use lib.Dec.{eqb, ltb}
use lib.ListN.{get_or}
use borrow.Author.Tests.{eqb-true}
use Rattle.laws.specs.Range.{one_if, count_to, keep_to, all_to}
use Rattle.laws.specs.Mesh.{rename}
use Rattle.laws.proofs.Tests.{all_at}
use Rattle.cube.specs.Cube.{low_corner, axis_of}
use Rattle.cube.specs.Answer.{triangles}
use Rattle.grid.specs.Limits.{unit}
use Rattle.grid.specs.Grid.{Size, sample_count, coordinate, side, along, axes, other_end, fits_along, is_there, is_end, is_outermost, some_face, edge_count, crossed_from, crossed, on_face_from, mark}
use Rattle.grid.specs.Point.{offset, point_edges, number, place_from, place}
use Rattle.grid.specs.Mode.{cubes}
use Rattle.grid.specs.Mesh.{corner_site, case_at, grid_edge, cube_triangles, edge_mesh, mesh}
use Rattle.grid.proofs.Sites.{choose, below_x, below_y, below_z}
use Rattle.grid.proofs.Crossings.{edge_sample, edge_code, crossed_at, on_face_at, stays, step_x, step_y, step_z}

-- an edge along axis a runs along that axis alone
every_axis : all_to 3 (λ a. all_to 3 (λ axis. eqb (along (2 ^ a) axis) (one_if (eqb axis a)))) ≡ true
unfolding all_to
every_axis = refl

along_axis : (a axis : ℕ) → a < 3 → axis < 3 → along (2 ^ a) axis ≡ one_if (eqb axis a)
along_axis a axis h l =
    eqb-true _ _ (all_at 3 (λ axis. eqb (along (2 ^ a) axis) (one_if (eqb axis a))) (all_at 3 (λ a. all_to 3 (λ axis. eqb (along (2 ^ a) axis) (one_if (eqb axis a)))) every_axis a h) axis l)

module _ (n : Size) where
  -- there are 3·nx·ny·nz edge numbers
  pub edge_count_lem : edge_count axes n ≡ 3 * (n.nx * (n.ny * n.nz))
  edge_count_lem = refl

  -- the sample after s along axis a
  abbrev pub after : ℕ → ℕ → ℕ
  after s a = s + choose a 1 n.nx (n.nx * n.ny)

  -- grid edge 3s + a leaves sample s along axis a towards the larger coordinate
  pub edge_end : (s a : ℕ) → a < 3 → other_end n s (axes.direction a) ≡ after s a
  unfolding other_end
  edge_end s zero h = rw (step_x n)
  edge_end s (suc zero) h = rw (step_y n)
  edge_end s (suc (suc zero)) h = rw (step_z n)
  edge_end s (suc (suc (suc a))) h = absurd (omega arith)

  -- if a sample is there
  pub edge_there : (s a : ℕ) → a < 3 → 0 < n.nx → 0 < n.ny → s < sample_count n → is_there n s (axes.direction a) ≡ ltb (coordinate n a s + 1) (side n a)
  unfolding is_there fits_along side
  edge_there s a h px py l = go a h
    where
      x : ltb (coordinate n 0 s + 0) n.nx ≡ true
      x = stays _ _ (below_x n px py s l)

      y : ltb (coordinate n 1 s + 0) n.ny ≡ true
      y = stays _ _ (below_y n px py s l)

      z : ltb (coordinate n 2 s + 0) n.nz ≡ true
      z = stays _ _ (below_z n px py s l)

      go : (a : ℕ) → a < 3 → is_there n s (axes.direction a) ≡ ltb (coordinate n a s + 1) (side n a)
      go zero h = unfold is_there fits_along side in rw (y, z, and-true)
      go (suc zero) h = unfold is_there fits_along side in rw (x, z, and-true)
      go (suc (suc zero)) h = unfold is_there fits_along side in rw (x, y)
      go (suc (suc (suc a))) h = absurd (omega arith)

  -- an edge is crossed when it is there and its two ends differ
  pub crossed_is : (above : ℕ → Bool) (s a : ℕ) → a < 3 → crossed axes n above (3 * s + a) ≡ (is_there n s (axes.direction a) && xor (above s) (above (after s a)))
  unfolding crossed_from
  crossed_is above s a h = crossed_at axes n s a h above ∙ rw (edge_end s a h)

  -- the two axes across axis a
  abbrev pub first_across : ℕ → ℕ
  first_across a = choose a 1 0 0

  abbrev pub second_across : ℕ → ℕ
  second_across a = choose a 2 2 1

  -- the mark is 1 when a coordinate across the edge is 0 or the last, else 0
  pub mark_is : (s a : ℕ) → a < 3
      → let outer : ℕ → Bool = λ axis. is_end (coordinate n axis s) (side n axis) in
      mark axes n (3 * s + a) ≡ one_if (outer (first_across a) || outer (second_across a))
  unfolding mark some_face
  mark_is s a h = simp (on_face_at axes n s a h) (go a h)
    where
      outer : ℕ → Bool
      outer axis = is_end (coordinate n axis s) (side n axis)

      on : ℕ → ℕ → Bool → Bool
      on a axis last = on_face_from axes n axis last s (axes.direction a)

      go : (a : ℕ) → a < 3 → one_if (some_face (on a)) ≡ one_if (outer (first_across a) || outer (second_across a))
      go zero h = unfold some_face on_face_from is_outermost in simp or_assoc
      go (suc zero) h = unfold some_face on_face_from is_outermost in simp or_assoc
      go (suc (suc zero)) h = unfold some_face on_face_from is_outermost in simp (or_assoc, or-false)
      go (suc (suc (suc a))) h = absurd (omega arith)

  -- one point per crossed grid edge, in rising order of grid edge number
  pub points_are : (above : ℕ → Bool) → point_edges axes n above ≡ keep_to (3 * (n.nx * (n.ny * n.nz))) (crossed axes n above)
  unfolding point_edges
  points_are above = refl

  -- numbered from 0
  pub number_is : (above : ℕ → Bool) (e : ℕ) → number axes n above e ≡ count_to e (crossed axes n above)
  unfolding number
  number_is above e = refl

  -- across the edge a point has the edge's whole coordinates times 256; along it, from the lower end on, the offset is added
  pub place_is : (grey : ℕ) (samples : List ℕ) (s a axis : ℕ) → a < 3 → axis < 3
      → get_or (place axes n grey samples (3 * s + a)) axis 0
      ≡ unit * coordinate n axis s + cond (eqb axis a) (offset (get_or samples s 0) (get_or samples (after s a) 0) grey) 0
  unfolding place
  place_is grey samples s a axis h l =
      ap₂ (λ s a. get_or (place_from axes n grey samples s (2 ^ a) 0 ∷ place_from axes n grey samples s (2 ^ a) 1 ∷ place_from axes n grey samples s (2 ^ a) 2 ∷ []) axis 0)
      (edge_sample 3 s a h)
      (edge_code 3 s a h)
      ∙ one_of axis l
      ∙ ap₂ (λ t v. unit * coordinate n axis s + t * offset (get_or samples s 0) (get_or samples v 0) grey) (along_axis a axis h l) (edge_end s a h)
      ∙ ap (λ v. unit * coordinate n axis s + v) (once (eqb axis a) (offset (get_or samples s 0) (get_or samples (after s a) 0) grey))
    where
      one_of : (axis : ℕ) → axis < 3
          → get_or (place_from axes n grey samples s (2 ^ a) 0 ∷ place_from axes n grey samples s (2 ^ a) 1 ∷ place_from axes n grey samples s (2 ^ a) 2 ∷ []) axis 0
          ≡ unit * coordinate n axis s + along (2 ^ a) axis * offset (get_or samples s 0) (get_or samples (other_end n s (2 ^ a)) 0) grey
      one_of zero l = unfold place_from in refl
      one_of (suc zero) l = unfold place_from in refl
      one_of (suc (suc zero)) l = unfold place_from in refl
      one_of (suc (suc (suc axis))) l = absurd (omega arith)

      once : (b : Bool) (x : ℕ) → one_if b * x ≡ cond b x 0
      once true x = one-mul x
      once false x = zero-mul x

  -- edge e of the cube at (x, y, z) is grid edge 3s + a, with s the sample at its lower corner and a its axis
  pub edge_number : (x y z e : ℕ) → grid_edge cubes n x y z e ≡ 3 * corner_site n x y z (low_corner e) + axis_of e
  unfolding grid_edge
  edge_number x y z e = refl

  -- triangles come in the case's order
  pub triangles_are : (above : ℕ → Bool) (x y z : ℕ)
      → cube_triangles cubes n above x y z ≡ map (rename (grid_edge cubes n x y z)) (triangles (case_at n above x y z))
  unfolding cube_triangles
  triangles_are above x y z = refl

  -- each corner the number of the point on its grid edge
  pub mesh_is : (above : ℕ → Bool) → mesh cubes n above ≡ map (rename (number axes n above)) (edge_mesh cubes n above)
  unfolding mesh
  mesh_is above = refl
