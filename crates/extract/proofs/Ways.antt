-- The ways out of the extractor, each from what its parts ensure of the masks.
use mathlib.Core.Path.{◌≡◌, ap, sym, ◌∙◌}
use mathlib.Core.List.{List, map, flat_map}
use mathlib.Core.Bool.{Bool, true, false}
use Prim.Native.Nat.{ℕ, ◌*◌, ◌/◌, ◌<◌, ◌≤◌, min}
use native.Mathlib.Omega.{arith}
use lib.Dec.{ltb}
use lib.ListN.{length, replicate, length-map}
use borrow.Author.Tests.{ltb-false}
use Rattle.laws.specs.Room.{laid}
use Rattle.laws.specs.Mesh.{flat}
use Rattle.grid.specs.Limits.{most_points, most_triangles}
use Rattle.grid.specs.Grid.{axes, is_above_grey, mark}
use Rattle.grid.specs.Point.{point_edges, place}
use Rattle.grid.specs.Mode.{cubes}
use Rattle.grid.specs.Mesh.{edge_mesh, mesh}
use Rattle.grid.specs.Work.{size, SidesFit}
use Rattle.grid.proofs.Same.{points_same, mesh_same}
use Rattle.masks.specs.Masks.{mask_above, Masked}
use Rattle.masks.proofs.Above.{told_above}
use Rattle.cuberows.specs.Cubes.{FoundCubes}
use Rattle.cuberows.proofs.Found.{found_same}
use Rattle.extract.specs.Extraction.{Rooms, Outcome, refused, cleared, point_list, triangle_list, point_room, triangle_room, granted, measured}
use Rattle.extract.specs.Promise.{rooms, left}

module _ (nx ny nz grey : ℕ) (samples masks : List ℕ) (fits : SidesFit nx ny nz) (masked : Masked nx (ny * nz) grey samples masks) where
  abbrev masks_points : List ℕ
  masks_points = point_edges axes (size nx ny nz) (mask_above nx masks)

  same : (s : ℕ) → s < nx * (ny * nz) → mask_above nx masks s ≡ is_above_grey grey samples s
  same = told_above nx (ny * nz) (is_above_grey grey samples) masks fits.least_x masked

  -- so words of found cubes that are right for the samples are right for the masks
  pub found_is : (found : List ℕ) → FoundCubes (size nx ny nz) (is_above_grey grey samples) found → FoundCubes (size nx ny nz) (mask_above nx masks) found
  found_is =
      found_same (size nx ny nz) (omega (arith, fits.least_x)) (omega (arith, fits.least_y)) (mask_above nx masks) (is_above_grey grey samples) same

  pub points_are : (r : Rooms) → masks_points ≡ point_list cubes (size nx ny nz) grey samples r
  points_are r =
      points_same (size nx ny nz) (omega (arith, fits.least_x)) (omega (arith, fits.least_y)) (mask_above nx masks) (is_above_grey grey samples) same axes

  pub mesh_is : (r : Rooms) → mesh cubes (size nx ny nz) (mask_above nx masks) ≡ triangle_list cubes (size nx ny nz) grey samples r
  mesh_is r =
      mesh_same (size nx ny nz) (omega (arith, fits.least_x)) (omega (arith, fits.least_y)) (mask_above nx masks) (is_above_grey grey samples) same cubes

  pub mesh_count : (r : Rooms) → length (edge_mesh cubes (size nx ny nz) (mask_above nx masks)) ≡ length (triangle_list cubes (size nx ny nz) grey samples r)
  unfolding mesh
  mesh_count r = sym (length-map (edge_mesh cubes (size nx ny nz) (mask_above nx masks)) _) ∙ ap length (mesh_is r)

  module _ (r : Rooms) where
    abbrev Measured : Outcome → Type 0
    Measured o = o ≡ measured cubes (size nx ny nz) grey samples r

    -- the tests that were made of the masks are the definition's
    points_tested : (found room : ℕ) → found ≡ length masks_points → room ≡ point_room cubes (size nx ny nz) grey samples r
        → (b : Bool) → ltb (min most_points room) found ≡ b
        → ltb (min most_points (point_room cubes (size nx ny nz) grey samples r)) (length (point_list cubes (size nx ny nz) grey samples r)) ≡ b
    points_tested found room f q b t = rw (← q, ← (ap length (points_are r)), ← f) t

    triangles_tested : (made : ℕ) → made ≡ length (edge_mesh cubes (size nx ny nz) (mask_above nx masks))
        → (b : Bool) → ltb (min most_triangles (triangle_room cubes (size nx ny nz) grey samples r)) made ≡ b
        → ltb (min most_triangles (triangle_room cubes (size nx ny nz) grey samples r)) (length (triangle_list cubes (size nx ny nz) grey samples r)) ≡ b
    triangles_tested made m b u = rw (← (mesh_count r), ← m) u

    -- more points than the limit or their rooms
    pub too_many_points : (found room : ℕ) (work : List ℕ) → found ≡ length masks_points → room ≡ point_room cubes (size nx ny nz) grey samples r
        → ltb (min most_points room) found ≡ true → work ≡ replicate (length r.work) 0
        → Measured (left 4 0 0 (rooms r.points r.edges r.marks r.triangles work))
    unfolding measured refused cleared
    too_many_points found room work f q t w = rw (points_tested found room f q true t, w)

    -- points within their rooms, and more triangles than the limit or their room
    pub too_many_triangles : (found made room : ℕ) (work : List ℕ) → found ≡ length masks_points → room ≡ point_room cubes (size nx ny nz) grey samples r
        → ltb (min most_points room) found ≡ false → made ≡ length (edge_mesh cubes (size nx ny nz) (mask_above nx masks))
        → ltb (min most_triangles (triangle_room cubes (size nx ny nz) grey samples r)) made ≡ true → work ≡ replicate (length r.work) 0
        → Measured (left 5 0 0 (rooms r.points r.edges r.marks r.triangles work))
    unfolding measured refused cleared
    too_many_triangles found made room work f q t m u w = rw (points_tested found room f q false t, triangles_tested made m true u, w)

    pub all_granted : (found made room : ℕ) (after : Rooms) → found ≡ length masks_points → room ≡ point_room cubes (size nx ny nz) grey samples r
        → ltb (min most_points room) found ≡ false → made ≡ length (edge_mesh cubes (size nx ny nz) (mask_above nx masks))
        → ltb (min most_triangles (triangle_room cubes (size nx ny nz) grey samples r)) made ≡ false
        → after.points ≡ laid (flat_map (place axes (size nx ny nz) grey samples) masks_points) r.points → after.edges ≡ laid masks_points r.edges
        → after.marks ≡ laid (map (mark axes (size nx ny nz)) masks_points) r.marks
        → after.triangles ≡ laid (flat (mesh cubes (size nx ny nz) (mask_above nx masks))) r.triangles → after.work ≡ replicate (length r.work) 0
        → Measured (left 0 found made after)
    unfolding measured granted
    all_granted found made room after f q t m u p e k s w =
        let points = points_are r in
        let d = f ∙ ap length points in
        let g = m ∙ mesh_count r in
        let a = p ∙ ap (λ es. laid (flat_map (place axes (size nx ny nz) grey samples) es) r.points) points in
        let b = e ∙ ap (λ es. laid es r.edges) points in
        let c = k ∙ ap (λ es. laid (map (mark axes (size nx ny nz)) es) r.marks) points in
        let h = s ∙ ap (λ ts. laid (flat ts) r.triangles) (mesh_is r) in
        rw (points_tested found room f q false t, triangles_tested made m false u)
        (λ i. record {
          number = 0;
          point_count = d i;
          triangle_count = g i;
          rooms = record { points = a i; edges = b i; marks = c i; triangles = h i; work = w i };
        })

  -- rooms that are not exceeded hold what is to be written
  pub rooms_hold : (found room points edges marks : ℕ) → found ≡ length masks_points → room ≡ min (points / 3) (min edges marks)
      → ltb (min most_points room) found ≡ false
      → (3 * length masks_points ≤ points) × (length masks_points ≤ edges) × (length masks_points ≤ marks)
  rooms_hold found room points edges marks f q t =
      let l = ltb-false (min most_points room) found t in
      (omega (arith, l, f, q), omega (arith, l, f, q), omega (arith, l, f, q))

  pub triangles_hold : (made room : ℕ) → made ≡ length (edge_mesh cubes (size nx ny nz) (mask_above nx masks)) → ltb (min most_triangles (room / 3)) made ≡ false
      → 3 * length (edge_mesh cubes (size nx ny nz) (mask_above nx masks)) ≤ room
  triangles_hold made room m u = let l = ltb-false (min most_triangles (room / 3)) made u in omega (arith, l, m)
