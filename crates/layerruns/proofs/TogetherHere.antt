-- The mesh put together of a closed run is one that was extracted here, so that all of demand 3 is said of it too.
use mathlib.Core.Path.{◌≡◌, refl, ap, sym, subst, ◌∙◌}
use mathlib.Core.List.{List, map}
use mathlib.Core.Bool.{true}
use Prim.Native.Nat.{ℕ, ◌*◌, ◌/◌}
use native.Mathlib.Omega.{arith}
use lib.ListN.{length, replicate, length-map, length-replicate}
use Rattle.laws.proofs.Rooms.{laid_read}
use Rattle.laws.proofs.Ranges.{length_flat}
use Rattle.laws.proofs.Sides.{length_corners}
use Rattle.grid.specs.Grid.{axes, edge_count, is_above_grey, mark}
use Rattle.grid.specs.Point.{point_edges, number, place}
use Rattle.grid.specs.Mode.{cubes}
use Rattle.grid.specs.Mesh.{edge_mesh}
use Rattle.grid.specs.Work.{size}
use Rattle.extract.specs.Extraction.{Rooms, extracted}
use Rattle.closed.specs.Left.{Mesh, mesh_left, edges_left, Here, extracted_here}
use Rattle.layerruns.specs.Run.{Received, Run}
use Rattle.layerruns.specs.Whole.{leaves}
use Rattle.layerruns.proofs.PutTogether.{put_together, extractor_leaves}

module _ {nx ny nz grey taken : ℕ} {samples state : List ℕ} {got : Received} (run : Run nx ny nz grey taken samples true state got) where
  -- the mesh: each corner by the number of its point
  abbrev pub together : Mesh
  together = record { points = got.places; triangles = map (number axes (size nx ny nz) (is_above_grey grey samples)) got.corners; marks = got.marks }

  -- rooms that just hold it
  abbrev rooms : Rooms
  rooms =
      record {
        points = replicate (3 * length got.edges) 0;
        edges = replicate (length got.edges) 0;
        marks = replicate (length got.edges) 0;
        triangles = replicate (length got.corners) 0;
        work = replicate (edge_count axes (size nx ny nz)) 0;
      }

  left_there : extracted cubes nx ny nz grey samples rooms ≡ leaves (size nx ny nz) grey samples got rooms
  left_there =
      let v = length got.edges in
      let p = length-replicate {A = ℕ} (3 * v) 0 in
      let e = length-replicate {A = ℕ} v 0 in
      extractor_leaves run rooms (length-replicate (edge_count axes (size nx ny nz)) 0) (omega (arith, p, e)) (omega (arith, length-replicate {A = ℕ} (length got.corners) 0))

  -- three coordinates a point, a mark a point, three corners a triangle
  places_long : length got.places ≡ 3 * length got.edges
  unfolding place
  places_long =
      let w = put_together run in
      let n = size nx ny nz in
      ap length w.places ∙ length_flat 3 (place axes n grey samples) (λ e. refl) (point_edges axes n (is_above_grey grey samples)) ∙ ap (λ es. 3 * length es) (sym w.edges)

  marks_long : length got.marks ≡ length got.edges
  marks_long = let w = put_together run in ap length w.marks ∙ length-map (point_edges axes (size nx ny nz) (is_above_grey grey samples)) (mark axes (size nx ny nz)) ∙ ap length (sym w.edges)

  corners_long : length together.triangles ≡ 3 * (length got.corners / 3)
  corners_long =
      let n = size nx ny nz in
      omega (
        arith,
        length-map got.corners (number axes n (is_above_grey grey samples)),
        ap length (put_together run).corners,
        length_corners (edge_mesh cubes n (is_above_grey grey samples)),
      )

  mesh_read : mesh_left (leaves (size nx ny nz) grey samples got rooms) ≡ together
  unfolding mesh_left leaves
  mesh_read =
      let p = laid_read got.places rooms.points (3 * length got.edges) places_long in
      let t = laid_read together.triangles rooms.triangles (3 * (length got.corners / 3)) corners_long in
      let m = laid_read got.marks rooms.marks (length got.edges) marks_long in
      λ i. record { points = p i; triangles = t i; marks = m i }

  edges_read : edges_left (leaves (size nx ny nz) grey samples got rooms) ≡ got.edges
  unfolding edges_left leaves
  edges_read = laid_read got.edges rooms.edges (length got.edges) refl

  pub together_here : Here cubes (size nx ny nz) together got.edges
  unfolding leaves
  together_here =
      let after = extracted cubes nx ny nz grey samples rooms in
      let here : Here cubes (size nx ny nz) (mesh_left after) (edges_left after) = extracted_here grey samples rooms after refl (ap (λ o. o.number) left_there) in
      subst (λ edges. Here cubes (size nx ny nz) together edges) (ap edges_left left_there ∙ edges_read)
      (subst (λ mesh. Here cubes (size nx ny nz) mesh (edges_left after)) (ap mesh_left left_there ∙ mesh_read) here)
