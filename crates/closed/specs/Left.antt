-- Of which mesh demand 3 speaks: one that "was extracted here, smoothed here or not".
use Rattle.std.specs.Prelude.{◌≡◌, List, ℕ, ◌*◌, take}
use Rattle.grid.specs.Grid.{Size}
use Rattle.grid.specs.Mode.{Mode}
use Rattle.extract.specs.Extraction.{Rooms, Outcome}
use Rattle.extract.specs.Promise.{Extracts}
use Rattle.smooth.specs.Promise.{Smooths}

-- a mesh as the calls on a mesh take it: three coordinates a point, three points a triangle, a mark a point
pub record Mesh : Type 0 where
  pub points : List ℕ
  pub triangles : List ℕ
  pub marks : List ℕ

-- what the extractor left in the front of its rooms, by the counts that it answered
unfoldable pub mesh_left : Outcome → Mesh
mesh_left o =
    record {
      points = take (3 * o.point_count) o.rooms.points;
      triangles = take (3 * o.triangle_count) o.rooms.triangles;
      marks = take o.point_count o.rooms.marks;
    }

-- the grid edges of its points
unfoldable pub edges_left : Outcome → List ℕ
edges_left o = take o.point_count o.rooms.edges

-- a mesh, and the grid edges of its points, that was extracted here from a grid of size n by a mode, smoothed here or not
pub data Here (mode : Mode) (n : Size) : Mesh → List ℕ → Type 0 where
  -- what a granted call of the extractor left
  extracted_here : (grey : ℕ) (samples : List ℕ) (before : Rooms) (after : Outcome) → Extracts mode n.nx n.ny n.nz grey samples before after
      → after.number ≡ 0 → Here mode n (mesh_left after) (edges_left after)
  -- what a granted call of smoothing on such a mesh left in the second point list, as the points of the same triangles and marks
  smoothed_here : {m : Mesh} {edges : List ℕ} → Here mode n m edges → (k w : ℕ) (second work after left : List ℕ)
      → Smooths m.points m.triangles m.marks k w second work 0 after left
      → Here mode n (record { points = after; triangles = m.triangles; marks = m.marks }) edges
