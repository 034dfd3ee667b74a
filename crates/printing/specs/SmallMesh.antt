-- A small mesh, as the functions that print it ask for it.
use Rattle.std.specs.Prelude.{◌≡◌, List, ℕ, ◌/◌, ◌≤◌, length}
use Rattle.mesh.specs.Check.{mesh_number}
use Rattle.closed.specs.Left.{Mesh}
use Rattle.printing.specs.Sizes.{most_small_points, most_small_triangles, most_output}

abbrev pub mesh_of : List ℕ → List ℕ → List ℕ → Mesh
mesh_of points triangles marks = record { points = points; triangles = triangles; marks = marks }

-- a mesh of a small grid, the grid edges of its points, and the room for its text
pub record SmallMesh (points edges marks triangles : List ℕ) (output : ℕ) : Type 0 where
  pub passes : mesh_number points triangles marks ≡ 0
  pub edged : length edges ≡ length marks
  pub few_points : length marks ≤ most_small_points
  pub few_triangles : length triangles / 3 ≤ most_small_triangles
  pub room : most_output ≤ output
