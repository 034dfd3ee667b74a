-- The lines behind line 1, read to the end of the text, and the mesh that they say (document 02 (iii)).
use mathlib.Core.List.{List, map, flat_map}
use Rattle.std.specs.Prelude.{ℕ, ◌+◌, get_or}
use Rattle.laws.specs.Threes.{three_at}
use Rattle.reading.specs.Lined.{Lined, following, read_lines, read_end}
use Rattle.records.specs.declared.Shell.{Shell}
use Rattle.meshread.specs.Lines.{Counts, edge_of, next_edge, read_point, read_triangle, read_shell}

-- a mesh in its lists, with a grid edge a point and a record a shell
pub record Mesh : Type 0 where
  pub points : List ℕ
  pub edges : List ℕ
  pub marks : List ℕ
  pub triangles : List ℕ
  pub records : List Shell

-- the mesh of these `V`, `T` and `S` lines: of a `V` line the first number is the grid edge, then x, y, z, and the last the mark
unfoldable pub mesh_of : List (List ℕ) → List (List ℕ) → List Shell → Mesh
mesh_of vs ts shells =
    record {
      points = flat_map (λ row. three_at row 1) vs;
      edges = map edge_of vs;
      marks = map (λ row. get_or row 4 0) vs;
      triangles = flat_map (λ row. three_at row 0) ts;
      records = shells;
    }

-- a `V` line for each point from line 2 on, then a `T` line for each triangle, an `S` line for each shell, and nothing more
unfoldable pub read_lines_of : Counts → List ℕ → Lined Mesh
read_lines_of c bs =
    let first_t = 2 + c.points in
    let first-s = first_t + c.triangles in
    following (λ vs rest. following (λ ts rest. following (λ shells rest. read_end (first-s + c.shells) (mesh_of vs ts shells) rest)
    (read_lines (λ bound. read_shell) (λ shell. 0) c.shells 0 first-s rest))
    (read_lines (λ bound. read_triangle) (λ row. 0) c.triangles 0 first_t rest))
    (read_lines read_point next_edge c.points 0 2 bs)
