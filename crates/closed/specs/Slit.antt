-- The slit that started it: a table that uses case 246 as case 9 reversed. Alone the cube looks well; beside its neighbour the face is slit.
use Rattle.std.specs.Prelude.{List, [], ◌∷◌, map, Bool, cond, ℕ, eqb}
use Rattle.laws.specs.Range.{join_box}
use Rattle.laws.specs.Mesh.{Triangle, triangle, rename}
use Rattle.cube.specs.Answer.{triangles}
use Rattle.grid.specs.Grid.{Size, axes, is_above_grey}
use Rattle.grid.specs.Point.{number}
use Rattle.grid.specs.Mode.{cubes}
use Rattle.grid.specs.Mesh.{case_at, grid_edge}
use Rattle.grid.specs.Work.{size}

abbrev pub wrong_case : ℕ
wrong_case = 246

unfoldable pub wrong_triangles : ℕ → List Triangle
wrong_triangles k = cond (eqb k wrong_case) (map (λ t. triangle t.one t.three t.two) (triangles 9)) (triangles k)

-- two cubes, one on the other: two samples at a diagonal of the middle layer are below, so that the upper cube is case 246
abbrev pub two_cubes : Size
two_cubes = size 2 2 3

abbrev pub two_cubes_samples : List ℕ
two_cubes_samples = 100 ∷ 100 ∷ 100 ∷ 100 ∷ 0 ∷ 100 ∷ 100 ∷ 0 ∷ 100 ∷ 100 ∷ 100 ∷ 100 ∷ []

abbrev pub two_cubes_grey : ℕ
two_cubes_grey = 50

abbrev pub two_cubes_above : ℕ → Bool
two_cubes_above s = is_above_grey two_cubes_grey two_cubes_samples s

-- their mesh by that table, else made as every mesh is
unfoldable pub wrong_mesh : List Triangle
wrong_mesh =
    map (rename (number axes two_cubes two_cubes_above))
    (join_box 1 1 2 (λ x y z. map (rename (grid_edge cubes two_cubes x y z)) (wrong_triangles (case_at two_cubes two_cubes_above x y z))))
