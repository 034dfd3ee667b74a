-- What is not claimed: on one outer face a triangle side may be used once, one way only. So it is in a grid of a single cube with one sample above, case 1.
use Rattle.std.specs.Prelude.{List, [], ◌∷◌, Bool, ℕ}
use Rattle.laws.specs.Mesh.{Triangle}
use Rattle.grid.specs.Grid.{Size, is_above_grey}
use Rattle.grid.specs.Mode.{cubes}
use Rattle.grid.specs.Mesh.{mesh}
use Rattle.grid.specs.Work.{size}

abbrev pub one_cube : Size
one_cube = size 2 2 2

abbrev pub one_cube_above : ℕ → Bool
one_cube_above s = is_above_grey 1 (1 ∷ 0 ∷ 0 ∷ 0 ∷ 0 ∷ 0 ∷ 0 ∷ 0 ∷ []) s

abbrev pub one_cube_mesh : List Triangle
one_cube_mesh = mesh cubes one_cube one_cube_above
