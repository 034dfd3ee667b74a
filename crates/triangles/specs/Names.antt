-- What the walk along the cubes writes: what the grid edges of the triangles' corners are called.
use Rattle.std.specs.Prelude.{cond, List, [], map, ℕ, ◌+◌, ◌*◌, ◌-◌, get_or}
use Rattle.laws.specs.Bits.{word_bits, bit}
use Rattle.laws.specs.Range.{join_to}
use Rattle.laws.specs.Mesh.{flat}
use Rattle.cube.specs.Cube.{corner_x, corner_y, corner_z, low_corner, axis_of}
use Rattle.cube.specs.Answer.{triangles}
use Rattle.grid.specs.Work.{name_of}
use Rattle.rows.specs.declared.Sides.{Sides}
use Rattle.cuberows.specs.declared.Corners.{Corners}
use Rattle.cuberows.specs.Cubes.{word_case, cube_case}

-- how far the grid edge of cube edge e is from the first grid edge of the cube's first corner
unfoldable pub edge_offset : ℕ → ℕ → ℕ → ℕ
edge_offset nx ny e =
    let c = low_corner e in
    3 * (corner_x c + nx * (corner_y c + ny * corner_z c)) + axis_of e

-- what the grid edge of cube edge e is called, where `edge` is the first grid edge of the cube's first corner
abbrev pub corner_name : List ℕ → List ℕ → ℕ → ℕ → ℕ
corner_name offsets names edge e = name_of names (edge + get_or offsets e 0)

-- what is written for a cube of case k: what the grid edges of its triangles' corners are called
unfoldable pub cube_names : List ℕ → List ℕ → ℕ → ℕ → List ℕ
cube_names offsets names edge k = map (corner_name offsets names edge) (flat (triangles k))

-- for the cubes of a stretch whose bits are set, the next cube's first grid edge three on
abbrev pub busy_names : List ℕ → List ℕ → Corners → ℕ → ℕ → ℕ → List ℕ
busy_names offsets names m cubes edge i = cond (bit cubes i) (cube_names offsets names (edge + 3 * i) (word_case m i)) []

abbrev pub stretch_names : List ℕ → List ℕ → Corners → ℕ → ℕ → List ℕ
stretch_names offsets names m cubes edge = join_to word_bits (busy_names offsets names m cubes edge)

-- for a cube of the grid, and for the cubes of a layer
abbrev pub grid_names : List ℕ → List ℕ → Sides → List ℕ → ℕ → ℕ → ℕ → List ℕ
grid_names offsets names sides masks z x y = cube_names offsets names (3 * (x + sides.nx * (y + sides.ny * z))) (cube_case sides masks z x y)

abbrev pub layer_names : List ℕ → List ℕ → Sides → List ℕ → ℕ → List ℕ
layer_names offsets names sides masks z = join_to (sides.ny - 1) (λ y. join_to (sides.nx - 1) (λ x. grid_names offsets names sides masks z x y))
