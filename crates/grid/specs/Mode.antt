-- How the cubes of a grid are cut. Document 01 cuts whole cubes: `cubes`, whose plain reading is in proofs/Plain.antt.
use Rattle.std.specs.Prelude.{◌≡◌, List, Bool, true, ℕ, ◌+◌, ◌<◌}
use Rattle.std.specs.Bool.{xor}
use Rattle.laws.specs.Sum.{All}
use Rattle.laws.specs.Mesh.{Arrow, Triangle, sides}
use Rattle.cube.specs.Cube.{cases, corner_x, corner_y, corner_z, is_above, low_corner, axis_of}
use Rattle.cube.specs.Answer.{triangles}
use Rattle.grid.specs.Grid.{Kind, axes, along}

-- A mode: the kind of the grid edges; of each edge of a cube the lower corner, which it leaves, and which of the kind's edges it is there; and the triangles of a cube by its
-- case, each corner the number of an edge of the cube.
pub record Mode : Type 0 where
  pub kind : Kind
  pub low : ℕ → ℕ
  pub code : ℕ → ℕ
  pub triangles : ℕ → List Triangle

-- whole cubes: edges along the axes, the twelve edges of a cube and the triangles of its case as document 01 has them
abbrev pub cubes : Mode
cubes = record { kind = axes; low = low_corner; code = axis_of; triangles = triangles }

-- the direction of a cube's edge, and its upper corner
abbrev pub direction_of : Mode → ℕ → ℕ
direction_of m e = m.kind.direction (m.code e)

abbrev pub high : Mode → ℕ → ℕ
high m e = m.low e + direction_of m e

-- What a mode owes: that each corner of a case's triangles is an edge of the cube, crossed in that case, and that no side joins an edge to itself.

-- the edge is one of the kind's, and goes from a corner of the cube to another, one step along each axis that its direction names
pub record CubeEdge (m : Mode) (e : ℕ) : Type 0 where
  pub coded : m.code e < m.kind.many
  pub ends : high m e < 8
  pub step_x : corner_x (high m e) ≡ corner_x (m.low e) + along (direction_of m e) 0
  pub step_y : corner_y (high m e) ≡ corner_y (m.low e) + along (direction_of m e) 1
  pub step_z : corner_z (high m e) ≡ corner_z (m.low e) + along (direction_of m e) 2

-- is an edge crossed in a case: do its corners differ
unfoldable pub crossed_in : Mode → ℕ → ℕ → Bool
crossed_in m k e = xor (is_above k (m.low e)) (is_above k (high m e))

pub record CutEdge (m : Mode) (k e : ℕ) : Type 0 where
  pub edge : CubeEdge m e
  pub cut : crossed_in m k e ≡ true

pub record CutSide (m : Mode) (k : ℕ) (s : Arrow) : Type 0 where
  pub start : CutEdge m k s.from
  pub end : CutEdge m k s.to
  pub apart : m.low s.from ≡ m.low s.to → m.code s.from ≡ m.code s.to → ⊥

abbrev pub SidesCut : Mode → Type 0
SidesCut m = (k : ℕ) → k < cases → All (CutSide m k) (sides (m.triangles k))
