-- One point or one triangle more, put into its shell's place of the column.
use Rattle.std.specs.Prelude.{◌≡◌, List, ℕ, ◌+◌, ◌<◌, ◌≤◌, ◌^◌, length, get_or}
use Rattle.grid.specs.Limits.{most_points}
use Rattle.mesh.specs.Mesh.{triangle_at}
use Rattle.columns.specs.declared.ways.Way.{Way}
use Rattle.columns.specs.Room.{column_at, work_length, points_in, marks_in, triangles_in, point_number, triangle_number}
use Rattle.columns.specs.Columns.{worth_of, put_by}

-- point i can be put into the column of a kind
pub record PointTurn (v t kind : ℕ) (way : Way) (work : List ℕ) (i : ℕ) : Type 0 where
  pub whole : length work ≡ work_length v t
  pub few : v ≤ most_points
  pub small : i < v
  pub numbered : point_number v t work i < v
  pub fits : put_by way (get_or work (column_at v t + point_number v t work i) 0) (worth_of kind (points_in v work) (marks_in v work) i) < 2 ^ 32

-- triangle k can be counted
pub record TriangleTurn (v t : ℕ) (work : List ℕ) (k : ℕ) : Type 0 where
  pub whole : length work ≡ work_length v t
  pub small : k < t
  pub named : (triangle_at (triangles_in v t work) k).one < v
  pub numbered : triangle_number v t work k < v
  pub fits : get_or work (column_at v t + triangle_number v t work k) 0 + 1 < 2 ^ 32
