-- One triangle more in its shell's volume.
use Rattle.std.specs.Prelude.{◌≡◌, List, true, ℕ, ◌+◌, ◌*◌, ◌-◌, ◌<◌, ◌≤◌, length, get_or}
use Rattle.laws.specs.Mesh.{Triangle, triangle}
use Rattle.grid.specs.Limits.{most_coordinate}
use Rattle.mesh.specs.Mesh.{triangle_at}
use Rattle.mesh.specs.Check.{triangles_fit, all_within}
use Rattle.mesh.specs.Place.{place_of, Near}
use Rattle.records.specs.Record.{diagonals}
use Rattle.records.specs.Grown.{most_volume}
use Rattle.columns.specs.Room.{work_length, points_in, triangles_in, triangle_number}
use Rattle.volumes.specs.Volumes.{words_in}

-- the two sides of a triangle's determinant: what counts positive, and what counts negative
abbrev pub gain_of : List ℕ → Triangle → ℕ
gain_of points t = diagonals (place_of points t.one) (place_of points t.two) (place_of points t.three)

abbrev pub loss_of : List ℕ → Triangle → ℕ
loss_of points t = diagonals (place_of points t.three) (place_of points t.two) (place_of points t.one)

-- a stored volume with one triangle more
abbrev pub changed : List ℕ → Triangle → ℕ → ℕ
changed points t stored = stored + gain_of points t - loss_of points t

-- it is a number of 64 bits
pub record Changeable (points : List ℕ) (t : Triangle) (stored : ℕ) : Type 0 where
  pub most : stored ≤ 2 * most_volume
  pub least : loss_of points t ≤ stored + gain_of points t

-- the three numbers that stand in a room from a place on, as a triangle
abbrev pub corners_at : List ℕ → ℕ → Triangle
corners_at work at = triangle (get_or work at 0) (get_or work (at + 1) 0) (get_or work (at + 2) 0)

-- a point stands in the front of the room, within the limit
pub record Placed (work : List ℕ) (p : ℕ) : Type 0 where
  pub there : 3 * p + 2 < length work
  pub near : Near (place_of work p)

-- the triangle whose corners stand from a place on can be put to a stored volume
pub record Turnable (work : List ℕ) (at stored : ℕ) : Type 0 where
  pub there : at + 2 < length work
  pub one : Placed work (corners_at work at).one
  pub two : Placed work (corners_at work at).two
  pub three : Placed work (corners_at work at).three
  pub fits : Changeable work (corners_at work at) stored

-- triangle k can be put to its shell's volume
pub record VolumeTurn (v t : ℕ) (work : List ℕ) (k : ℕ) : Type 0 where
  pub whole : length work ≡ work_length v t
  pub near : all_within most_coordinate (points_in v work) ≡ true
  pub corners : triangles_fit (triangles_in v t work) v ≡ true
  pub small : k < t
  pub numbered : triangle_number v t work k < v
  pub fits : Changeable (points_in v work) (triangle_at (triangles_in v t work) k) (words_in v t work (triangle_number v t work k))
