-- A granted mesh goes from the text and the work room into the result rooms (document 02 (iii)).
use Rattle.std.specs.Prelude.{◌≡◌, List, ℕ, ◌*◌, ◌<◌, ◌≤◌, length, get_or, drop, replicate}
use Rattle.laws.specs.Room.{laid}
use Rattle.reading.specs.Lined.{lined}
use Rattle.grid.specs.Limits.{most_points, most_triangles}
use Rattle.columns.specs.Room.{work_length, points_in, triangles_in}
use Rattle.meshform.specs.Form.{point_lines}
use Rattle.sameshells.specs.Same.{said_of}
use Rattle.judge.specs.declared.Judged.{Judged}
use Rattle.judge.specs.Judged.{edges_at, marks_on}

-- the `V` lines from a place of the input on are well formed
pub record PointsThere (input : List ℕ) (from v : ℕ) : Type 0 where
  pub behind : List ℕ
  pub read : point_lines v (drop from input) ≡ lined (said_of (point_lines v (drop from input))) behind

-- their marks are 0 or 1
abbrev pub MarksFit : List ℕ → ℕ → ℕ → Type 0
MarksFit input from v = (i : ℕ) → i < v → get_or (marks_on input from v) i 0 ≤ 1

-- a mesh that was granted, and rooms that hold it
pub record Fillable (input : List ℕ) (r : Judged) (points edges marks triangles work : List ℕ) : Type 0 where
  pub whole : length work ≡ work_length r.counts.points r.counts.triangles
  pub few : r.counts.points ≤ most_points
  pub triangles_few : r.counts.triangles ≤ most_triangles
  pub points_hold : 3 * r.counts.points ≤ length points
  pub edges_hold : r.counts.points ≤ length edges
  pub marks_hold : r.counts.points ≤ length marks
  pub triangles_hold : 3 * r.counts.triangles ≤ length triangles
  pub there : PointsThere input r.points_at r.counts.points
  pub fit : MarksFit input r.points_at r.counts.points

-- each list of the mesh at the front of its room, the rest of the room as it was; and the work room is zero
pub record ListsFilled (input : List ℕ) (r : Judged) (points₀ points edges₀ edges marks₀ marks triangles₀ triangles work₀ work : List ℕ) : Type 0 where
  pub points_are : points ≡ laid (points_in r.counts.points work₀) points₀
  pub edges_are : edges ≡ laid (edges_at input r.points_at r.counts.points) edges₀
  pub marks_are : marks ≡ laid (marks_on input r.points_at r.counts.points) marks₀
  pub triangles_are : triangles ≡ laid (triangles_in r.counts.points r.counts.triangles work₀) triangles₀
  pub zeroed : work ≡ replicate (length work₀) 0
