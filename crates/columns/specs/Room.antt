-- The reader's work room for v points and t triangles, and what stands in its parts.
use Rattle.std.specs.Prelude.{◌≡◌, List, true, ℕ, ◌+◌, ◌*◌, ◌≤◌, length}
use Rattle.laws.specs.Part.{part_of}
use Rattle.grid.specs.Limits.{most_coordinate, most_triangles}
use Rattle.mesh.specs.Mesh.{triangle_at, triangles_of}
use Rattle.mesh.specs.Check.{mesh_number, triangles_fit, all_within}
use Rattle.records.specs.declared.Shell.{Shell}
use Rattle.records.specs.Record.{record_of}
use Rattle.shellnumbers.specs.Numbering.{number_of, Numbering}

-- three coordinates a point, then a mark a point, three corners a triangle, a shell number a point, and a number a shell
abbrev pub marks_at : ℕ → ℕ
marks_at v = 3 * v

abbrev pub triangles_at : ℕ → ℕ
triangles_at v = 4 * v

abbrev pub numbers_at : ℕ → ℕ → ℕ
numbers_at v t = 4 * v + 3 * t

abbrev pub column_at : ℕ → ℕ → ℕ
column_at v t = 5 * v + 3 * t

abbrev pub work_length : ℕ → ℕ → ℕ
work_length v t = 6 * v + 3 * t

-- what stands in the parts before the column
abbrev pub points_in : ℕ → List ℕ → List ℕ
points_in v work = part_of 0 (3 * v) work

abbrev pub marks_in : ℕ → List ℕ → List ℕ
marks_in v work = part_of (marks_at v) v work

abbrev pub triangles_in : ℕ → ℕ → List ℕ → List ℕ
triangles_in v t work = part_of (triangles_at v) (3 * t) work

abbrev pub numbers_in : ℕ → ℕ → List ℕ → List ℕ
numbers_in v t work = part_of (numbers_at v t) v work

-- a mesh that passed 7 to 9 stands in the room, with the shell numbers of its points
pub record StandsIn (shells v t : ℕ) (work : List ℕ) : Type 0 where
  pub whole : length work ≡ work_length v t
  pub passes : mesh_number (points_in v work) (triangles_in v t work) (marks_in v work) ≡ 0
  pub numbered : Numbering (triangles_of (triangles_in v t work)) v (numbers_in v t work) shells

-- points within the limit, triangles that name them and the shell numbers of the points stand in the room; of the part of the marks nothing is said
pub record ShellsStand (shells v t : ℕ) (work : List ℕ) : Type 0 where
  pub whole : length work ≡ work_length v t
  pub few : t ≤ most_triangles
  pub near : all_within most_coordinate (points_in v work) ≡ true
  pub corners : triangles_fit (triangles_in v t work) v ≡ true
  pub numbered : Numbering (triangles_of (triangles_in v t work)) v (numbers_in v t work) shells

-- the shell number of point i, and that of triangle k, by its first corner
abbrev pub point_number : ℕ → ℕ → List ℕ → ℕ → ℕ
point_number v t work i = number_of (numbers_in v t work) i

abbrev pub triangle_number : ℕ → ℕ → List ℕ → ℕ → ℕ
triangle_number v t work k = number_of (numbers_in v t work) (triangle_at (triangles_in v t work) k).one

-- the record of shell n
abbrev pub record_in : ℕ → ℕ → List ℕ → ℕ → Shell
record_in v t work n = record_of (points_in v work) (triangles_in v t work) (marks_in v work) (numbers_in v t work) n
