-- The pass over the lines behind line 1: the form of every line, and points, marks and triangles in the work room (document 02 (iii)).
use Rattle.std.specs.Prelude.{◌≡◌, ℕ, ◌+◌, ◌*◌, get_or, set, drop, Option, Some, None, Result, Ok, Err}
use mathlib.Core.List.{List, [], map, flat_map}
use Rattle.std.proofs.lemmas.List.Edits.{sets}
use Rattle.laws.specs.Threes.{three_at}
use Rattle.laws.specs.Part.{part_of}
use Rattle.columns.specs.Room.{marks_at, triangles_at}
use Rattle.records.specs.declared.Shell.{Shell}
use Rattle.reading.specs.Reading.{bad, got}
use Rattle.reading.specs.Lined.{Lined, wrong, lined, following, read_lines, read_end}
use Rattle.meshread.specs.Lines.{Counts, next_edge, read_point, read_triangle, read_shell}
use Rattle.meshread.specs.Mesh.{mesh_of, read_lines_of}

-- the numbers of line 1
abbrev pub counts_for : ℕ → ℕ → ℕ → Counts
counts_for v t shells = record { points = v; triangles = t; shells = shells }

-- so many lines of a kind from the front of a text: `V` lines from line 2 on, `T` lines and `S` lines from a line on
abbrev pub point_lines : ℕ → List ℕ → Lined (List (List ℕ))
point_lines v bs = read_lines read_point next_edge v 0 2 bs

abbrev pub triangle_lines : ℕ → ℕ → List ℕ → Lined (List (List ℕ))
triangle_lines t line bs = read_lines (λ bound. read_triangle) (λ row. 0) t 0 line bs

abbrev pub shell_lines : ℕ → ℕ → List ℕ → Lined (List Shell)
shell_lines shells line bs = read_lines (λ bound. read_shell) (λ shell. 0) shells 0 line bs

-- the `S` lines, and nothing behind them
abbrev pub last_lines : ℕ → ℕ → List ℕ → Lined (List Shell)
last_lines shells line bs = following (λ ss rest. read_end (line + shells) ss rest) (shell_lines shells line bs)

-- what stands in the room after the `V` lines `vs` of v points: the coordinates from the front, the marks behind the room for all coordinates
abbrev pub with_points : ℕ → List (List ℕ) → List ℕ → List ℕ
with_points v vs room = sets (sets room 0 (flat_map (λ row. three_at row 1) vs)) (marks_at v) (map (λ row. get_or row 4 0) vs)

-- and after the `T` lines `ts`
abbrev pub with_triangles : ℕ → List (List ℕ) → List ℕ → List ℕ
with_triangles v ts room = sets room (triangles_at v) (flat_map (λ row. three_at row 0) ts)

-- one point's line: it is malformed; or its numbers were stored for point i of v, and the next edge number must be above this one
pub record PointTaken (input : List ℕ) (from bound i v : ℕ) (before : List ℕ) (next least : ℕ) (after : List ℕ) : Type 0 where
  pub row : List ℕ
  pub read : read_point bound (drop from input) ≡ got row (drop next input)
  pub above : least ≡ next_edge row
  pub stored : after ≡ set (set (set (set before (3 * i) (get_or row 1 0)) (3 * i + 1) (get_or row 2 0)) (3 * i + 2) (get_or row 3 0)) (marks_at v + i) (get_or row 4 0)

abbrev pub TakesPoint : List ℕ → ℕ → ℕ → ℕ → ℕ → List ℕ → Option (ℕ × ℕ) → List ℕ → Type 0
TakesPoint input from bound i v before None after = read_point bound (drop from input) ≡ bad
TakesPoint input from bound i v before (Some r) after = PointTaken input from bound i v before r.0 r.1 after

-- one triangle's line, its corners stored from `at` on
pub record TriangleTaken (input : List ℕ) (from at : ℕ) (before : List ℕ) (next : ℕ) (after : List ℕ) : Type 0 where
  pub row : List ℕ
  pub read : read_triangle (drop from input) ≡ got row (drop next input)
  pub stored : after ≡ set (set (set before at (get_or row 0 0)) (at + 1) (get_or row 1 0)) (at + 2) (get_or row 2 0)

abbrev pub TakesTriangle : List ℕ → ℕ → ℕ → List ℕ → Option ℕ → List ℕ → Type 0
TakesTriangle input from at before None after = read_triangle (drop from input) ≡ bad
TakesTriangle input from at before (Some next) after = TriangleTaken input from at before next after

-- a pass over lines answers the place behind them, or the first that is malformed
pub record Goes {A : Type 0} (read : Lined A) (input : List ℕ) (next : ℕ) (Left : A → Type 0) : Type 0 where
  pub all : A
  pub lines : read ≡ lined all (drop next input)
  pub left : Left all

abbrev pub Passes : {A : Type 0} → Lined A → List ℕ → Result ℕ ℕ → (A → Type 0) → Type 0
Passes read input (Err line) Left = read ≡ wrong line
Passes read input (Ok next) Left = Goes read input next Left

-- nothing is said of what the lines leave
abbrev pub Anything : Type 0
Anything = Unit {0}

-- all lines behind line 1 are well formed, and the mesh that they say stands in the work room
pub record Formed (c : Counts) (input : List ℕ) (from next : ℕ) (work : List ℕ) : Type 0 where
  pub vs : List (List ℕ)
  pub ts : List (List ℕ)
  pub shells : List Shell
  pub behind : List ℕ
  pub points_read : point_lines c.points (drop from input) ≡ lined vs behind
  pub triangles_read : triangle_lines c.triangles (2 + c.points) behind ≡ lined ts (drop next input)
  pub shells_read : shell_lines c.shells (2 + c.points + c.triangles) (drop next input) ≡ lined shells []
  pub points_there : part_of 0 (3 * c.points) work ≡ (mesh_of vs ts shells).points
  pub marks_there : part_of (marks_at c.points) c.points work ≡ (mesh_of vs ts shells).marks
  pub triangles_there : part_of (triangles_at c.points) (3 * c.triangles) work ≡ (mesh_of vs ts shells).triangles

-- the pass over them: all of that, with the place where the `S` lines begin, or a malformed line
abbrev pub Forms : Counts → List ℕ → ℕ → Result ℕ ℕ → List ℕ → Type 0
Forms c input from (Err line) work = read_lines_of c (drop from input) ≡ wrong line
Forms c input from (Ok next) work = Formed c input from next work
