-- What the reader has decided before it fills a result room (document 02 (iii)).
use Rattle.std.specs.Prelude.{◌≡◌, List, map, Bool, cond, ℕ, ◌/◌, ◌^◌, ◌<◌, ◌≤◌, length, get_or, drop, replicate, Result, Ok, Err}
use Rattle.grid.specs.declared.refusal.Refusal.{Refusal}
use Rattle.grid.specs.declared.refusal.Refusal.TheVariants.{OtherShells}
use Rattle.grid.specs.Refusal.{number_of, mesh_line}
use Rattle.reading.specs.Lined.{lined}
use Rattle.grid.specs.Limits.{most_points, most_triangles}
use Rattle.columns.specs.Room.{work_length, points_in, triangles_in}
use Rattle.meshread.specs.Lines.{edge_of}
use Rattle.meshread.specs.Mesh.{Mesh, mesh_of}
use Rattle.meshread.specs.Promise.{Lengths, Said, refusal, mesh, with_mesh, said, own_records, Numbered}
use Rattle.meshform.specs.Form.{counts_for, point_lines, Formed}
use Rattle.sameshells.specs.Same.{shells_at, said_of, LinesThere}
use Rattle.judge.specs.declared.Judged.{Judged}

-- the edge numbers and marks of so many `V` lines from a place of the input on
abbrev pub edges_at : List ℕ → ℕ → ℕ → List ℕ
edges_at input from v = map edge_of (said_of (point_lines v (drop from input)))

abbrev pub marks_on : List ℕ → ℕ → ℕ → List ℕ
marks_on input from v = map (λ row. get_or row 4 0) (said_of (point_lines v (drop from input)))

-- where a granted mesh is found: coordinates and corners in the work room, edge numbers and marks in the `V` lines, the records in the `S` lines
pub record FoundAt (input : List ℕ) (m : Mesh) (r : Judged) (work : List ℕ) : Type 0 where
  pub many_points : r.counts.points ≡ length m.marks
  pub many_triangles : r.counts.triangles ≡ length m.triangles / 3
  pub many_shells : r.counts.shells ≡ length m.records
  pub behind : List ℕ
  pub points_read : point_lines r.counts.points (drop r.points_at input) ≡ lined (said_of (point_lines r.counts.points (drop r.points_at input))) behind
  pub shells_read : LinesThere input r.shells_at r.counts.shells
  pub points_are : points_in r.counts.points work ≡ m.points
  pub triangles_are : triangles_in r.counts.points r.counts.triangles work ≡ m.triangles
  pub edges_are : edges_at input r.points_at r.counts.points ≡ m.edges
  pub marks_are : marks_on input r.points_at r.counts.points ≡ m.marks
  pub records_are : shells_at input r.shells_at r.counts.shells ≡ m.records

-- what may be decided where the text says this, and what becomes of the work room
pub data JudgesSaid (s : Said) (input before : List ℕ) (r : Result Judged Refusal) (after : List ℕ) : Type 0 where
  -- 15, 4, 5, 11, 3, 7, 8 and 9
  refused_early : (e : Refusal) → r ≡ Err e → (zeroed : Bool) → s ≡ refusal (number_of e) (mesh_line e) zeroed → after ≡ cond zeroed (replicate (length before) 0) before → JudgesSaid s input before r after
  -- 16
  others_shells : (m : Mesh) → s ≡ mesh m → (found : List ℕ) (shells : ℕ) → Numbered m found shells → (m.records ≡ own_records m found shells → ⊥)
      → r ≡ Err OtherShells → after ≡ replicate (length before) 0 → JudgesSaid s input before r after
  -- granted
  taken : (m : Mesh) → s ≡ mesh m → (found : List ℕ) (shells : ℕ) → Numbered m found shells → m.records ≡ own_records m found shells
      → (j : Judged) → r ≡ Ok j → FoundAt input m j after → JudgesSaid s input before r after

-- the lengths of the rooms
abbrev pub lengths_for : ℕ → ℕ → ℕ → ℕ → ℕ → ℕ → Lengths
lengths_for points edges marks triangles records work = record { points = points; edges = edges; marks = marks; triangles = triangles; records = records; work = work }

-- what may be decided of an input and rooms of these lengths
abbrev pub Judges : List ℕ → Lengths → List ℕ → Result Judged Refusal → List ℕ → Type 0
Judges input l before r after = JudgesSaid (said input l) input before r after

-- v points, t triangles and so many shells were well formed in their lines, and the mesh stands in the work room
pub record Standing (v t shells : ℕ) (input : List ℕ) (from next : ℕ) (work : List ℕ) : Type 0 where
  pub whole : length work ≡ work_length v t
  pub few : v ≤ most_points
  pub triangles_few : t ≤ most_triangles
  pub shells_few : shells < 2 ^ 32
  pub lines : Formed (counts_for v t shells) input from next work

abbrev pub mesh_in : {v t shells : ℕ} {input : List ℕ} {from next : ℕ} {work : List ℕ} → Standing v t shells input from next work → Mesh
mesh_in f = mesh_of f.lines.vs f.lines.ts f.lines.shells

-- what may be decided of its shells, and of all of it
abbrev pub JudgesShells : ℕ → ℕ → ℕ → List ℕ → ℕ → ℕ → List ℕ → Result Judged Refusal → List ℕ → Type 0
JudgesShells v t shells input from next before r after = (f : Standing v t shells input from next before) → JudgesSaid (mesh (mesh_in f)) input before r after

abbrev pub JudgesMesh : ℕ → ℕ → ℕ → List ℕ → ℕ → ℕ → List ℕ → Result Judged Refusal → List ℕ → Type 0
JudgesMesh v t shells input from next before r after = (f : Standing v t shells input from next before) → JudgesSaid (with_mesh (mesh_in f)) input before r after
