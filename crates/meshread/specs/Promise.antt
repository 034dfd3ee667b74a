-- What a call of the reader leaves behind (document 02 (iii)): the refusals in their order, then the granted case.
use Rattle.std.specs.Prelude.{◌≡◌, List, Bool, true, false, cond, not, ℕ, ◌+◌, ◌*◌, ◌/◌, min, eqb, ltb, length, replicate}
use Rattle.laws.specs.Room.{laid}
use Rattle.laws.specs.Values.{list_to}
pub use Rattle.grid.specs.Refusal.{shells_differ}
use Rattle.grid.specs.Limits.{most_points, most_triangles}
use Rattle.mesh.specs.Mesh.{triangles_of}
use Rattle.mesh.specs.Check.{mesh_number}
use Rattle.shellnumbers.specs.Numbering.{Numbering}
use Rattle.records.specs.declared.Shell.{Shell}
use Rattle.records.specs.Record.{record_of}
use Rattle.reading.specs.Reading.{Got, bad, got}
use Rattle.reading.specs.Lined.{Lined, wrong, lined}
use Rattle.meshread.specs.Lines.{Counts, read_counts}
use Rattle.meshread.specs.Mesh.{Mesh, read_lines_of}

-- the lent rooms
pub record Rooms : Type 0 where
  pub points : List ℕ
  pub edges : List ℕ
  pub marks : List ℕ
  pub triangles : List ℕ
  pub records : List Shell
  pub work : List ℕ

-- the number, the line and the counts that are answered, and the whole content of each room
pub record Outcome : Type 0 where
  pub number : ℕ
  pub line : ℕ
  pub points : ℕ
  pub triangles : ℕ
  pub shells : ℕ
  pub rooms : Rooms

-- a refusal gives the number, the line and zero counts
abbrev pub refused : ℕ → ℕ → Rooms → Outcome
refused number line r = record { number = number; line = line; points = 0; triangles = 0; shells = 0; rooms = r }

-- the same rooms with the work room zero
unfoldable pub cleared : Rooms → Rooms
cleared r =
    record {
      points = r.points;
      edges = r.edges;
      marks = r.marks;
      triangles = r.triangles;
      records = r.records;
      work = replicate (length r.work) 0;
    }

-- a mesh fills the rooms from the front, and the work room is zero
unfoldable pub granted : Mesh → Rooms → Outcome
granted m r =
    record {
      number = 0;
      line = 0;
      points = length m.marks;
      triangles = length m.triangles / 3;
      shells = length m.records;
      rooms =
          record {
            points = laid m.points r.points;
            edges = laid m.edges r.edges;
            marks = laid m.marks r.marks;
            triangles = laid m.triangles r.triangles;
            records = laid m.records r.records;
            work = replicate (length r.work) 0;
          };
    }

-- how long the lent rooms are
pub record Lengths : Type 0 where
  pub points : ℕ
  pub edges : ℕ
  pub marks : ℕ
  pub triangles : ℕ
  pub records : ℕ
  pub work : ℕ

abbrev pub lengths_of : Rooms → Lengths
lengths_of r =
    record {
      points = length r.points;
      edges = length r.edges;
      marks = length r.marks;
      triangles = length r.triangles;
      records = length r.records;
      work = length r.work;
    }

-- so many points and triangles may be read into the rooms, which count their whole threes
abbrev pub point_room : Lengths → ℕ
point_room l = min most_points (min (l.points / 3) (min l.edges l.marks))

abbrev pub triangle_room : Lengths → ℕ
triangle_room l = min most_triangles (l.triangles / 3)

-- 4, 5, 11 and 3: the first that holds of line 1's numbers and the rooms, or 0
unfoldable pub room_number : Counts → Lengths → ℕ
room_number c l =
    cond (ltb (point_room l) c.points) 4
    (cond (ltb (triangle_room l) c.triangles) 5
    (cond (ltb l.records c.shells) 11 (cond (not (eqb l.work (6 * c.points + 3 * c.triangles))) 3 0)))

-- what the text says before its shells are looked at: a refusal, with its number and line, and whether the work room is made zero; or a mesh that passes 7, 8 and 9
pub data Said : Type 0 where
  refusal : ℕ → ℕ → Bool → Said
  mesh : Mesh → Said

-- 7, 8, 9
unfoldable pub with_mesh : Mesh → Said
with_mesh m =
    let number = mesh_number m.points m.triangles m.marks in
    cond (not (eqb number 0)) (refusal number 0 true) (mesh m)

-- 15 for the first line from 2 on that is malformed
unfoldable pub with_lines : Lined Mesh → Said
with_lines (wrong line) = refusal 15 line true
with_lines (lined m rest) = with_mesh m

-- 15 for line 1; then 4, 5, 11 and 3
unfoldable pub with_counts : Lengths → Got Counts → Said
with_counts l bad = refusal 15 1 false
with_counts l (got c rest) = cond (not (eqb (room_number c l) 0)) (refusal (room_number c l) 0 false) (with_lines (read_lines_of c rest))

unfoldable pub said : List ℕ → Lengths → Said
said input l = with_counts l (read_counts input)

-- the records of a mesh's own shells
abbrev pub own_records : Mesh → List ℕ → ℕ → List Shell
own_records m found shells = list_to shells (record_of m.points m.triangles m.marks found)

-- these are the shell numbers of its points, and there are so many shells
abbrev pub Numbered : Mesh → List ℕ → ℕ → Type 0
Numbered m found shells = Numbering (triangles_of m.triangles) (length m.marks) found shells

-- a call on this input and these rooms may leave this behind
pub data Reads (input : List ℕ) (r : Rooms) (o : Outcome) : Type 0 where
  -- 15, 4, 5, 11, 3, 7, 8 and 9
  refused_early : (number line : ℕ) (zeroed : Bool) → said input (lengths_of r) ≡ refusal number line zeroed → o ≡ refused number line (cond zeroed (cleared r) r) → Reads input r o
  -- 16: the number of shells or a record differs from the mesh's own
  others_shells : (m : Mesh) → said input (lengths_of r) ≡ mesh m → (found : List ℕ) (shells : ℕ) → Numbered m found shells → (m.records ≡ own_records m found shells → ⊥)
      → o ≡ refused shells_differ 0 (cleared r) → Reads input r o
  -- granted
  taken : (m : Mesh) → said input (lengths_of r) ≡ mesh m → (found : List ℕ) (shells : ℕ) → Numbered m found shells → m.records ≡ own_records m found shells → o ≡ granted m r → Reads input r o
