-- Lists of records as points and triangles are added to them, each to the record of its shell.
use Rattle.std.specs.Prelude.{List, ◌≡◌, true, ℕ, zero, suc, ◌+◌, ◌*◌, ◌<◌, ◌≤◌, length, get_or, set}
use Rattle.grid.specs.Limits.{most_points}
use Rattle.mesh.specs.Mesh.{triangle_count, triangle_at}
use Rattle.mesh.specs.Check.{triangles_fit}
use Rattle.mesh.specs.Place.{place_of}
use Rattle.shellnumbers.specs.Numbering.{number_of}
use Rattle.records.specs.declared.Shell.{Shell}
use Rattle.records.specs.Record.{sixfold}
use Rattle.records.specs.Grown.{none, with_point, with_triangle, PointFits, TriangleFits, MeshFits}

-- record n of a list, changed
abbrev pub changed : (Shell → Shell) → ℕ → List Shell → List Shell
changed f n records = set records n (f (get_or records n none))

-- the first n records made empty
abbrev pub emptied : ℕ → List Shell → List Shell
emptied zero records = records
emptied (suc n) records = set (emptied n records) n none

-- j points added, each to the record of its number
abbrev pub points_added : List ℕ → List ℕ → List ℕ → ℕ → List Shell → List Shell
points_added points marks numbers zero records = records
points_added points marks numbers (suc j) records =
    changed (with_point j (place_of points j) (get_or marks j 0)) (number_of numbers j) (points_added points marks numbers j records)

-- k triangles added, each to the record of its first corner's number
abbrev pub triangles_added : List ℕ → List ℕ → List ℕ → ℕ → List Shell → List Shell
triangles_added points triangles numbers zero records = records
triangles_added points triangles numbers (suc k) records =
    changed
    (with_triangle (sixfold points (triangle_at triangles k)))
    (number_of numbers (triangle_at triangles k).one)
    (triangles_added points triangles numbers k records)

-- point i can be added: it has a place and a record, and there is room in it
pub record PointTurn (points marks numbers : List ℕ) (records : List Shell) (i : ℕ) : Type 0 where
  pub small : i < length numbers
  pub placed : 3 * i + 2 < length points
  pub marked : i < length marks
  pub few : length marks ≤ most_points
  pub numbered : number_of numbers i < length records
  pub room : PointFits (get_or records (number_of numbers i) none)

-- triangle k can be added
pub record TriangleTurn (points triangles numbers : List ℕ) (records : List Shell) (k : ℕ) : Type 0 where
  pub small : k < triangle_count triangles
  pub mesh : MeshFits points triangles
  pub corners : triangles_fit triangles (length numbers) ≡ true
  pub numbered : number_of numbers (triangle_at triangles k).one < length records
  pub room : TriangleFits (sixfold points (triangle_at triangles k)) (get_or records (number_of numbers (triangle_at triangles k).one) none)

-- all points can be added, and all triangles, one after the other
abbrev pub PointsFit : List ℕ → List ℕ → List ℕ → List Shell → Type 0
PointsFit points marks numbers records =
    (j : ℕ) → j < length numbers → PointTurn points marks numbers (points_added points marks numbers j records) j

abbrev pub TrianglesFit : List ℕ → List ℕ → List ℕ → List Shell → Type 0
TrianglesFit points triangles numbers records =
    (k : ℕ) → k < triangle_count triangles → TriangleTurn points triangles numbers (triangles_added points triangles numbers k records) k

-- all records made, from nothing
abbrev pub records_filled : List ℕ → List ℕ → List ℕ → List ℕ → ℕ → List Shell → List Shell
records_filled points triangles marks numbers shells records =
    triangles_added points triangles numbers (triangle_count triangles) (points_added points marks numbers (length numbers) (emptied shells records))

-- all records can be made
pub record FillFits (points triangles marks numbers : List ℕ) (shells : ℕ) (records : List Shell) : Type 0 where
  pub enough : shells ≤ length records
  pub points_fit : PointsFit points marks numbers (emptied shells records)
  pub triangles_fit : TrianglesFit points triangles numbers (points_added points marks numbers (length numbers) (emptied shells records))
