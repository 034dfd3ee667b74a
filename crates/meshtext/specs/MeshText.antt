-- The text of a mesh (document 01, "The program for small grids", output).
use Rattle.std.specs.Prelude.{◌≡◌, List, [], ◌∷◌, ◌++◌, Bool, cond, not, ◌&&◌, ℕ, ◌+◌, ◌*◌, ◌/◌, ◌≤◌, eqb, leb, length, get_or}
use Rattle.grid.specs.Limits.{most_points}
use Rattle.mesh.specs.Check.{lengths_fit}
use Rattle.records.specs.declared.Shell.{Shell}
use Rattle.records.specs.Grown.{none}
use Rattle.lines.specs.Line.{longest_line, lettered}
use Rattle.writing.specs.Writing.{Outcome, outcome, written}
use Rattle.meshlines.specs.MeshLines.{points_text, triangles_text}
use Rattle.shelllines.specs.ShellLines.{shells_text, longest_shell}

-- the letter `M`
abbrev pub letter_m : ℕ
letter_m = 77

-- `M`: points, triangles, shells
abbrev pub mesh_counts : List ℕ → List ℕ → ℕ → List ℕ
mesh_counts marks triangles shells = length marks ∷ length triangles / 3 ∷ shells ∷ []

-- the lines before those of the shells: `M`, then `V` and `T`
unfoldable pub front_text : List ℕ → List ℕ → List ℕ → List ℕ → List ℕ → List ℕ
front_text counts points edges marks triangles =
    lettered letter_m counts ++ (points_text points edges marks (length marks) ++ triangles_text triangles (length triangles / 3))

-- the lines of a mesh with so many shells, of which record n is this: `M`, `V`, `T` and `S`
unfoldable pub mesh_text : List ℕ → List ℕ → List ℕ → List ℕ → ℕ → (ℕ → Shell) → List ℕ
mesh_text points edges marks triangles shells record_of = front_text (mesh_counts marks triangles shells) points edges marks triangles ++ shells_text shells record_of

-- 6: the lengths are those of a mesh, there is one edge number a point and a record a shell, and no more shells than there may be points
unfoldable pub lists_fit : ℕ → ℕ → ℕ → ℕ → ℕ → ℕ → Bool
lists_fit points edges marks triangles records shells = lengths_fit points triangles marks && (eqb edges marks && (leb shells records && leb shells most_points))

-- so many bytes hold the text of any mesh of so many points, triangles and shells: `M` and `T` have three numbers, `V` has five
abbrev pub longest_front : ℕ → ℕ → ℕ
longest_front points triangles = longest_line 3 + longest_line 5 * points + longest_line 3 * triangles

abbrev pub longest : ℕ → ℕ → ℕ → ℕ
longest points triangles shells = longest_front points triangles + longest_shell * shells

-- the text of a mesh with the first of these records, one a shell, goes to the front of the room
unfoldable pub mesh_written : List ℕ → List ℕ → List ℕ → List ℕ → List Shell → ℕ → List ℕ → Outcome
mesh_written points edges marks triangles records shells room =
    cond (not (lists_fit (length points) (length edges) (length marks) (length triangles) (length records) shells)) (outcome 6 0 room)
    (written (mesh_text points edges marks triangles shells (λ n. get_or records n none)) room)

-- a room that holds the longest text is not too short
abbrev pub Holds : ℕ → ℕ → ℕ → ℕ → ℕ → Type 0
Holds points triangles shells room number = longest points triangles shells ≤ room → number ≡ 3 → ⊥
