-- Whether the `S` lines of a text are those of the mesh in the work room (document 02 (iii)).
use Rattle.std.specs.Prelude.{◌≡◌, List, [], Bool, true, ℕ, ◌<◌, ◌+◌, ◌*◌, ◌≤◌, ℤ, length, get_or, drop}
use Rattle.std.proofs.lemmas.List.Edits.{sets}
use Rattle.reading.specs.Lined.{Lined, wrong, lined}
use Rattle.records.specs.declared.Shell.{Shell}
use Rattle.records.specs.Grown.{none, most_volume}
use Rattle.columns.specs.Room.{column_at, work_length, points_in, triangles_in}
use Rattle.volumes.specs.Volumes.{words_in}
use Rattle.columns.specs.Columns.{field_of}
use Rattle.meshform.specs.Form.{shell_lines}

-- what lines say that were read
unfoldable pub said_of : {A : Type 0} → Lined (List A) → List A
said_of (wrong line) = []
said_of (lined xs rest) = xs

-- the shells that so many `S` lines say from a place of the input on
abbrev pub shells_at : List ℕ → ℕ → ℕ → List Shell
shells_at input from shells = said_of (shell_lines shells 0 (drop from input))

-- the lines are well formed, and nothing follows them
abbrev pub LinesThere : List ℕ → ℕ → ℕ → Type 0
LinesThere input from shells = shell_lines shells 0 (drop from input) ≡ lined (shells_at input from shells) []

-- an answer decides a question
pub record Decides (answer : Bool) (Question : Type 0) : Type 0 where
  pub yes : answer ≡ true → Question
  pub so : Question → answer ≡ true

-- one field of every shell is what stands from a place of the room on
abbrev pub SameColumn : List Shell → ℕ → ℕ → List ℕ → ℕ → Type 0
SameColumn said shells kind work column = (n : ℕ) → n < shells → field_of kind (get_or said n none) ≡ get_or work (column + n) 0

-- one field of every shell is that of its record
abbrev pub SameField : List Shell → ℕ → ℕ → (ℕ → Shell) → Type 0
SameField said shells kind record_of = (n : ℕ) → n < shells → field_of kind (get_or said n none) ≡ field_of kind (record_of n)

-- all fields are but the volume, of which there are ten
abbrev pub SameFields : List Shell → ℕ → (ℕ → Shell) → Type 0
SameFields said shells record_of = (kind : ℕ) → kind < 10 → SameField said shells kind record_of

-- the column may have changed, and nothing else
pub record ColumnLeft (v t shells : ℕ) (before after : List ℕ) : Type 0 where
  pub column : List ℕ
  pub short : length column ≤ shells
  pub stays : after ≡ sets before (column_at v t) column

-- two words a shell stand in the room, within the bound
pub record WordsThere (shells v t : ℕ) (work : List ℕ) : Type 0 where
  pub whole : length work ≡ work_length v t
  pub few : shells ≤ v
  pub small : (n : ℕ) → n < shells → words_in v t work n ≤ 2 * most_volume

-- the volume of every shell is this
abbrev pub SameVolumes : List Shell → ℕ → (ℕ → ℤ) → Type 0
SameVolumes said shells volume-of = (n : ℕ) → n < shells → (get_or said n none).volume ≡ volume-of n

-- the work room when all were held against the lines: points and triangles stand as before
pub record MeshLeft (v t : ℕ) (before after : List ℕ) : Type 0 where
  pub points : points_in v after ≡ points_in v before
  pub triangles : triangles_in v t after ≡ triangles_in v t before
