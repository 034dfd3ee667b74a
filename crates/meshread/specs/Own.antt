-- The text of a mesh, and the meshes whose text the reader takes (document 02 (iii)).
use Rattle.std.specs.Prelude.{◌≡◌, List, ℕ, ◌+◌, ◌*◌, ◌/◌, ◌^◌, ◌<◌, length, get_or, take}
use Rattle.laws.specs.Sum.{All}
use Rattle.mesh.specs.Check.{mesh_number}
use Rattle.records.specs.Grown.{none}
use Rattle.meshtext.specs.MeshText.{mesh_text}
use Rattle.meshread.specs.Lines.{Counts}
use Rattle.meshread.specs.Mesh.{Mesh}
use Rattle.meshread.specs.Promise.{Outcome, own_records, Numbered}

-- what the writer writes for a mesh with its records, and the numbers of line 1 in it
unfoldable pub text_of : Mesh → List ℕ
text_of m = mesh_text m.points m.edges m.marks m.triangles (length m.records) (λ n. get_or m.records n none)

abbrev pub counts_in : Mesh → Counts
counts_in m = record { points = length m.marks; triangles = length m.triangles / 3; shells = length m.records }

-- each edge number is above the one before
abbrev pub Rising : List ℕ → Type 0
Rising edges = (i : ℕ) → i + 1 < length edges → get_or edges i 0 < get_or edges (i + 1) 0

-- a mesh that passes 7 to 9, with an edge number a point, below 2^32 and rising strictly, and with the records of its own shells
pub record Own (m : Mesh) : Type 0 where
  pub passes : mesh_number m.points m.triangles m.marks ≡ 0
  pub edged : length m.edges ≡ length m.marks
  pub below : All (λ e. e < 2 ^ 32) m.edges
  pub rising : Rising m.edges
  pub found : List ℕ
  pub shells : ℕ
  pub numbered : Numbered m found shells
  pub records : m.records ≡ own_records m found shells

-- what a granted call left in the front of the rooms
unfoldable pub mesh_left : Outcome → Mesh
mesh_left o =
    record {
      points = take (3 * o.points) o.rooms.points;
      edges = take o.points o.rooms.edges;
      marks = take o.points o.rooms.marks;
      triangles = take (3 * o.triangles) o.rooms.triangles;
      records = take o.shells o.rooms.records;
    }
