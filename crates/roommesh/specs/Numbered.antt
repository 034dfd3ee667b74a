-- The shell numbers of the points of a mesh in the reader's work room.
use Rattle.std.specs.Prelude.{◌≡◌, List, true, ℕ, ◌*◌, ◌≤◌, length}
use Rattle.std.proofs.lemmas.List.Edits.{sets}
use Rattle.grid.specs.Limits.{most_points, most_triangles}
use Rattle.laws.specs.Part.{part_of}
use Rattle.mesh.specs.Mesh.{triangles_of}
use Rattle.mesh.specs.Check.{triangles_fit}
use Rattle.shellnumbers.specs.Numbering.{Numbering}
use Rattle.columns.specs.Room.{triangles_at, numbers_at, work_length}

-- v points and t triangles stand in the room, and each triangle names three of the points
pub record Numberable (v t : ℕ) (work : List ℕ) : Type 0 where
  pub whole : length work ≡ work_length v t
  pub few : v ≤ most_points
  pub triangles_few : t ≤ most_triangles
  pub corners : triangles_fit (part_of (triangles_at v) (3 * t) work) v ≡ true

-- the shell numbers were written, and all else stays
pub record ShellsNumbered (v t : ℕ) (before : List ℕ) (shells : ℕ) (after : List ℕ) : Type 0 where
  pub numbers : List ℕ
  pub numbered : Numbering (triangles_of (part_of (triangles_at v) (3 * t) before)) v numbers shells
  pub stays : after ≡ sets before (numbers_at v t) numbers
