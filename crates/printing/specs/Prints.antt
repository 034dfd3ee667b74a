-- What is printed of a mesh (document 01, "The program for small grids"): it is smoothed, its shells are listed, and it is written with their records.
use Rattle.std.specs.Prelude.{◌≡◌, List, ℕ, length}
use Rattle.mesh.specs.Mesh.{triangles_of}
use Rattle.rounds.specs.Round.{rounds}
use Rattle.shellnumbers.specs.Numbering.{Numbering}
use Rattle.records.specs.Record.{record_of}
use Rattle.closed.specs.Left.{Mesh}
use Rattle.meshtext.specs.MeshText.{mesh_text}

-- k rounds of weight w give the points other places; triangles and marks are the mesh's own
unfoldable pub after_rounds : ℕ → ℕ → Mesh → Mesh
after_rounds k w m =
    record {
      points = rounds (triangles_of m.triangles) m.marks w k m.points;
      triangles = m.triangles;
      marks = m.marks;
    }

-- list the shells of a mesh, and write the mesh with their records
pub record Prints (m : Mesh) (edges text : List ℕ) : Type 0 where
  pub numbers : List ℕ
  pub shells : ℕ
  pub numbering : Numbering (triangles_of m.triangles) (length m.marks) numbers shells
  pub written : text ≡ mesh_text m.points edges m.marks m.triangles shells (record_of m.points m.triangles m.marks numbers)
