-- What the check promises of its answer.
use Rattle.std.specs.Prelude.{◌≡◌, List, ℕ}
use Rattle.mesh.specs.Check.{mesh_number}

abbrev pub Checked : List ℕ → List ℕ → List ℕ → ℕ → Type 0
Checked points triangles marks number = number ≡ mesh_number points triangles marks
