-- What the parts of the writer say of each other: the lines before those of the shells.
use Rattle.std.specs.Prelude.{◌≡◌, List, true, cond, ℕ, ◌+◌, ltb, length}
use Rattle.std.proofs.lemmas.List.Edits.{sets}
use Rattle.mesh.specs.Check.{lengths_fit}
use Rattle.writing.specs.Writing.{Outcome, outcome}

-- the lists of points and triangles that are written
pub record FrontFits (points edges marks triangles : List ℕ) : Type 0 where
  pub lengths : lengths_fit (length points) (length triangles) (length marks) ≡ true
  pub edged : length edges ≡ length marks

-- the lines before those of the shells, written if the room holds them and so many bytes more
unfoldable pub front_written : List ℕ → ℕ → List ℕ → Outcome
front_written text more room = cond (ltb (length room) (length text + more)) (outcome 3 0 room) (outcome 0 (length text) (sets room 0 text))
