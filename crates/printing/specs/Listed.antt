-- What is left behind where the shells of a small mesh are listed and its text is written with their records.
use Rattle.std.specs.Prelude.{◌≡◌, List, ℕ, ◌/◌, length, replicate}
use Rattle.records.specs.declared.Shell.{Shell}
use Rattle.records.specs.Grown.{none}
use Rattle.shellnumbers.specs.Lists.{left}
use Rattle.shelllist.specs.Promise.{Shells}
use Rattle.writing.specs.Writing.{Outcome}
use Rattle.meshtext.specs.MeshText.{Holds, mesh_written}
use Rattle.printing.specs.Sizes.{most_small_points}

-- the shells were listed into blank records, as many as a small mesh may have shells, and the text was written with those that were made
pub record ListsAndWrites (points edges marks triangles numbers work room numbersAfter workAfter : List ℕ) (o : Outcome) : Type 0 where
  pub number : ℕ
  pub shells : ℕ
  pub records : List Shell
  pub made : Shells points triangles marks numbers work (replicate most_small_points none) (left number shells numbersAfter workAfter) records
  pub holds : Holds (length marks) (length triangles / 3) shells (length room) o.number
  pub written : o ≡ mesh_written points edges marks triangles records shells room
