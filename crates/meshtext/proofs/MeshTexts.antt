-- The text of a mesh: its lists, its length, and its parts one after the other.
use mathlib.Core.Path.{◌≡◌, ap, ◌∙◌}
use mathlib.Core.List.{List, ◌++◌}
use Prim.Native.Nat.{ℕ, ◌+◌, ◌*◌, ◌/◌, ◌≤◌, ◌<◌}
use native.Mathlib.Omega.{arith}
use lib.ListN.{length, length-append}
use lib.Seq.{sets}
use borrow.Author.Tests.{lt-ltb, le-ltb}
use Rattle.laws.proofs.Writes.{sets_append}
use Rattle.grid.specs.Limits.{most_points, most_triangles}
use Rattle.mesh.proofs.Passed.{lengths_are}
use Rattle.lines.specs.Line.{fields, lettered}
use Rattle.meshlines.specs.MeshLines.{points_text, triangles_text}
use Rattle.writing.specs.Writing.{outcome}
use Rattle.meshtext.specs.MeshText.{letter_m, mesh_counts, front_text, mesh_text}
use Rattle.meshtext.specs.Front.{FrontFits, front_written}
use Rattle.writing.proofs.Fields.{lettered_length}
use Rattle.records.specs.declared.Shell.{Shell}
use Rattle.shelllines.proofs.ShellTexts.{shells_same}

-- the lengths of the lists that are written
pub front_fits : (points edges marks triangles : List ℕ) → FrontFits points edges marks triangles
    → (length points ≡ 3 * length marks) × (length edges ≡ length marks) × (length marks ≤ most_points) × (length triangles / 3 ≤ most_triangles)
front_fits points edges marks triangles f =
    let l = lengths_are (length points) (length triangles) (length marks) f.lengths in
    (l.threes, f.edged, l.few, l.triangles_few)

-- the lines before those of the shells
module _ (counts points edges marks triangles : List ℕ) where
  abbrev p : List ℕ
  p = points_text points edges marks (length marks)

  abbrev t : List ℕ
  t = triangles_text triangles (length triangles / 3)

  pub front_length : length (front_text counts points edges marks triangles) ≡ 2 + length (fields 0 counts) + length p + length t
  unfolding front_text
  front_length = rw (length-append (lettered letter_m counts) (p ++ t), length-append p t, lettered_length letter_m counts) (omega arith)

  pub front_written_lem : (room one two three : List ℕ) (at behind : ℕ) → one ≡ sets room 0 (lettered letter_m counts) → at ≡ length (lettered letter_m counts)
      → two ≡ sets one at p → behind ≡ at + length p → three ≡ sets two behind t → three ≡ sets room 0 (front_text counts points edges marks triangles)
  unfolding front_text
  front_written_lem room one two three at behind e q f r g =
      let a = lettered letter_m counts in
      let z : at ≡ 0 + length a = omega arith in
      g ∙ rw (f, r, sets_append one at p t, e, z) (sets_append room 0 a (p ++ t))

-- records that are the same one by one
pub mesh_same : (points edges marks triangles : List ℕ) (shells : ℕ) (f g : ℕ → Shell) → ((n : ℕ) → n < shells → f n ≡ g n)
    → mesh_text points edges marks triangles shells f ≡ mesh_text points edges marks triangles shells g
unfolding mesh_text
mesh_same points edges marks triangles shells f g same = ap (λ s. front_text (mesh_counts marks triangles shells) points edges marks triangles ++ s) (shells_same shells f g same)

-- written, or refused because the room is too short for them and so many bytes more
module _ (text room : List ℕ) (more : ℕ) where
  pub front_refused : length room < length text + more → outcome 3 0 room ≡ front_written text more room
  unfolding front_written
  front_refused l = rw (lt-ltb (length room) (length text + more) l)

  pub front_granted : length text + more ≤ length room → outcome 0 (length text) (sets room 0 text) ≡ front_written text more room
  unfolding front_written
  front_granted l = rw (le-ltb (length room) (length text + more) l)
