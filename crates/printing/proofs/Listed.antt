-- The shells of a small mesh are listed, and what is written with their records is what is to be printed.
use mathlib.Core.Path.{◌≡◌, ap, ◌∙◌}
use mathlib.Core.List.{List}
use mathlib.Core.Bool.{true}
use Prim.Native.Nat.{ℕ, ◌*◌, ◌≤◌}
use native.Mathlib.Omega.{arith}
use lib.ListN.{length, get_or, take, replicate, length-replicate}
use borrow.Author.Tests.{eq-eqb, le-leb}
use Rattle.grid.specs.Limits.{most_points}
use Rattle.mesh.proofs.Passed.{passed}
use Rattle.records.specs.declared.Shell.{Shell}
use Rattle.records.specs.Grown.{none}
use Rattle.records.specs.Record.{record_of}
use Rattle.shellnumbers.specs.Lists as Lists
use Rattle.shellnumbers.specs.Lists.{left, shell_rooms_fit, refusal, early, refused, crowded, granted}
use Rattle.shelllist.proofs.Few.{no_more_than_points}
use Rattle.shelllist.proofs.Granted.{Granted, is_granted, as_long, record_at_lem}
use Rattle.writing.specs.Writing.{Outcome}
use Rattle.writing.proofs.Fields.{written_read}
use Rattle.meshtext.specs.MeshText.{mesh_text, lists_fit, mesh_written}
use Rattle.meshtext.proofs.MeshTexts.{mesh_same}
use Rattle.printing.specs.Sizes.{most_small_points}
use Rattle.printing.specs.Prints.{Prints}
use Rattle.printing.specs.SmallMesh.{mesh_of, SmallMesh}
use Rattle.printing.specs.Listed.{ListsAndWrites}

module _ (points edges marks triangles numbers work room found left-work : List ℕ) (small : SmallMesh points edges marks triangles (length room))
    (whole : length numbers ≡ length marks) (twice : length work ≡ 2 * length marks) (o : Outcome) (l : ListsAndWrites points edges marks triangles numbers work room found left-work o) where
  abbrev blanks : List Shell
  blanks = replicate most_small_points none

  many : length blanks ≡ most_small_points
  many = length-replicate most_small_points none

  abbrev shells : ℕ
  shells = l.shells

  abbrev listed : Lists.Outcome
  listed = left l.number shells found left-work

  nothing_refused : early points triangles marks numbers work ≡ 0
  unfolding refusal shell_rooms_fit
  nothing_refused = rw (small.passes, eq-eqb (length numbers) (length marks) whole, eq-eqb (length work) (2 * length marks) twice)

  -- the list is granted
  zero : l.number ≡ 0
  zero = go l.made.lists
    where
      go : Lists.Lists points triangles marks (length blanks) numbers work listed → l.number ≡ 0
      go (refused n e) = absurd (n nothing_refused)
      go (crowded z f s N m e) = absurd (omega (arith, m, small.few_points, many, no_more_than_points points triangles marks f s N))
      go (granted z f s N m e) = ap (λ x. x.number) e

  grants : Granted points triangles marks numbers work blanks listed
  grants = is_granted points triangles marks numbers work blanks listed l.made.lists zero

  most : shells ≤ most_small_points
  most = omega (arith, grants.enough, many)

  lists_pass : lists_fit (length points) (length edges) (length marks) (length triangles) (length l.records) shells ≡ true
  unfolding lists_fit
  lists_pass =
      rw (
        (passed points triangles marks small.passes).lengths_fit_lem,
        eq-eqb (length edges) (length marks) small.edged,
        le-leb shells (length l.records) (omega (arith, grants.enough, as_long points triangles marks numbers work blanks listed l.records l.made zero)),
        le-leb shells most_points (omega (arith, most)),
      )

  pub mesh_printed : (o.length ≤ length o.room) × Prints (mesh_of points triangles marks) edges (take o.length o.room)
  unfolding mesh_written
  mesh_printed =
      let text = mesh_text points edges marks triangles shells (λ n. get_or l.records n none) in
      let not_IsShort = l.holds (omega (arith, most, small.few_points, small.few_triangles, small.room)) in
      let r = written_read text room o.room o.number o.length not_IsShort (l.written ∙ rw lists_pass) in
      let each = record_at_lem points triangles marks numbers work blanks listed l.records l.made zero in (
        r.0,
        record {
          numbers = found;
          shells = shells;
          numbering = grants.numbering;
          written = r.1 ∙ mesh_same points edges marks triangles shells (λ n. get_or l.records n none) (record_of points triangles marks found) each;
        },
      )
