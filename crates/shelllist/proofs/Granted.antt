-- What a granted list of shells says: the mesh passed, the shell numbers are a numbering, there is a record for each shell, and record n stands at n in the lent list.
use mathlib.Core.Path.{◌≡◌, ap, sym, ◌∙◌}
use mathlib.Core.List.{List}
use mathlib.Core.Bool.{cond}
use Prim.Native.Nat.{ℕ, ◌<◌, ◌≤◌}
use native.Mathlib.Omega.{arith}
use lib.ListN.{length, get_or}
use borrow.Author.Tests.{eq-eqb}
use Rattle.laws.specs.Room.{laid}
use Rattle.laws.specs.Values.{list_to}
use Rattle.laws.proofs.Rooms.{length_laid}
use Rattle.laws.proofs.Values.{length_list, laid_at}
use Rattle.mesh.specs.Mesh.{triangles_of}
use Rattle.records.specs.declared.Shell.{Shell}
use Rattle.records.specs.Grown.{none}
use Rattle.records.specs.Record.{record_of}
use Rattle.shellnumbers.specs.Numbering.{Numbering}
use Rattle.shellnumbers.specs.Lists.{Outcome, Lists, refused, crowded, granted}
use Rattle.shellnumbers.proofs.Sound.{Passed, passed}
use Rattle.shelllist.specs.Promise.{records_after, Shells}

module _ (points triangles marks numbers work : List ℕ) (room : List Shell) (o : Outcome) where
  pub record Granted : Type 0 where
    pub ok : Passed points triangles marks (length numbers) (length work)
    pub numbering : Numbering (triangles_of triangles) (length marks) o.numbers o.shells
    pub enough : o.shells ≤ length room

  pub is_granted : Lists points triangles marks (length room) numbers work o → o.number ≡ 0 → Granted
  is_granted (refused n e) zero = absurd (n (sym (ap (λ x. x.number) e) ∙ zero))
  is_granted (crowded z f s N m e) zero = absurd (omega (arith, ap (λ x. x.number) e, zero))
  is_granted (granted z f s N m e) zero =
      record {
        ok = passed points triangles marks (length numbers) (length work) z;
        numbering = rw (ap (λ x. x.numbers) e, ap (λ x. x.shells) e) N;
        enough = rw (ap (λ x. x.shells) e) m;
      }

  module _ (after : List Shell) (s : Shells points triangles marks numbers work room o after) (zero : o.number ≡ 0) where
    abbrev record_of_lem : ℕ → Shell
    record_of_lem = record_of points triangles marks o.numbers

    laid_over : after ≡ laid (list_to o.shells record_of_lem) room
    unfolding records_after
    laid_over = s.records ∙ ap (λ b. cond b (laid (list_to o.shells record_of_lem) room) room) (eq-eqb o.number 0 zero)

    pub as_long : length after ≡ length room
    as_long =
        let long = length_list o.shells record_of_lem in
        ap length laid_over ∙ length_laid (list_to o.shells record_of_lem) room (omega (arith, long, (is_granted s.lists zero).enough))

    pub record_at_lem : (n : ℕ) → n < o.shells → get_or after n none ≡ record_of_lem n
    record_at_lem n l = ap (λ xs. get_or xs n none) laid_over ∙ laid_at o.shells n record_of_lem room none l
