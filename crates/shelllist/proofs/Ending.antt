-- The two ways that the call ends, from what the list of numbers says.
use mathlib.Core.Path.{◌≡◌, ◌∙◌}
use mathlib.Core.List.{List}
use Prim.Native.Nat.{ℕ, ◌≤◌}
use lib.ListN.{length}
use borrow.Author.Tests.{eq-eqb, ne_eqb}
use Rattle.records.specs.declared.Shell.{Shell}
use Rattle.shellnumbers.specs.Lists.{left, Lists}
use Rattle.shelllist.specs.Promise.{records_after, Shells}
use Rattle.shelllist.specs.Filled.{records_filled, FillFits}
use Rattle.shelllist.proofs.Granted.{Granted, is_granted}
use Rattle.shelllist.proofs.Made.{fill_fits, made}

module _ (points triangles marks numbers work : List ℕ) (room : List Shell) (number shells : ℕ) (found after : List ℕ)
    (l : Lists points triangles marks (length room) numbers work (left number shells found after)) where
  -- a refusal leaves the records
  pub ends_early : (number ≡ 0 → ⊥) → Shells points triangles marks numbers work room (left number shells found after) room
  unfolding records_after
  ends_early n = record { lists = l; records = rw (ne_eqb number 0 n) }

  module _ (none : number ≡ 0) where
    grants : Granted points triangles marks numbers work room (left number shells found after)
    grants = is_granted points triangles marks numbers work room (left number shells found after) l none

    pub enough : shells ≤ length room
    enough = grants.enough

    pub can_fill : FillFits points triangles marks found shells room
    can_fill = fill_fits points triangles marks found shells room (length numbers) (length work) grants.ok grants.numbering grants.enough

    pub ends_granted : (records : List Shell) → records ≡ records_filled points triangles marks found shells room
        → Shells points triangles marks numbers work room (left number shells found after) records
    unfolding records_after
    ends_granted records e =
        record {
          lists = l;
          records =
              e
              ∙ made points triangles marks found shells room (length numbers) (length work) grants.ok grants.numbering grants.enough
              ∙ rw (eq-eqb number 0 none);
        }
