-- The two ways that a list of shell numbers ends that no check refuses, from what the sets say.
use mathlib.Core.Path.{◌≡◌, ap, sym, ◌∙◌, subst}
use mathlib.Core.List.{List}
use Prim.Native.Nat.{ℕ, ◌<◌, ◌≤◌}
use native.Mathlib.Omega.{arith}
use lib.ListN.{length, replicate}
use Rattle.laws.specs.Range.{count_to}
use Rattle.laws.specs.Values.{list_to}
use Rattle.mesh.specs.Mesh.{triangles_of}
use Rattle.shellnumbers.specs.Numbering.{Numbering}
use Rattle.shellnumbers.specs.Lists.{left, refusal, Lists, crowded, granted}
use Rattle.sets.specs.Sets.{is_root, rank_of, United}
use Rattle.shellnumbers.proofs.Sound.{Passed, passed}
use Rattle.shellnumbers.proofs.Numbered.{numbered}

module _ (points triangles marks numbers work : List ℕ) (records : ℕ) (none : 0 ≡ refusal points triangles marks (length numbers) (length work)) where
  pub passes : Passed points triangles marks (length numbers) (length work)
  passes = passed points triangles marks (length numbers) (length work) (sym none)

  module _ (room cleared : List ℕ) (u : United triangles work room) (shells : ℕ) (s : shells ≡ count_to (length marks) (is_root room))
      (z : cleared ≡ replicate (length room) 0) where
    found : Numbering (triangles_of triangles) (length marks) (list_to (length marks) (rank_of room)) shells
    found =
        subst (Numbering (triangles_of triangles) (length marks) (list_to (length marks) (rank_of room))) (sym s)
        (numbered triangles work room u (length marks) (omega (arith, u.long, passes.work_long)))

    zero : cleared ≡ replicate (length work) 0
    zero = z ∙ ap (λ n. replicate n 0) u.long

    pub ends_crowded : records < shells → Lists points triangles marks records numbers work (left 11 0 numbers cleared)
    ends_crowded more = crowded (sym none) (list_to (length marks) (rank_of room)) shells found more (ap (left 11 0 numbers) zero)

    pub ends_granted : (after : List ℕ) → after ≡ list_to (length numbers) (rank_of room) → shells ≤ records
        → Lists points triangles marks records numbers work (left 0 shells after cleared)
    ends_granted after h fits =
        granted (sym none) (list_to (length marks) (rank_of room)) shells found fits
        (ap (λ xs. left 0 shells xs cleared) (h ∙ ap (λ n. list_to n (rank_of room)) passes.numbers_long) ∙ ap (left 0 shells (list_to (length marks) (rank_of room))) zero)
