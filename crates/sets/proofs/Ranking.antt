-- Ranks written one after the other: in the front of a room stands the rank of each point's root, behind it the parents as they stood. The ranks of the front of a room are those of its points.
use mathlib.Core.Path.{◌≡◌, refl, ap, sym, ◌∙◌}
use mathlib.Core.List.{List}
use mathlib.Core.Logic.{⊎_elim}
use Prim.Native.Nat.{ℕ, zero, suc, ◌+◌, ◌<◌, ◌≤◌}
use native.Mathlib.Nat.{eq-or-lt_of_le}
use native.Mathlib.Omega.{arith}
use borrow.Author.Tests.{eq-eqb, ne_eqb}
use lib.Dec.{eqb}
use lib.ListN.{length, get_or, set, take}
use Rattle.std.proofs.lemmas.List.{get_or-take}
use Rattle.laws.specs.Range.{sum_to, count_to, one_if}
use Rattle.laws.specs.Room.{laid}
use Rattle.laws.specs.Values.{list_to}
use Rattle.laws.proofs.Keep.{count_next}
use Rattle.laws.proofs.Ranges.{sum_cong}
use Rattle.laws.proofs.Rooms.{laid_rest}
use Rattle.laws.proofs.Values.{laid_none, laid_more, laid_all, laid_at, length_list, list_cong}
use Rattle.sets.specs.Sets.{parent, Falling, up, root, is_root, rank_of}
use Rattle.sets.proofs.Roots.{root_fixed, root_parent, root_le}

-- p ranks are written, and of the first p points so many are roots
pub record Ranks (parents numbers : List ℕ) (roots p : ℕ) : Type 0 where
  pub few : roots ≤ p
  pub count : roots ≡ count_to p (is_root parents)
  pub ranks : numbers ≡ laid (list_to p (rank_of parents)) parents

pub no_ranks : (parents : List ℕ) → Ranks parents parents 0 0
unfolding count_to sum_to
no_ranks parents = record { few = omega arith; count = refl; ranks = sym (laid_none (rank_of parents) parents) }

-- one rank more, at a root and at another point
module _ (parents : List ℕ) (falls : Falling parents) (numbers : List ℕ) (roots p : ℕ) (r : Ranks parents numbers roots p) where
  -- where no rank stands yet, the parent does
  pub parent_there : get_or numbers p 0 ≡ parent parents p
  parent_there =
      let long = length_list p (rank_of parents) in
      let e : p ≡ length (list_to p (rank_of parents)) + 0 = omega arith in
      let f : length (list_to p (rank_of parents)) + 0 ≡ p = omega arith in
      ap (λ xs. get_or xs p 0) r.ranks ∙ ap (λ i. get_or (laid (list_to p (rank_of parents)) parents) i 0) e
      ∙ laid_rest (list_to p (rank_of parents)) parents 0 0 ∙ ap (λ i. get_or parents i 0) f

  write : p < length parents → (x : ℕ) → x ≡ rank_of parents p → set numbers p x ≡ laid (list_to (p + 1) (rank_of parents)) parents
  write in_room x e = rw (e, r.ranks) (laid_more p (rank_of parents) parents in_room)

  pub at_root : p < length parents → parent parents p ≡ p → Ranks parents (set numbers p roots) (roots + 1) (p + 1)
  unfolding is_root
  at_root in_room top =
      record {
        few = omega (arith, r.few);
        count = omega (arith, r.count, count_next p (is_root parents), ap one_if (eq-eqb (parent parents p) p top));
        ranks = write in_room roots (r.count ∙ ap (λ q. count_to q (is_root parents)) (sym (root_fixed parents falls p top)));
      }

  pub at_child : p < length parents → (parent parents p ≡ p → ⊥) → Ranks parents (set numbers p (get_or numbers (parent parents p) 0)) roots (p + 1)
  unfolding is_root
  at_child in_room child =
      let below : parent parents p < p = ⊎_elim (λ e. absurd (child e)) (λ l. l) (eq-or-lt_of_le (falls p)) in
      record {
        few = omega (arith, r.few);
        count = omega (arith, r.count, count_next p (is_root parents), ap one_if (ne_eqb (parent parents p) p child));
        ranks =
            write in_room
            (get_or numbers (parent parents p) 0)
            (ap (λ xs. get_or xs (parent parents p) 0) r.ranks
            ∙ laid_at p (parent parents p) (rank_of parents) parents 0 below
            ∙ ap (λ q. count_to q (is_root parents)) (root_parent parents falls p));
      }

-- all are written
pub all_ranks : (parents numbers : List ℕ) (roots p : ℕ) → Ranks parents numbers roots p → p ≡ length parents → numbers ≡ list_to (length parents) (rank_of parents)
all_ranks parents numbers roots p r end = r.ranks ∙ laid_all p (rank_of parents) parents end ∙ ap (λ k. list_to k (rank_of parents)) end

-- the front of a room: its points have the parents, the roots and so the ranks that they have in the room
module _ (room : List ℕ) (falls : Falling room) (n : ℕ) (l : n ≤ length room) where
  up_front : (k p : ℕ) → p < n → up k (take n room) p ≡ up k room p
  unfolding up
  up_front zero p m = refl
  up_front (suc k) p m =
      ap (up k (take n room)) (get_or-take n room p 0 m) ∙ up_front k (parent room p) (omega (arith, falls p))

  root_front : (p : ℕ) → p < n → root (take n room) p ≡ root room p
  unfolding root
  root_front p m = up_front p p m

  rank_front : (p : ℕ) → p < n → rank_of (take n room) p ≡ rank_of room p
  unfolding count_to is_root
  rank_front p m =
      ap (λ r. count_to r (is_root (take n room))) (root_front p m)
      ∙ sum_cong (root room p) _ _ (λ k b. ap (λ x. one_if (eqb x k)) (get_or-take n room k 0 (omega (arith, root_le room falls p))))

  pub front_ranks : list_to n (rank_of (take n room)) ≡ list_to n (rank_of room)
  front_ranks = list_cong n (rank_of (take n room)) (rank_of room) rank_front
