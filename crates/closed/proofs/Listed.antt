-- A granted shell list is right: no side leads out of a shell in it, and one whose record says that it touches no outer face has no marked point.
use mathlib.Core.Path.{◌≡◌, refl, ap, sym, ◌∙◌}
use mathlib.Core.List.{List, [], ◌∷◌, ◌++◌}
use mathlib.Core.Bool.{Bool, true, false, ◌||◌, true≢false, and_self, and_self_left}
use Prim.Native.Nat.{ℕ, zero, suc, ◌<◌, ◌≤◌}
use native.Mathlib.Decide.{dec_lt}
use native.Mathlib.Omega.{arith}
use lib.Dec.{eqb}
use lib.ListN.{length, get_or, get_or-eq_default}
use borrow.Author.Tests.{eqb-false}
use Rattle.laws.specs.Range.{keep_to, count_to}
use Rattle.laws.specs.Mesh.{Triangle, sides}
use Rattle.laws.proofs.Ranges.{of_join, sum_cong, count_cong}
use Rattle.laws.proofs.Tests.{is_none}
use Rattle.laws.proofs.Keep.{rank_lt, at_rank, length_keep}
use Rattle.laws.proofs.Sums.{all_append}
use Rattle.laws.proofs.Sides.{sides_append}
use Rattle.mesh.specs.Mesh.{triangle_count, triangle_at, triangles_of}
use Rattle.records.specs.declared.Shell.{Shell}
use Rattle.shellnumbers.specs.Numbering.{number_of, Numbering}
use Rattle.records.specs.Record.{any_of, points_under, names_under, triangles_under, record_from, record_of}
use Rattle.shellnumbers.specs.Lists.{Outcome}
use Rattle.shelllist.specs.Promise.{Shells}
use Rattle.mesh.proofs.Places.{within_any}
use Rattle.mesh.proofs.Passed.{corners}
use Rattle.shelllist.proofs.Granted.{Granted, is_granted, as_long, record_at_lem as stands_at}
use Rattle.sets.proofs.Leading.{led_first, led_second}
use Rattle.records.proofs.Lows.{ByLowest, by_lowest, lows_rise}
use Rattle.records.proofs.Totals.{all_triangles}
use Rattle.records.proofs.OneNumber.{one_number}
use Rattle.closed.specs.Left.{Mesh}
use Rattle.closed.specs.Shell.{SidesStay, Unmarked}
use Rattle.closed.specs.Listed.{record_at, in_shell, corners_in, Right}

-- where no element passes, one that stands in the list does not
none_passes : {A : Type 0} (t : A → Bool) (xs : List A) (i : ℕ) (d : A) → any_of t xs ≡ false → i < length xs → t (get_or xs i d) ≡ false
unfolding any_of
none_passes t [] i d h l = absurd (omega arith)
none_passes t (x ∷ xs) i d h l = go (t x) refl i l h (λ j e k. none_passes t xs j d e k)
  where
    go : (b : Bool) → t x ≡ b → (i : ℕ) → i < suc (length xs) → (b || any_of t xs) ≡ false
        → ((j : ℕ) → any_of t xs ≡ false → j < length xs → t (get_or xs j d) ≡ false) → t (get_or (x ∷ xs) i d) ≡ false
    go true e i l h later = absurd (true≢false h)
    go false e zero l h later = e
    go false e (suc i) l h later = later i h (omega arith)

module _ (m : Mesh) (numbers work : List ℕ) (room : List Shell) (o : Outcome) (after : List Shell)
    (shells : Shells m.points m.triangles m.marks numbers work room o after) (none : o.number ≡ 0) where
  given : Granted m.points m.triangles m.marks numbers work room o
  given = is_granted m.points m.triangles m.marks numbers work room o shells.lists none

  abbrev N : Numbering (triangles_of m.triangles) (length m.marks) o.numbers o.shells
  N = given.numbering

  abbrev record_of_lem : ℕ → Shell
  record_of_lem n = record_of m.points m.triangles m.marks o.numbers n

  record_at_lem : (n : ℕ) → n < o.shells → record_at after n ≡ record_of_lem n
  record_at_lem = stands_at m.points m.triangles m.marks numbers work room o after shells none

  held : o.shells ≤ length after
  held = omega (arith, given.enough, as_long m.points m.triangles m.marks numbers work room o after shells none)

  -- the corners of a triangle stand under one shell
  under_one : (k : ℕ) → k < triangle_count m.triangles → let t = triangle_at m.triangles k in
      (number_of o.numbers t.one ≡ number_of o.numbers t.two) × (number_of o.numbers t.two ≡ number_of o.numbers t.three)
  under_one k l =
      let t = triangle_at m.triangles k in
      let c = corners m.triangles (length m.marks) k given.ok.mesh.corners_fit l in (
        N.same t.one t.two c.first c.second (led_first m.triangles k l),
        N.same t.two t.three c.second c.third (led_second m.triangles k l),
      )

  -- so record n, which counts the triangles that name a point of shell n, counts those that have all three corners there
  corners_agree : (n k : ℕ) → k < triangle_count m.triangles → let t = triangle_at m.triangles k in
      names_under o.numbers n t ≡ corners_in o.numbers n t
  corners_agree n k l =
      let u = under_one k l in
      one_number m.triangles o.numbers (length m.marks) o.shells given.ok.mesh.corners_fit N n k l
      ∙ rw (← u.1, ← u.0) (let b = in_shell o.numbers n (triangle_at m.triangles k).one in sym (and_self_left b b ∙ and_self b))

  counts : (n : ℕ) → (record_of_lem n).triangles ≡ count_to (triangle_count m.triangles) (λ k. corners_in o.numbers n (triangle_at m.triangles k))
  unfolding record_from triangles_under
  counts n =
      length_keep (triangle_count m.triangles) (λ k. names_under o.numbers n (triangle_at m.triangles k))
      ∙ count_cong (triangle_count m.triangles) _ _ (corners_agree n)

  lowest_of : (n : ℕ) → n < o.shells → ByLowest m.points m.triangles m.marks o.numbers o.shells N n
  lowest_of = by_lowest m.points m.triangles m.marks o.numbers o.shells N

  pub shells_right : Right m o.numbers o.shells after
  shells_right =
      record {
        led = N.led;
        same = N.same;
        listed = N.small;
        held = held;
        own = λ n l. rw (record_at_lem n l) (let b = lowest_of n l in (b.small, b.number));
        lowest = λ n p l lp is. rw (record_at_lem n l) (let b = lowest_of n l in b.lowest p lp (is ∙ sym b.number));
        once = λ i n l ln.
            rw (record_at_lem i (omega arith), record_at_lem n ln) (lows_rise m.points m.triangles m.marks o.numbers o.shells N i n l ln);
        one_shell = under_one;
        counted = λ n l. rw (record_at_lem n l) (counts n);
        all_counted =
            sum_cong o.shells _ _ (λ n l. ap (λ s. s.triangles) (record_at_lem n l))
            ∙ all_triangles m.points m.triangles m.marks o.numbers o.shells N given.ok.mesh.corners_fit;
      }

  -- no side leads out of a shell
  pub sides_stay : (n : ℕ) → SidesStay (in_shell o.numbers n) (triangles_of m.triangles)
  unfolding triangles_of sides
  sides_stay n =
      of_join (λ ts. SidesStay (in_shell o.numbers n) ts) tt both_parts (triangle_count m.triangles) (λ i. triangle_at m.triangles i ∷ [])
      (λ k l.
      let u = under_one k l in
      (ap (λ x. eqb x n) u.0, (ap (λ x. eqb x n) u.1, (ap (λ x. eqb x n) (sym u.1 ∙ sym u.0), tt))))
    where
      both_parts : (xs ys : List Triangle) → SidesStay (in_shell o.numbers n) xs → SidesStay (in_shell o.numbers n) ys → SidesStay (in_shell o.numbers n) (xs ++ ys)
      both_parts xs ys a b =
          rw (sides_append xs ys) (all_append (λ s. in_shell o.numbers n s.from ≡ in_shell o.numbers n s.to) (sides xs) (sides ys) a b)

  -- a shell that touches no outer face has no marked point
  pub no_mark : (n : ℕ) → n < o.shells → (record_at after n).touches ≡ 0 → Unmarked (in_shell o.numbers n) m
  unfolding record_from points_under
  no_mark n small touches p here = go (dec_lt p (length m.marks))
    where
      go : Dec (p < length m.marks) → get_or m.marks p 0 ≡ 0
      go (yes l) =
          let f = none_passes (λ q. eqb (get_or m.marks q 0) 1) (keep_to (length m.marks) (in_shell o.numbers n)) (count_to p (in_shell o.numbers n)) 0 (is_none _ (sym (ap (λ s. s.touches) (record_at_lem n small)) ∙ touches))
          (omega (arith, length_keep (length m.marks) (in_shell o.numbers n), rank_lt (length m.marks) p (in_shell o.numbers n) l here)) in
          let e = rw (at_rank (length m.marks) p (in_shell o.numbers n) l here) at f in
          let d = eqb-false (get_or m.marks p 0) 1 e in
          not_one (get_or m.marks p 0) (within_any 1 m.marks p given.ok.mesh.marks_fit) d
        where
          not_one : (k : ℕ) → k ≤ 1 → (k ≡ 1 → ⊥) → k ≡ 0
          not_one zero l d = refl
          not_one (suc zero) l d = absurd (d refl)
          not_one (suc (suc k)) l d = absurd (omega arith)
      go (no l) = get_or-eq_default m.marks 0 (omega arith)
