-- The lists of records on the way: every shell's record is that of its points and triangles so far, and the room behind them is as it was.
use mathlib.Core.Path.{◌≡◌, refl, ap, sym, ◌∙◌, subst}
use mathlib.Core.List.{List, [], ◌∷◌, ◌++◌, append-nil}
use mathlib.Core.Bool.{Bool, true, false, cond}
use Prim.Native.Nat.{ℕ, zero, suc, ◌/◌, ◌<◌, ◌≤◌}
use native.Mathlib.Omega.{arith}
use native.Mathlib.Numerals.{add-one}
use lib.Dec.{eqb}
use lib.IntN.{ℤ}
use lib.ListN.{length, get_or, set}
use borrow.Author.Tests.{eq-eqb, ne_eqb}
use Rattle.laws.specs.Range.{keep_to, join_to}
use Rattle.laws.specs.Room.{laid}
use Rattle.laws.specs.Values.{list_to}
use Rattle.laws.proofs.Ranges.{keep_cong, count_le}
use Rattle.laws.proofs.Keep.{length_keep}
use Rattle.laws.proofs.Rooms.{length_laid}
use Rattle.laws.proofs.Values.{length_list, laid_none, laid_more, laid_at, laid_change, list_cong}
use Rattle.mesh.specs.Mesh.{triangle_count, triangle_at, triangles_of}
use Rattle.mesh.specs.Check.{triangles_fit}
use Rattle.mesh.specs.Place.{place_of}
use Rattle.records.specs.declared.Shell.{Shell}
use Rattle.shellnumbers.specs.Numbering.{number_of, Numbering}
use Rattle.records.specs.Record.{sixfold, points_under, names_under, triangles_under, record_from, record_of}
use Rattle.records.specs.Grown.{none, with_point, with_triangle, PointFits, TriangleFits}
use Rattle.shelllist.specs.Filled.{changed, emptied, points_added, triangles_added, records_filled, PointTurn, TriangleTurn, FillFits}
use Rattle.mesh.proofs.Passed.{corners}
use Rattle.shellnumbers.proofs.Sound.{Passed}
use Rattle.records.proofs.OneNumber.{one_number}
use Rattle.records.proofs.Making.{with_point_lem, with_triangle_lem, no_record, point_fits, triangle_fits}

keep_suc : (n : ℕ) (p : ℕ → Bool) → keep_to (suc n) p ≡ keep_to n p ++ cond (p n) (n ∷ []) []
unfolding keep_to join_to
keep_suc n p = refl

keep_yes : (n : ℕ) (p : ℕ → Bool) → p n ≡ true → keep_to (suc n) p ≡ keep_to n p ++ (n ∷ [])
keep_yes n p h = keep_suc n p ∙ rw h

keep_no : (n : ℕ) (p : ℕ → Bool) → p n ≡ false → keep_to (suc n) p ≡ keep_to n p
keep_no n p h = keep_suc n p ∙ rw h (append-nil (keep_to n p))

module _ (points triangles marks numbers : List ℕ) (shells : ℕ) (room : List Shell) (enough : shells ≤ length room) where
  -- does point p, or triangle k by its first corner, have number n
  abbrev has_point : ℕ → ℕ → Bool
  has_point n p = eqb (number_of numbers p) n

  abbrev has_triangle : ℕ → ℕ → Bool
  has_triangle n k = eqb (number_of numbers (triangle_at triangles k).one) n

  -- record n from the points below j and the triangles below k
  abbrev partly : ℕ → ℕ → ℕ → Shell
  partly j k n = record_from points triangles marks (keep_to j (has_point n)) (keep_to k (has_triangle n))

  abbrev records : ℕ → ℕ → List Shell
  records j k = laid (list_to shells (partly j k)) room

  long : (j k : ℕ) → length (records j k) ≡ length room
  long j k = length_laid (list_to shells (partly j k)) room (omega (arith, length_list shells (partly j k)))

  at : (j k n : ℕ) → n < shells → get_or (records j k) n none ≡ partly j k n
  at j k n l = laid_at shells n (partly j k) room none l

  blank : (n : ℕ) → partly 0 0 n ≡ none
  unfolding keep_to join_to
  blank n = no_record points triangles marks

  emptied_front : (m : ℕ) → m ≤ shells → emptied m room ≡ laid (list_to m (λ n. none)) room
  emptied_front zero l = sym (laid_none (λ n. none) room)
  emptied_front (suc m) l =
      ap (λ ys. set ys m none) (emptied_front m (omega arith))
      ∙ laid_more m (λ n. none) room (omega (arith, enough))
      ∙ ap (λ k. laid (list_to k (λ n. none)) room) (add-one m)

  start : emptied shells room ≡ records 0 0
  start =
      emptied_front shells (omega arith) ∙ ap (λ xs. laid xs room) (list_cong shells (λ n. none) (partly 0 0) (λ n l. sym (blank n)))

  -- one record changed
  change : (h : Shell → Shell) (n j k j' k' : ℕ) → n < shells → h (partly j k n) ≡ partly j' k' n → ((m : ℕ) → (m ≡ n → ⊥) → partly j' k' m ≡ partly j k m)
      → changed h n (records j k) ≡ records j' k'
  change h n j k j' k' l e others =
      ap (λ s. set (records j k) n (h s)) (at j k n l)
      ∙ ap (set (records j k) n) e
      ∙ laid_change shells n (partly j k) (partly j' k') room l others

  module _ (below : (p : ℕ) → p < length numbers → number_of numbers p < shells) where
    grow_points : (j : ℕ) → j ≤ length numbers → points_added points marks numbers j (records 0 0) ≡ records j 0
    grow_points zero l = refl
    grow_points (suc j) l =
        ap (changed (with_point j (place_of points j) (get_or marks j 0)) n) (grow_points j (omega arith))
        ∙ change (with_point j (place_of points j) (get_or marks j 0)) n j 0 (suc j) 0 (below j (omega arith)) here others
      where
        n : ℕ
        n = number_of numbers j

        here : with_point j (place_of points j) (get_or marks j 0) (partly j 0 n) ≡ partly (suc j) 0 n
        here =
            with_point_lem points triangles marks (keep_to j (has_point n)) (keep_to 0 (has_triangle n)) j
            ∙ ap (λ ps. record_from points triangles marks ps (keep_to 0 (has_triangle n))) (sym (keep_yes j (has_point n) (eq-eqb n n refl)))

        others : (m : ℕ) → (m ≡ n → ⊥) → partly (suc j) 0 m ≡ partly j 0 m
        others m ne =
            ap (λ ps. record_from points triangles marks ps (keep_to 0 (has_triangle m))) (keep_no j (has_point m) (ne_eqb n m (λ e. ne (sym e))))

    module _ (first : (k : ℕ) → k < triangle_count triangles → (triangle_at triangles k).one < length numbers) where
      grow_triangles : (j k : ℕ) → k ≤ triangle_count triangles → triangles_added points triangles numbers k (records j 0) ≡ records j k
      grow_triangles j zero l = refl
      grow_triangles j (suc k) l =
          ap (changed (with_triangle d) n) (grow_triangles j k (omega arith))
          ∙ change (with_triangle d) n j k j (suc k) (below (triangle_at triangles k).one (first k (omega arith))) here others
        where
          n : ℕ
          n = number_of numbers (triangle_at triangles k).one

          d : ℤ
          d = sixfold points (triangle_at triangles k)

          here : with_triangle (sixfold points (triangle_at triangles k)) (partly j k n) ≡ partly j (suc k) n
          here =
              with_triangle_lem points triangles marks (keep_to j (has_point n)) (keep_to k (has_triangle n)) k
              ∙ ap (record_from points triangles marks (keep_to j (has_point n))) (sym (keep_yes k (has_triangle n) (eq-eqb n n refl)))

          others : (m : ℕ) → (m ≡ n → ⊥) → partly j (suc k) m ≡ partly j k m
          others m ne = ap (record_from points triangles marks (keep_to j (has_point m))) (keep_no k (has_triangle m) (ne_eqb n m (λ e. ne (sym e))))

-- all of them, for a mesh and rooms that passed and the numbers of its shells
module _ (points triangles marks found : List ℕ) (shells : ℕ) (room : List Shell) (numbers work : ℕ) (ok : Passed points triangles marks numbers work)
    (N : Numbering (triangles_of triangles) (length marks) found shells) (enough : shells ≤ length room) where
  fit : triangles_fit triangles (length found) ≡ true
  fit = subst (λ v. triangles_fit triangles v ≡ true) (sym N.long) ok.mesh.corners_fit

  below : (p : ℕ) → p < length found → number_of found p < shells
  below p l = N.small p (omega (arith, N.long))

  first : (k : ℕ) → k < triangle_count triangles → (triangle_at triangles k).one < length found
  first k l = (corners triangles (length found) k fit l).first

  points_to : (j : ℕ) → j ≤ length found → points_added points marks found j (emptied shells room) ≡ records points triangles marks found shells room enough j 0
  points_to j l =
      ap (points_added points marks found j) (start points triangles marks found shells room enough) ∙ grow_points points triangles marks found shells room enough below j l

  triangles_to : (k : ℕ) → k ≤ triangle_count triangles
      → triangles_added points triangles found k (points_added points marks found (length found) (emptied shells room)) ≡ records points triangles marks found shells room enough (length found) k
  triangles_to k l =
      ap (triangles_added points triangles found k) (points_to (length found) (omega arith))
      ∙ grow_triangles points triangles marks found shells room enough below first (length found) k l

  point_turn : (j : ℕ) → j < length found → PointTurn points marks found (points_added points marks found j (emptied shells room)) j
  point_turn j l =
      let e = points_to j (omega arith) in
      let n = number_of found j in
      let has = has_point points triangles marks found shells room enough n in
      record {
        small = l;
        placed = omega (arith, N.long, ok.mesh.threes);
        marked = omega (arith, N.long);
        few = ok.mesh.few;
        numbered = omega (arith, below j l, ap length e, long points triangles marks found shells room enough j 0);
        room =
            subst PointFits (sym (ap (λ ys. get_or ys n none) e ∙ at points triangles marks found shells room enough j 0 n (below j l)))
            (point_fits points triangles marks (keep_to j has) _ (omega (arith, length_keep j has, count_le j has, N.long, ok.mesh.few)));
      }

  triangle_turn : (k : ℕ) → k < triangle_count triangles
      → TriangleTurn points triangles found (triangles_added points triangles found k (points_added points marks found (length found) (emptied shells room))) k
  triangle_turn k l =
      let e = triangles_to k (omega arith) in
      let n = number_of found (triangle_at triangles k).one in
      let has = has_triangle points triangles marks found shells room enough n in
      let third : length points / 3 ≡ length marks = omega (arith, ok.mesh.threes) in
      record {
        small = l;
        mesh = record { corners = subst (λ v. triangles_fit triangles v ≡ true) (sym third) ok.mesh.corners_fit; near = ok.mesh.coordinates_fit };
        corners = fit;
        numbered = omega (arith, below _ (first k l), ap length e, long points triangles marks found shells room enough (length found) k);
        room =
            subst (TriangleFits (sixfold points (triangle_at triangles k)))
            (sym (ap (λ ys. get_or ys n none) e ∙ at points triangles marks found shells room enough (length found) k n (below _ (first k l))))
            (triangle_fits points triangles marks ok.mesh.coordinates_fit _ (keep_to k has) k (omega (arith, length_keep k has, count_le k has, ok.mesh.triangles_few)));
      }

  pub fill_fits : FillFits points triangles marks found shells room
  fill_fits = record { enough = enough; points_fit = point_turn; triangles_fit = triangle_turn }

  whole : (n : ℕ) → partly points triangles marks found shells room enough (length found) (triangle_count triangles) n ≡ record_of points triangles marks found n
  unfolding points_under triangles_under
  whole n =
      let byPoint = has_point points triangles marks found shells room enough n in
      let byTriangle = has_triangle points triangles marks found shells room enough n in
      ap (λ v. record_from points triangles marks (keep_to v byPoint) (keep_to (triangle_count triangles) byTriangle)) N.long
      ∙ ap (record_from points triangles marks (keep_to (length marks) byPoint)) (keep_cong (triangle_count triangles) byTriangle (λ k. names_under found n (triangle_at triangles k)) (λ k l. sym (one_number triangles found (length marks) shells ok.mesh.corners_fit N n k l)))

  pub made : records_filled points triangles marks found shells room ≡ laid (list_to shells (record_of points triangles marks found)) room
  made =
      triangles_to (triangle_count triangles) (omega arith)
      ∙ ap (λ xs. laid xs room) (list_cong shells (partly points triangles marks found shells room enough (length found) (triangle_count triangles)) (record_of points triangles marks found) (λ n l. whole n))
