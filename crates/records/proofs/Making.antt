-- Records that grow point by point and triangle by triangle become the records of the shells.
use mathlib.Core.Path.{◌≡◌, refl, sym, subst}
use mathlib.Core.List.{List, [], ◌∷◌, ◌++◌}
use mathlib.Core.Bool.{Bool, true, false, cond, ◌||◌}
use Prim.Native.Nat.{ℕ, suc, ◌*◌, ◌<◌, ◌≤◌, ◌^◌, min, max}
use native.Mathlib.Nat.{mul-le-mul_right}
use native.Mathlib.Omega.{arith}
use lib.Dec.{eqb}
use lib.ListN.{length, get_or, length-append}
use borrow.Author.Tests.{ne_eqb}
use mir.Syntax.{w64}
use mir.Val.{SFits}
use Rattle.laws.specs.Range.{one_if}
use Rattle.laws.specs.Sum.{sum_of}
use Rattle.laws.specs.Signed.{sum_of_ℤ}
use Rattle.laws.specs.Least.{gathered}
use Rattle.laws.proofs.Differences.{sum_append_ℤ, sum_differences, difference_fits}
use Rattle.laws.proofs.Sums.{sum_bounded}
use Rattle.laws.proofs.Least.{gathered_append}
use Rattle.grid.specs.Limits.{most_points, most_triangles, most_coordinate}
use Rattle.mesh.specs.Mesh.{triangle_at}
use Rattle.mesh.specs.Check.{all_within}
use Rattle.records.specs.Record.{any_of, diagonals, determinant, sixfold, record_from}
use Rattle.records.specs.Grown.{none, with_point, with_triangle, PointFits, TriangleFits, most_product}
use Rattle.mesh.specs.Place.{place_of}
use Rattle.mesh.proofs.Places.{near_place}
use Rattle.records.proofs.Sizes.{diagonals_small}

-- ---- one point, one triangle more
any_append : {A : Type 0} (p : A → Bool) (xs : List A) (x : A) → any_of p (xs ++ (x ∷ [])) ≡ (any_of p xs || p x)
unfolding any_of
any_append p [] x = go (p x)
  where
    go : (b : Bool) → (b || false) ≡ b
    go true = refl
    go false = refl
any_append p (y ∷ xs) x = go (p y) (any_append p xs x)
  where
    go : (b : Bool) → any_of p (xs ++ (x ∷ [])) ≡ (any_of p xs || p x) → (b || any_of p (xs ++ (x ∷ []))) ≡ ((b || any_of p xs) || p x)
    go true e = refl
    go false e = e

first_append : (xs : List ℕ) (x : ℕ) → cond (eqb (length xs) 0) x (get_or xs 0 0) ≡ get_or (xs ++ (x ∷ [])) 0 0
first_append [] x = refl
first_append (y ∷ xs) x = rw (ne_eqb (suc (length xs)) 0 (λ e. omega arith))

touch_more : (old new : Bool) → cond new 1 (one_if old) ≡ one_if (old || new)
touch_more true true = refl
touch_more true false = refl
touch_more false true = refl
touch_more false false = refl

module _ (points triangles marks : List ℕ) where
  pub with_point_lem : (ps ks : List ℕ) (p : ℕ) → with_point p (place_of points p) (get_or marks p 0) (record_from points triangles marks ps ks) ≡ record_from points triangles marks (ps ++ (p ∷ [])) ks
  unfolding with_point record_from
  with_point_lem ps ks p =
      rw (
        first_append ps p,
        length-append ps (p ∷ []),
        any_append (λ q. eqb (get_or marks q 0) 1) ps p,
        touch_more (any_of (λ q. eqb (get_or marks q 0) 1) ps) (eqb (get_or marks p 0) 1),
        gathered_append min (λ q. (place_of points q).x) ps p,
        gathered_append max (λ q. (place_of points q).x) ps p,
        gathered_append min (λ q. (place_of points q).y) ps p,
        gathered_append max (λ q. (place_of points q).y) ps p,
        gathered_append min (λ q. (place_of points q).z) ps p,
        gathered_append max (λ q. (place_of points q).z) ps p,
      )

  pub with_triangle_lem : (ps ks : List ℕ) (k : ℕ) → with_triangle (sixfold points (triangle_at triangles k)) (record_from points triangles marks ps ks) ≡ record_from points triangles marks ps (ks ++ (k ∷ []))
  unfolding with_triangle record_from
  with_triangle_lem ps ks k = rw (length-append ks (k ∷ []), sum_append_ℤ (λ i. sixfold points (triangle_at triangles i)) ks k)

  pub no_record : record_from points triangles marks [] [] ≡ none
  unfolding record_from any_of sum_of_ℤ gathered
  no_record = refl

  -- ---- there is room
  pub point_fits : (ps ks : List ℕ) → length ps < most_points → PointFits (record_from points triangles marks ps ks)
  unfolding PointFits record_from
  point_fits ps ks l = omega (arith, l)

  module _ (near : all_within most_coordinate points ≡ true) where
    gain : ℕ → ℕ
    gain k = let t = triangle_at triangles k in diagonals (place_of points t.one) (place_of points t.two) (place_of points t.three)

    loss : ℕ → ℕ
    loss k = let t = triangle_at triangles k in diagonals (place_of points t.three) (place_of points t.two) (place_of points t.one)

    sum_fits : (ks : List ℕ) → length ks ≤ most_triangles → SFits w64 (sum_of_ℤ (λ k. sixfold points (triangle_at triangles k)) ks)
    unfolding sixfold determinant gain loss
    sum_fits ks l =
        let small : (f : ℕ → ℕ) → ((k : ℕ) → f k ≤ 3 * most_product) → sum_of f ks < 2 ^ 63
        = λ f h. omega (arith, sum_bounded (3 * most_product) f h ks, mul-le-mul_right (3 * most_product) l) in
        subst (SFits w64) (sym (sum_differences gain loss ks))
        (difference_fits (sum_of gain ks) (sum_of loss ks)
        (small gain (λ k. diagonals_small _ _ _ (near_place points near (triangle_at triangles k).one) (near_place points near (triangle_at triangles k).two) (near_place points near (triangle_at triangles k).three)))
        (small loss (λ k. diagonals_small _ _ _ (near_place points near (triangle_at triangles k).three) (near_place points near (triangle_at triangles k).two) (near_place points near (triangle_at triangles k).one))))

    pub triangle_fits : (ps ks : List ℕ) (k : ℕ) → length ks < most_triangles → TriangleFits (sixfold points (triangle_at triangles k)) (record_from points triangles marks ps ks)
    unfolding record_from
    triangle_fits ps ks k l =
        record {
          count = omega (arith, l);
          sum =
              subst (SFits w64) (sum_append_ℤ (λ i. sixfold points (triangle_at triangles i)) ks k)
              (sum_fits (ks ++ (k ∷ [])) (omega (arith, l, length-append ks (k ∷ []))));
        }
