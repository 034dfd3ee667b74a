-- A granted call stores no NaN and no infinity, and no area below 0.
use mathlib.Core.Bool.{Bool, true, false, cond, ◌&&◌, ◌||◌, true≢false, false≢true}
use mathlib.Core.List.{List, [], ◌∷◌}
use mathlib.Core.Logic.{inl, inr}
use mathlib.Core.Path.{◌≡◌, refl, sym, subst, ◌∙◌}
use Prim.Native.Nat.{ℕ, zero, suc, ◌+◌, ◌*◌, ◌/◌, ◌%◌, ◌^◌, ◌≤◌, ◌<◌}
use native.Mathlib.Nat.{zero-mul}
use native.Mathlib.Omega.{arith}
use lib.Dec.{eqb}
use lib.IntN.{pos}
use lib.Ieee.{Float, nan, inf, fin, binary64, up, down, mul, eq, le, is_nan}
use lib.Ieee.Bits.{is_true}
use lib.Ieee.Fits.{down_pos}
use lib.Ieee.Order.{le_of_values}
use lib.Ieee.Scale.{finite}
use lib.ListN.{length, get_or}
use Rattle.laws.proofs.Rows.{entry_at}
use Rattle.mesh.specs.Mesh.{triangle_count}
use Rattle.mesh.specs.Check.{mesh_number}
use Rattle.mesh.proofs.Passed.{Passed, passed}
use Rattle.measures.specs.declared.vectors.Vector.{Vector}
use Rattle.curvature.specs.declared.answers.Answer.TheVariants.{Open, Flat, Bent}
use Rattle.measures.specs.Vectors.{plus_zero, no_vector, numbers_of, whole, over}
use Rattle.sums.specs.Sums.{Sum}
use Rattle.curvature.specs.Answers.{answer_of, answer_from, stored_vector}
use Rattle.curvature.specs.Curved.{Outcome, sums_for, answer_for, granted}
use Rattle.curvature.specs.Promise.{Curves}
use Rattle.finite.proofs.AtMost.{furthest, AtMost, at_most_more, mul_at_most}
use Rattle.finite.proofs.AtLeast.{AtLeast, Grain, mul_at_least}
use Rattle.finite.proofs.Quotient.{div_at_most}
use Rattle.finite.proofs.Cotangents.{power_most, power_least}
use Rattle.curvature.proofs.Recovered.{left_granted}
use Rattle.finite.proofs.Shares.{share_digits, share_grain}
use Rattle.finite.proofs.SumSizes.{vector_digits, VectorMost, SumMost, sums_most}

-- the area of a point that is not flat is not 0
zero_equals : (m e : ℕ) → m ≡ 0 → (eqb (m * 1) (0 * e) && (true || eqb (m * 1) 0)) ≡ true
zero_equals m e z = rw (z, zero-mul e)

not_flat : (l : ℕ) (area : Float) → Grain l area → eq area plus_zero ≡ false → AtLeast l area
unfolding eq
not_flat l nan h n = h
not_flat l (inf s) h n = h
not_flat l (fin true m e) h n = absurd (true≢false h.0)
not_flat l (fin false m e) (s, inl z) n = absurd (true≢false (sym (zero_equals (m * up e) (down e) z) ∙ n))
not_flat l (fin false m e) (s, inr a) n = (refl, a)

-- so many additions have so many digits
abbrev addition_digits : ℕ
addition_digits = 22

abbrev stored_digits : ℕ
stored_digits = vector_digits + share_grain

-- so the last division is by no less than the least share
over_most : (q j l : ℕ) (v : Vector) (k : Float) → q < 2 ^ 53 → j + l ≤ furthest → VectorMost q j v → AtLeast l k → VectorMost q (j + l) (over v k)
unfolding over
over_most q j l v k hq hj h a =
    record {
      x = div_at_most q j l v.x k hq hj h.x a;
      y = div_at_most q j l v.y k hq hj h.y a;
      z = div_at_most q j l v.z k hq hj h.z a;
    }

none_most : (q j : ℕ) → VectorMost q j no_vector
none_most q j = record { x = omega arith; y = omega arith; z = omega arith }

module _ (q : ℕ) (few : q ≤ 2 ^ addition_digits) (s : Sum) (h : SumMost q s) where
  four_least : AtLeast share_grain s.area → AtLeast share_grain (mul binary64 (whole (pos 4)) s.area)
  four_least a =
      mul_at_least 0 share_grain 1 (2 + (share_digits + addition_digits)) (whole (pos 4)) s.area (omega arith) (power_least 2 (omega arith)) a
      (mul_at_most 2 (share_digits + addition_digits) (whole (pos 4)) s.area (omega arith) (power_most 2 (omega arith)) (at_most_more q share_digits 1 (share_digits + addition_digits) s.area (omega arith) h.area_most))

  stored_most : (mark : ℕ) → VectorMost q stored_digits (stored_vector (answer_from mark s))
  unfolding answer_from answer_of stored_vector
  stored_most mark = go (eqb mark 1) (eq s.area plus_zero) refl
    where
      go : (marked flat : Bool) → eq s.area plus_zero ≡ flat
          → VectorMost q stored_digits (stored_vector (cond marked (Open s.area) (cond flat Flat (Bent s.area (over s.vector (mul binary64 (whole (pos 4)) s.area))))))
      go true flat e = none_most q stored_digits
      go false true e = none_most q stored_digits
      go false false e =
          over_most q vector_digits share_grain s.vector (mul binary64 (whole (pos 4)) s.area) (omega arith) (omega arith) h.vector_most (four_least (not_flat share_grain s.area h.area_grain e))

-- as the logic's own tests say it
is_finite : (q j : ℕ) (x : Float) → AtMost q j x → finite x ≡ true
is_finite q j nan h = absurd h
is_finite q j (inf s) h = absurd h
is_finite q j (fin s m e) h = refl

not_negative : (l : ℕ) (x : Float) → Grain l x → le plus_zero x ≡ true
not_negative l nan h = absurd h
not_negative l (inf s) h = absurd h
not_negative l (fin true m e) h = absurd (true≢false h.0)
not_negative l (fin false m e) h =
    is_true (le plus_zero (fin false m e)) (le_of_values plus_zero (fin false m e) 0 1 (m * up e) (down e) (omega arith) (down_pos e) (refl, refl) (refl, refl) (omega (arith, zero-mul (down e))))

finite_no_nan : (x : Float) → finite x ≡ true → is_nan x ≡ false
unfolding is_nan
finite_no_nan nan h = absurd (false≢true h)
finite_no_nan (inf s) h = refl
finite_no_nan (fin s m e) h = refl

-- every number that stands in the rooms of v points is finite, and every area is at least 0; a number that a room lacks would be read as a NaN
pub record Finite (v : ℕ) (o : Outcome) : Type 0 where
  pub area_finite : (i : ℕ) → i < v → finite (get_or o.areas i nan) ≡ true
  pub area_least : (i : ℕ) → i < v → le plus_zero (get_or o.areas i nan) ≡ true
  pub vector_finite : (i : ℕ) → i < 3 * v → finite (get_or o.vectors i nan) ≡ true

-- a number of a vector
one_of_three : (q j r : ℕ) (v : Vector) → r < 3 → VectorMost q j v → finite (get_or (numbers_of v) r nan) ≡ true
one_of_three q j zero v l h = is_finite q j v.x h.x
one_of_three q j (suc zero) v l h = is_finite q j v.y h.y
one_of_three q j (suc (suc zero)) v l h = is_finite q j v.z h.z
one_of_three q j (suc (suc (suc r))) v l h = absurd (omega arith)

module _ (points triangles marks : List ℕ) (pass : mesh_number points triangles marks ≡ 0) where
  checked : Passed points triangles marks
  checked = passed points triangles marks pass

  sum_most : (x : ℕ) → SumMost (6 * triangle_count triangles) (sums_for points triangles x)
  unfolding sums_for
  sum_most x = sums_most points checked.small triangles x (triangle_count triangles) checked.triangles_few

  few_additions : 6 * triangle_count triangles ≤ 2 ^ addition_digits
  few_additions = omega (arith, checked.triangles_few)

  area_at : (i : ℕ) → i < length marks → get_or (granted points triangles marks).areas i nan ≡ (sums_for points triangles i).area
  unfolding granted
  area_at i h =
      let place : i * 1 + 0 ≡ i = omega arith in
      rw place at (entry_at 1 (λ x. (sums_for points triangles x).area ∷ []) (λ k. refl) (length marks) i 0 nan h (omega arith))

  number_at : (i : ℕ) → i < 3 * length marks → get_or (granted points triangles marks).vectors i nan ≡ get_or (numbers_of (stored_vector (answer_for points triangles marks (i / 3)))) (i % 3) nan
  unfolding granted
  number_at i h =
      let place : i / 3 * 3 + i % 3 ≡ i = omega arith in
      rw place at (entry_at 3 (λ x. numbers_of (stored_vector (answer_for points triangles marks x))) (λ k. refl) (length marks) (i / 3) (i % 3) nan (omega arith) (omega arith))

  pub granted_finite : Finite (length marks) (granted points triangles marks)
  unfolding answer_for
  granted_finite =
      let n = 6 * triangle_count triangles in
      record {
        area_finite = λ i h. rw (area_at i h) (is_finite n share_digits (sums_for points triangles i).area (sum_most i).area_most);
        area_least = λ i h. rw (area_at i h) (not_negative share_grain (sums_for points triangles i).area (sum_most i).area_grain);
        vector_finite = λ i h. rw (number_at i h) (one_of_three n stored_digits (i % 3) (stored_vector (answer_for points triangles marks (i / 3))) (omega arith) (stored_most n few_additions (sums_for points triangles (i / 3)) (sum_most (i / 3)) (get_or marks (i / 3) 0)));
      }

  -- so no NaN stands there
  pub area_no_nan : (i : ℕ) → i < length marks → is_nan (get_or (granted points triangles marks).areas i nan) ≡ false
  area_no_nan i h = finite_no_nan (get_or (granted points triangles marks).areas i nan) (granted_finite.area_finite i h)

  pub vector_no_nan : (i : ℕ) → i < 3 * length marks → is_nan (get_or (granted points triangles marks).vectors i nan) ≡ false
  vector_no_nan i h = finite_no_nan (get_or (granted points triangles marks).vectors i nan) (granted_finite.vector_finite i h)

-- nor in the rooms that any call leaves behind which answered 0
module _ (points triangles marks : List ℕ) (areas vectors : List Float) (o : Outcome) where
  pub answered_finite : Curves points triangles marks areas vectors o → o.number ≡ 0 → Finite (length marks) o
  answered_finite e z =
      let g = left_granted points triangles marks areas vectors o e z in
      subst (Finite (length marks)) (sym g.1) (granted_finite points triangles marks g.0)
