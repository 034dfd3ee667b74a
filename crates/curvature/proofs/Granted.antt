-- A granted call: the checks have passed, and the rooms hold what is defined.
use mathlib.Core.List.{List, [], ◌∷◌}
use mathlib.Core.Path.{◌≡◌, refl, sym, ap, ap₂, ◌∙◌}
use Prim.Native.Nat.{ℕ, zero, suc, ◌+◌, ◌*◌, ◌/◌, ◌%◌, ◌<◌}
use native.Mathlib.Omega.{arith}
use lib.Ieee.{Float, nan}
use lib.ListN.{length, get_or}
use lib.Seq.{ext_get_or}
use borrow.Author.Tests.{eq-eqb}
use Rattle.laws.specs.Range.{join_to}
use Rattle.laws.proofs.Rows.{length_rows, entry_at}
use Rattle.mesh.specs.Mesh.{triangle_count}
use Rattle.mesh.specs.Check.{mesh_number}
use Rattle.measures.specs.declared.vectors.Vector.{Vector}
use Rattle.measures.specs.Vectors.{plus_zero, numbers_of, vector_at}
use Rattle.sums.specs.Sums.{start, sum_after}
use Rattle.sums.specs.Rooms.{sum_at}
use Rattle.curvature.specs.Answers.{answer_from, stored_vector}
use Rattle.curvature.specs.Curved.{sums_for, answer_for, granted, curved}
use Rattle.curvature.specs.Promise.{left}

-- three numbers of a room, by the vector that they are
three_numbers : (vectors : List Float) (x r : ℕ) (v : Vector) → r < 3 → vector_at vectors (3 * x) ≡ v → get_or vectors (3 * x + r) nan ≡ get_or (numbers_of v) r nan
unfolding vector_at
three_numbers vectors x zero v h e = let z : 3 * x + zero ≡ 3 * x = omega arith in rw z (ap (λ w. w.x) e)
three_numbers vectors x (suc zero) v h e = ap (λ w. w.y) e
three_numbers vectors x (suc (suc zero)) v h e = ap (λ w. w.z) e
three_numbers vectors x (suc (suc (suc r))) v h e = absurd (omega arith)

-- a room by its points
rows_of_one : (n : ℕ) (f : ℕ → Float) (areas : List Float) → length areas ≡ n → ((x : ℕ) → x < n → get_or areas x nan ≡ f x) → areas ≡ join_to n (λ x. f x ∷ [])
rows_of_one n f areas l h =
    ext_get_or nan areas (join_to n (λ x. f x ∷ [])) (omega (arith, l, length_rows 1 (λ x. f x ∷ []) (λ k. refl) n))
    (λ i s.
    let place : i * 1 + 0 ≡ i = omega arith in
    h i (omega (arith, l, s)) ∙ sym (rw place at (entry_at 1 (λ x. f x ∷ []) (λ k. refl) n i 0 nan (omega (arith, l, s)) (omega arith))))

rows_of_three : (n : ℕ) (f : ℕ → Vector) (vectors : List Float) → length vectors ≡ 3 * n → ((x : ℕ) → x < n → vector_at vectors (3 * x) ≡ f x) → vectors ≡ join_to n (λ x. numbers_of (f x))
rows_of_three n f vectors l h =
    ext_get_or nan vectors (join_to n (λ x. numbers_of (f x))) (omega (arith, l, length_rows 3 (λ x. numbers_of (f x)) (λ k. refl) n))
    (λ i s.
    let x = i / 3 in
    let r = i % 3 in
    let small : x < n = omega (arith, l, s) in
    let place : i ≡ 3 * x + r = omega arith in
    let row : i ≡ x * 3 + r = omega arith in
    ap (λ k. get_or vectors k nan) place
    ∙ three_numbers vectors x r (f x) (omega arith) (h x small)
    ∙ sym (ap (λ k. get_or (join_to n (λ y. numbers_of (f y))) k nan) row ∙ entry_at 3 (λ y. numbers_of (f y)) (λ k. refl) n x r nan small (omega arith)))

module _ (points triangles marks : List ℕ) (areas vectors : List Float) where
  module _ (pass : mesh_number points triangles marks ≡ 0) where
    pub granted_rooms : length areas ≡ length marks → length vectors ≡ 3 * length marks → (areas' vectors' : List Float) → length areas' ≡ length marks → length vectors' ≡ 3 * length marks
        → ((x : ℕ) → x < length marks → get_or areas' x nan ≡ (sums_for points triangles x).area)
        → ((x : ℕ) → x < length marks → vector_at vectors' (3 * x) ≡ stored_vector (answer_for points triangles marks x)) → left 0 areas' vectors' ≡ curved points triangles marks areas vectors
    unfolding curved granted
    granted_rooms la lv areas' vectors' la' lv' a v =
        rw (pass, eq-eqb _ _ la, eq-eqb _ _ lv)
        (ap₂ (λ xs ys. left 0 xs ys) (rows_of_one (length marks) (λ x. (sums_for points triangles x).area) areas' la' a) (rows_of_three (length marks) (λ x. stored_vector (answer_for points triangles marks x)) vectors' lv' v))

-- rooms that are all +0.0 hold sums that start
pub sums_start : (areas vectors : List Float) (v x : ℕ) → ((k : ℕ) → k < v → get_or areas k nan ≡ plus_zero) → ((k : ℕ) → k < 3 * v → get_or vectors k nan ≡ plus_zero) → x < v → sum_at areas vectors x ≡ start
unfolding sum_at vector_at
sums_start areas vectors v x a b h =
    rw (a x h, b (3 * x) (omega arith), b (3 * x + 1) (omega arith), b (3 * x + 2) (omega arith))

-- a point's sums after the pass over the triangles, and the vector that is stored for it
module _ (points triangles marks : List ℕ) (zero-areas zero-vectors areas vectors : List Float) (x : ℕ)
    (summed : sum_at areas vectors x ≡ sum_after points triangles x (triangle_count triangles) (sum_at zero-areas zero-vectors x)) (zero : sum_at zero-areas zero-vectors x ≡ start) where
  sum_is : sum_at areas vectors x ≡ sums_for points triangles x
  unfolding sums_for
  sum_is = summed ∙ rw zero

  pub area_is : get_or areas x nan ≡ (sums_for points triangles x).area
  unfolding sum_at
  area_is = ap (λ s. s.area) sum_is

  pub vector_is : {v : Vector} → v ≡ stored_vector (answer_from (get_or marks x 0) (sum_at areas vectors x)) → v ≡ stored_vector (answer_for points triangles marks x)
  unfolding answer_for
  vector_is e = e ∙ rw sum_is
