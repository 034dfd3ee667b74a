-- What a granted call stored is read back, at every point of the mesh, as the answer that it worked out.
use mathlib.Core.Bool.{Bool, true, false, cond, not, ◌&&◌}
use mathlib.Core.List.{List, [], ◌∷◌}
use mathlib.Core.Path.{◌≡◌, refl, sym, ap, subst, ◌∙◌}
use Prim.Native.Nat.{ℕ, ◌+◌, ◌*◌, ◌≤◌, ◌<◌}
use native.Mathlib.Omega.{arith}
use lib.Dec.{eqb}
use lib.Ieee.{Float, nan, eq}
use lib.ListN.{length, get_or}
use borrow.Author.Tests.{eqb-true, eqb-false}
use Rattle.laws.specs.Range.{join_to}
use Rattle.laws.proofs.Rows.{length_rows, entry_at}
use Rattle.mesh.specs.Check.{mesh_number}
use Rattle.measures.specs.declared.vectors.Vector.{Vector}
use Rattle.curvature.specs.declared.answers.Answer.TheVariants.{Open, Flat, Bent}
use Rattle.std.proofs.Common.{Result, Ok}
use Rattle.grid.specs.declared.refusal.Refusal.{Refusal}
use Rattle.curvature.specs.declared.answers.Answer.{Answer}
use Rattle.measures.specs.Vectors.{plus_zero, vector, numbers_of, vector_at}
use Rattle.sums.specs.Sums.{Sum}
use Rattle.curvature.specs.Answers.{answer_of, answer_from, stored_vector, answer_at}
use Rattle.curvature.specs.Curved.{Outcome, sums_for, answer_for, granted, curved}
use Rattle.curvature.specs.Promise.{Curves, ReadsBack}
use Rattle.mesh.proofs.Places.{within_any}
use Rattle.mesh.proofs.Passed.{passed}
use Rattle.curvature.proofs.Readings.{answered}
use Rattle.curvature.proofs.OneCurvature.{one_reading}

-- the stored vector tells the same answer again
told_again : (marked flat : Bool) (area : Float) (v : Vector)
    → cond marked (Open area) (cond flat Flat (Bent area (stored_vector (cond marked (Open area) (cond flat Flat (Bent area v)))))) ≡ cond marked (Open area) (cond flat Flat (Bent area v))
unfolding stored_vector
told_again true flat area v = refl
told_again false true area v = refl
told_again false false area v = refl

stored_tells : (mark : ℕ) (s : Sum) → answer_of mark s.area (stored_vector (answer_from mark s)) ≡ answer_from mark s
unfolding answer_of answer_from
stored_tells mark s = told_again (eqb mark 1) (eq s.area plus_zero) s.area _

-- rows of one and of three numbers, read at a point
area_read : (n x : ℕ) (f : ℕ → Float) → x < n → get_or (join_to n (λ k. f k ∷ [])) x nan ≡ f x
area_read n x f h =
    let place : x * 1 + 0 ≡ x = omega arith in
    rw place at (entry_at 1 (λ k. f k ∷ []) (λ k. refl) n x 0 nan h (omega arith))

vector_read : (n x : ℕ) (f : ℕ → Vector) → x < n → vector_at (join_to n (λ k. numbers_of (f k))) (3 * x) ≡ f x
unfolding vector_at
vector_read n x f h =
    let rows = join_to n (λ k. numbers_of (f k)) in
    let one : 3 * x ≡ x * 3 + 0 = omega arith in
    let two : 3 * x + 1 ≡ x * 3 + 1 = omega arith in
    let three : 3 * x + 2 ≡ x * 3 + 2 = omega arith in
    let a = ap (λ k. get_or rows k nan) one ∙ entry_at 3 (λ k. numbers_of (f k)) (λ k. refl) n x 0 nan h (omega arith) in
    let b = ap (λ k. get_or rows k nan) two ∙ entry_at 3 (λ k. numbers_of (f k)) (λ k. refl) n x 1 nan h (omega arith) in
    let c = ap (λ k. get_or rows k nan) three ∙ entry_at 3 (λ k. numbers_of (f k)) (λ k. refl) n x 2 nan h (omega arith) in
    let e : vector (get_or rows (3 * x) nan) (get_or rows (3 * x + 1) nan) (get_or rows (3 * x + 2) nan) ≡ vector (f x).x (f x).y (f x).z = rw (a, b, c) in
    e

module _ (points triangles marks : List ℕ) (pass : mesh_number points triangles marks ≡ 0) (point : ℕ) (below : point < length marks) where
  abbrev areas : List Float
  areas = join_to (length marks) (λ x. (sums_for points triangles x).area ∷ [])

  abbrev vectors : List Float
  vectors = join_to (length marks) (λ x. numbers_of (stored_vector (answer_for points triangles marks x)))

  answer_is : answer_at marks areas vectors point ≡ answer_for points triangles marks point
  unfolding answer_at answer_for
  answer_is =
      rw (area_read (length marks) point (λ x. (sums_for points triangles x).area) below, vector_read (length marks) point (λ x. stored_vector (answer_for points triangles marks x)) below)
      (stored_tells (get_or marks point 0) (sums_for points triangles point))

  mark_small : get_or marks point 0 ≤ 1
  mark_small = within_any 1 marks point (passed points triangles marks pass).marks_fit

  rooms_read : (r : Result Answer Refusal) → ReadsBack marks areas vectors point r → r ≡ Ok (answer_for points triangles marks point)
  rooms_read r h =
      one_reading marks areas vectors point r (Ok (answer_at marks areas vectors point)) h
      (answered marks areas vectors point (omega (arith, length_rows 1 (λ x. (sums_for points triangles x).area ∷ []) (λ k. refl) (length marks))) (omega (arith, length_rows 3 (λ x. numbers_of (stored_vector (answer_for points triangles marks x))) (λ k. refl) (length marks))) below mark_small)
      ∙ ap Ok answer_is

-- a call that answered 0 left what is defined for a granted one
left_by_lem : (zero fits : Bool) (number : ℕ) (areas vectors : List Float) (g o : Outcome)
    → o ≡ cond (not zero) (record { number = number; areas = areas; vectors = vectors }) (cond (not fits) (record { number = 3; areas = areas; vectors = vectors }) g)
    → o.number ≡ 0 → (zero ≡ true → number ≡ 0) → (zero ≡ false → number ≡ 0 → ⊥) → (number ≡ 0) × (o ≡ g)
left_by_lem true true number areas vectors g o e z yes-zero no_zero = (yes-zero refl, e)
left_by_lem true false number areas vectors g o e z yes-zero no_zero = absurd (omega (arith, ap (λ x. x.number) e, z))
left_by_lem false fits number areas vectors g o e z yes-zero no_zero = absurd (no_zero refl (sym (ap (λ x. x.number) e) ∙ z))

pub left_granted : (points triangles marks : List ℕ) (areas vectors : List Float) (o : Outcome) → Curves points triangles marks areas vectors o → o.number ≡ 0
    → (mesh_number points triangles marks ≡ 0) × (o ≡ granted points triangles marks)
unfolding curved
left_granted points triangles marks areas vectors o e z =
    let number = mesh_number points triangles marks in
    left_by_lem (eqb number 0) (eqb (length areas) (length marks) && eqb (length vectors) (3 * length marks)) number areas vectors (granted points triangles marks) o e z (eqb-true number 0) (eqb-false number 0)

-- so reading a point back after a granted call gives the answer that the call worked out
pub stored_is_read : (points triangles marks : List ℕ) (areas vectors : List Float) (o : Outcome) → Curves points triangles marks areas vectors o → o.number ≡ 0
    → (point : ℕ) → point < length marks → (r : Result Answer Refusal) → ReadsBack marks o.areas o.vectors point r → r ≡ Ok (answer_for points triangles marks point)
unfolding granted
stored_is_read points triangles marks areas vectors o e z point below r h =
    let g = left_granted points triangles marks areas vectors o e z in
    rooms_read points triangles marks g.0 point below r (subst (λ (x : Outcome). ReadsBack marks x.areas x.vectors point r) g.1 h)
