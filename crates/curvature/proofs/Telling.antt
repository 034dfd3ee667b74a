-- What a caller in C is told of a reading: a granted one's answer, or the refusal's number and nothing else.
use mathlib.Core.Path.{◌≡◌, refl, ap, sym}
use mathlib.Core.List.{List, [], ◌∷◌}
use mathlib.Core.Bool.{cond}
use Prim.Native.Nat.{ℕ}
use native.Mathlib.Omega.{arith}
use lib.Dec.{eqb}
use lib.ListN.{length}
use lib.Ieee.{Float}
use borrow.Author.Tests.{ne_eqb}
use Rattle.measures.specs.declared.vectors.Vector.{Vector}
use Rattle.curvature.specs.declared.answers.Answer.{Answer}
use Rattle.std.proofs.Common.{Ok, Err}
use Rattle.grid.specs.declared.refusal.Refusal.{Refusal}
use Rattle.grid.specs.Refusal.{number_of}
use Rattle.curvature.specs.Answers.{kind_of, area_of, stored_vector, values_of, holds_of, read_back_number, answer_at}
use Rattle.curvature.specs.Promise.{ReadsBack, Tells}
use Rattle.curvature.proofs.OneCurvature.{one_point_answer}

module _ (marks : List ℕ) (areas vectors : List Float) (point heldKind : ℕ) (held : List Float) where
  abbrev wanted : ℕ
  wanted = read_back_number marks areas vectors point

  abbrev here : Answer
  here = answer_at marks areas vectors point

  -- a granted reading holds the answer
  held_answer : (a : Answer) → wanted ≡ 0 → holds_of (Ok a) ≡ cond (eqb wanted 0) (values_of here ∷ []) [] → a ≡ here
  unfolding holds_of
  held_answer a z h =
      let e : (values_of a ∷ []) ≡ (values_of here ∷ []) = rw (z) at h in
      one_point_answer a here (cc)

  pub told_answer : (a : Answer) (kind : ℕ) (area : Float) (v : Vector) → ReadsBack marks areas vectors point (Ok a)
      → kind ≡ kind_of a → area ≡ area_of a → v ≡ stored_vector a
      → Tells marks areas vectors point heldKind held 0 kind (area ∷ v.x ∷ v.y ∷ v.z ∷ [])
  told_answer a kind area v r ek ea ev =
      let z : wanted ≡ 0 = sym r.0 in
      let is = held_answer a z r.1 in
      rw (z, ek, ea, ev, is) (refl, refl, refl)

  -- a refused one has a number that is not 0
  refused_number : (r : Refusal) → number_of r ≡ wanted → holds_of (Err r) ≡ cond (eqb wanted 0) (values_of here ∷ []) [] → (wanted ≡ 0 → ⊥)
  unfolding holds_of
  refused_number r is h z =
      let e : ◌≡◌ {A = ℕ} 0 1 = ap length (rw z at h) in
      absurd (omega arith)

  pub told_refusal : (e : Refusal) → ReadsBack marks areas vectors point (Err e) → Tells marks areas vectors point heldKind held (number_of e) heldKind held
  told_refusal e r =
      let d = refused_number e r.0 r.1 in
      rw (ne_eqb wanted 0 d) (r.0, refl, refl)
