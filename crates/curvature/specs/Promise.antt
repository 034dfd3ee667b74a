-- What the calls promise.
use Rattle.std.specs.Prelude.{◌≡◌, List, [], ◌∷◌, cond, ℕ, eqb, Float, Result}
use Rattle.grid.specs.declared.refusal.Refusal.{Refusal}
use Rattle.grid.specs.Refusal.{told}
use Rattle.curvature.specs.declared.answers.Answer.{Answer}
use Rattle.curvature.specs.Answers.{kind_of, area_of, stored_vector, values_of, holds_of, read_back_number, answer_at}
use Rattle.curvature.specs.Curved.{Outcome, curved}

-- what was left behind, as one value
abbrev pub left : ℕ → List Float → List Float → Outcome
left number areas vectors = record { number = number; areas = areas; vectors = vectors }

-- a call on these rooms may leave this behind
abbrev pub Curves : List ℕ → List ℕ → List ℕ → List Float → List Float → Outcome → Type 0
Curves points triangles marks areas vectors after = after ≡ curved points triangles marks areas vectors

-- one answer read back: the number, and the values of the one answer if granted
abbrev pub ReadsBack : List ℕ → List Float → List Float → ℕ → Result Answer Refusal → Type 0
ReadsBack marks areas vectors point r =
    let number = read_back_number marks areas vectors point in
    (told r ≡ number) × (holds_of r ≡ cond (eqb number 0) (values_of (answer_at marks areas vectors point) ∷ []) [])

-- one answer read back by a caller in C: the number, and what kind, area, x, y and z hold after, given what they held
abbrev pub Tells : List ℕ → List Float → List Float → ℕ → ℕ → List Float → ℕ → ℕ → List Float → Type 0
Tells marks areas vectors point heldKind held number kind after =
    let wanted = read_back_number marks areas vectors point in
    let a = answer_at marks areas vectors point in
    (number ≡ wanted) × (kind ≡ cond (eqb wanted 0) (kind_of a) heldKind)
    × (after ≡ cond (eqb wanted 0) (area_of a ∷ (stored_vector a).x ∷ (stored_vector a).y ∷ (stored_vector a).z ∷ []) held)
