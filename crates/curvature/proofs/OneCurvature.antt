-- Any two outcomes that a promise allows are equal.
use mathlib.Core.List.{List}
use mathlib.Core.Path.{◌≡◌, refl, sym, ap, ap₂, ◌∙◌}
use Prim.Native.Nat.{ℕ}
use native.Mathlib.Omega.{arith}
use lib.Ieee.{Float}
use Rattle.measures.specs.declared.vectors.Vector.{Vector}
use Rattle.curvature.specs.declared.answers.Answer.{Answer}
use Rattle.curvature.specs.declared.answers.Answer.TheVariants.{Open, Flat, Bent}
use Rattle.std.specs.Prelude.{Result, Ok, Err, false, ⊤}
use Rattle.grid.specs.declared.refusal.Refusal.{Refusal}
use Rattle.std.proofs.lemmas.Bool.Decides.{nat_tests}
use Rattle.grid.specs.Refusal.{told}
use Rattle.grid.proofs.Refused.{names_line, same_answer}
use Rattle.mesh.proofs.OneCheck.{mesh_names_none}
use Rattle.measures.specs.Vectors.{vector}
use Rattle.curvature.specs.Answers.{values_of, holds_of, read_back_number}
use Rattle.curvature.specs.Curved.{Outcome, granted, curved}
use Rattle.curvature.specs.Promise.{left, Curves, ReadsBack, Tells}

pub one_curvature : (points triangles marks : List ℕ) (areas vectors : List Float) (one other : Outcome) → Curves points triangles marks areas vectors one → Curves points triangles marks areas vectors other → one ≡ other
one_curvature points triangles marks areas vectors one other p q = cc

-- no refusal names a line
curved_names_none : (points triangles marks : List ℕ) (areas vectors : List Float) → names_line (curved points triangles marks areas vectors).number ≡ false
unfolding curved granted
curved_names_none points triangles marks areas vectors = grind (arith, nat_tests, mesh_names_none points triangles marks)

-- so the answer itself is one
pub one_curvature_answer : (points triangles marks : List ℕ) (areas vectors : List Float) (r q : Result ⊤ Refusal) (after other around beside : List Float)
    → Curves points triangles marks areas vectors (left (told r) after around) → Curves points triangles marks areas vectors (left (told q) other beside)
    → (r ≡ q) × (after ≡ other) × (around ≡ beside)
one_curvature_answer points triangles marks areas vectors r q after other around beside a b =
    let same = one_curvature points triangles marks areas vectors (left (told r) after around) (left (told q) other beside) a b in
    let none = ap (λ o. names_line o.number) a ∙ curved_names_none points triangles marks areas vectors in
    (same_answer tt r q (ap (λ o. o.number) same) none refl, ap (λ o. o.areas) same, ap (λ o. o.vectors) same)

-- a vector's three numbers tell it
one_vector : (v w : Vector) → v.x ≡ w.x → v.y ≡ w.y → v.z ≡ w.z → v ≡ w
one_vector v w a b c = let e : vector v.x v.y v.z ≡ vector w.x w.y w.z = rw (a, b, c) in e

-- the values of an answer tell it
pub one_point_answer : (a b : Answer) → values_of a ≡ values_of b → a ≡ b
unfolding values_of
one_point_answer (Open x) (Open y) h = cc
one_point_answer (Open x) Flat h = let z : ◌≡◌ {A = ℕ} 0 1 = cc in absurd (omega arith)
one_point_answer (Open x) (Bent y w) h = let z : ◌≡◌ {A = ℕ} 0 1 = cc in absurd (omega arith)
one_point_answer Flat (Open y) h = let z : ◌≡◌ {A = ℕ} 0 1 = cc in absurd (omega arith)
one_point_answer Flat Flat h = refl
one_point_answer Flat (Bent y w) h = let z : ◌≡◌ {A = ℕ} 0 1 = cc in absurd (omega arith)
one_point_answer (Bent x v) (Open y) h = let z : ◌≡◌ {A = ℕ} 0 1 = cc in absurd (omega arith)
one_point_answer (Bent x v) Flat h = let z : ◌≡◌ {A = ℕ} 0 1 = cc in absurd (omega arith)
one_point_answer (Bent x v) (Bent y w) h = ap₂ Bent (cc) (one_vector v w (cc) (cc) (cc))

-- no refusal of a reading names a line
read_back_names_none : (marks : List ℕ) (areas vectors : List Float) (point : ℕ) → names_line (read_back_number marks areas vectors point) ≡ false
unfolding read_back_number
read_back_names_none marks areas vectors point = grind (arith, nat_tests)

-- its number and what it holds tell a reading
one_held : (r q : Result Answer Refusal) → told r ≡ told q → names_line (told r) ≡ false → holds_of r ≡ holds_of q → r ≡ q
unfolding holds_of
one_held (Ok a) (Ok b) n i h = ap Ok (one_point_answer a b (cc))
one_held (Ok a) (Err f) n i h = same_answer a (Ok a) (Err f) n i refl
one_held (Err e) (Ok b) n i h = same_answer b (Err e) (Ok b) n i refl
one_held (Err e) (Err f) n i h = same_answer Flat (Err e) (Err f) n i refl

pub one_reading : (marks : List ℕ) (areas vectors : List Float) (point : ℕ) (one other : Result Answer Refusal) → ReadsBack marks areas vectors point one → ReadsBack marks areas vectors point other → one ≡ other
one_reading marks areas vectors point one other p q = one_held one other (p.0 ∙ sym q.0) (ap names_line p.0 ∙ read_back_names_none marks areas vectors point) (p.1 ∙ sym q.1)

-- an answer told to a caller in C
pub one_told : (marks : List ℕ) (areas vectors : List Float) (point heldKind : ℕ) (held : List Float) (n m kind other : ℕ) (after rest : List Float)
    → Tells marks areas vectors point heldKind held n kind after → Tells marks areas vectors point heldKind held m other rest
    → (n ≡ m) × (kind ≡ other) × (after ≡ rest)
one_told marks areas vectors point heldKind held n m kind other after rest a b = (a.0 ∙ sym b.0, a.1 ∙ sym b.1, a.2 ∙ sym b.2)
