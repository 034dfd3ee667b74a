-- Any two outcomes that the promise allows are equal.
use mathlib.Core.Path.{◌≡◌, ap, sym, ◌∙◌, subst}
use mathlib.Core.List.{List}
use mathlib.Core.Bool.{Bool, cond}
use Prim.Native.Nat.{ℕ}
use native.Mathlib.Omega.{arith}
use lib.ListN.{length}
use Rattle.mesh.specs.Mesh.{triangles_of}
use Rattle.shellnumbers.proofs.OneNumbering.{one_numbering}
use Rattle.meshread.specs.Mesh.{Mesh}
use Rattle.meshread.specs.Promise.{Rooms, Outcome, refused, cleared, lengths_of, Said, refusal, mesh, said, own_records, Numbered, granted, Reads, refused_early, others_shells, taken}

-- a refusal is no mesh
pub never_said : {B : Type 0} {number line : ℕ} {zeroed : Bool} {m : Mesh} {s : Said} → s ≡ refusal number line zeroed → s ≡ mesh m → B
never_said {number = number} {line = line} {zeroed = zeroed} {m = m} e f = let z : ◌≡◌ {A = ℕ} 0 1 = cc in absurd (omega arith)

-- what is said once is said
same_refusal : {n n' l l' : ℕ} {z z' : Bool} {s : Said} (r : Rooms) → s ≡ refusal n l z → s ≡ refusal n' l' z' → refused n l (cond z (cleared r) r) ≡ refused n' l' (cond z' (cleared r) r)
same_refusal {n} {n'} {l} {l'} {z} {z'} r e f =
    let a : n ≡ n' = cc in
    let b : l ≡ l' = cc in
    let c : z ≡ z' = cc in
    rw (a, b, c)

pub same_mesh : {m n : Mesh} {s : Said} → s ≡ mesh m → s ≡ mesh n → m ≡ n
same_mesh e f = cc

-- the records that a mesh has of its own are the same whatever numbering was found
pub one_own : (m : Mesh) (f g : List ℕ) (k l : ℕ) → Numbered m f k → Numbered m g l → own_records m f k ≡ own_records m g l
one_own m f g k l F G =
    let u = one_numbering (triangles_of m.triangles) (length m.marks) f g k l F G in
    ap (λ x. own_records m x k) u.0 ∙ ap (own_records m g) u.1

module _ (input : List ℕ) (r : Rooms) where
  apart : {B : Type 0} (m n : Mesh) → said input (lengths_of r) ≡ mesh m → said input (lengths_of r) ≡ mesh n → (f g : List ℕ) (k l : ℕ) → Numbered m f k → Numbered n g l
      → (m.records ≡ own_records m f k → ⊥) → n.records ≡ own_records n g l → B
  apart m n e e' f g k l F G not own =
      let q : n ≡ m = same_mesh e' e in
      absurd (not (subst (λ x. x.records ≡ own_records x g l) q own ∙ one_own m g f l k (subst (λ x. Numbered x g l) q G) F))

  pub one_read : (o o' : Outcome) → Reads input r o → Reads input r o' → o ≡ o'
  one_read o o' (refused_early n l z e f) (refused_early n' l' z' e' f') = f ∙ same_refusal r e e' ∙ sym f'
  one_read o o' (refused_early n l z e f) (others_shells m' e' g' k' G' n' f') = never_said e e'
  one_read o o' (refused_early n l z e f) (taken m' e' g' k' G' w' f') = never_said e e'
  one_read o o' (others_shells m e g k G n f) (refused_early n' l' z' e' f') = never_said e' e
  one_read o o' (others_shells m e g k G n f) (others_shells m' e' g' k' G' n' f') = f ∙ sym f'
  one_read o o' (others_shells m e g k G n f) (taken m' e' g' k' G' w' f') = apart m m' e e' g g' k k' G G' n w'
  one_read o o' (taken m e g k G w f) (refused_early n' l' z' e' f') = never_said e' e
  one_read o o' (taken m e g k G w f) (others_shells m' e' g' k' G' n' f') = apart m' m e' e g' g k' k G' G n' w
  one_read o o' (taken m e g k G w f) (taken m' e' g' k' G' w' f') = f ∙ ap (λ x. granted x r) (same_mesh e e') ∙ sym f'
