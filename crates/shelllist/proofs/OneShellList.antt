-- Any two outcomes that the promise allows are equal.
use mathlib.Core.Path.{◌≡◌, ap, ap₂, sym, ◌∙◌}
use mathlib.Core.List.{List}
use mathlib.Core.Bool.{false}
use Prim.Native.Nat.{ℕ}
use native.Mathlib.Omega.{arith}
use lib.ListN.{length, replicate}
use Rattle.std.specs.Prelude.{Result}
use Rattle.std.proofs.lemmas.Bool.Decides.{nat_tests}
use Rattle.grid.specs.declared.refusal.Refusal.{Refusal}
use Rattle.grid.specs.Refusal.{told, granted_or}
use Rattle.grid.proofs.Refused.{names_line, same_answer}
use Rattle.mesh.specs.Mesh.{triangles_of}
use Rattle.mesh.proofs.OneCheck.{mesh_names_none}
use Rattle.records.specs.declared.Shell.{Shell}
use Rattle.shellnumbers.specs.Lists.{Outcome, left, refusal, early, Lists, refused, crowded, granted}
use Rattle.shelllist.specs.Promise.{records_after, Shells}
use Rattle.shellnumbers.proofs.OneNumbering.{one_numbering}

module _ (points triangles marks : List ℕ) where
  pub one_list : (records : ℕ) (numbers work : List ℕ) (o o' : Outcome) → Lists points triangles marks records numbers work o → Lists points triangles marks records numbers work o' → o ≡ o'
  one_list records numbers work o o' (refused n e) (refused n' e') = e ∙ sym e'
  one_list records numbers work o o' (refused n e) (crowded z f s N m e') = absurd (n z)
  one_list records numbers work o o' (refused n e) (granted z f s N m e') = absurd (n z)
  one_list records numbers work o o' (crowded z f s N m e) (refused n' e') = absurd (n' z)
  one_list records numbers work o o' (crowded z f s N m e) (crowded z' f' s' N' m' e') = e ∙ sym e'
  one_list records numbers work o o' (crowded z f s N m e) (granted z' f' s' N' m' e') =
      absurd (omega (arith, m, m', (one_numbering (triangles_of triangles) (length marks) f f' s s' N N').1))
  one_list records numbers work o o' (granted z f s N m e) (refused n' e') = absurd (n' z)
  one_list records numbers work o o' (granted z f s N m e) (crowded z' f' s' N' m' e') =
      absurd (omega (arith, m, m', (one_numbering (triangles_of triangles) (length marks) f f' s s' N N').1))
  one_list records numbers work o o' (granted z f s N m e) (granted z' f' s' N' m' e') =
      let u = one_numbering (triangles_of triangles) (length marks) f f' s s' N N' in
      e ∙ ap₂ (λ k xs. left 0 k xs (replicate (length work) 0)) u.1 u.0 ∙ sym e'

  pub one_shell_list : (numbers work : List ℕ) (room : List Shell) (o o' : Outcome) (after after' : List Shell) → Shells points triangles marks numbers work room o after
      → Shells points triangles marks numbers work room o' after' → (o ≡ o') × (after ≡ after')
  one_shell_list numbers work room o o' after after' a b =
      let e = one_list (length room) numbers work o o' a.lists b.lists in
      (e, a.records ∙ ap (λ x. records_after points triangles marks x room) e ∙ sym b.records)

  -- no refusal names a line
  early_names_none : (numbers work : List ℕ) → names_line (early points triangles marks numbers work) ≡ false
  unfolding refusal
  early_names_none numbers work = grind (arith, nat_tests, mesh_names_none points triangles marks)

  list_names_none : (records : ℕ) (numbers work : List ℕ) (o : Outcome) → Lists points triangles marks records numbers work o → names_line o.number ≡ false
  list_names_none records numbers work o (refused n e) = ap (λ (x : Outcome). names_line x.number) e ∙ early_names_none numbers work
  list_names_none records numbers work o (crowded z f s N m e) = ap (λ (x : Outcome). names_line x.number) e
  list_names_none records numbers work o (granted z f s N m e) = ap (λ (x : Outcome). names_line x.number) e

  -- so the answer itself is one
  pub one_shells_answer : (numbers work : List ℕ) (room : List Shell) (r q : Result ℕ Refusal) (found other rest left_over : List ℕ) (after after' : List Shell)
      → Shells points triangles marks numbers work room (left (told r) (granted_or 0 r) found rest) after → Shells points triangles marks numbers work room (left (told q) (granted_or 0 q) other left_over) after'
      → (r ≡ q) × (found ≡ other) × (rest ≡ left_over) × (after ≡ after')
  one_shells_answer numbers work room r q found other rest left_over after after' a b =
      let same = one_shell_list numbers work room (left (told r) (granted_or 0 r) found rest) (left (told q) (granted_or 0 q) other left_over) after after' a b in
      let none = list_names_none (length room) numbers work (left (told r) (granted_or 0 r) found rest) a.lists in
      (same_answer 0 r q (ap (λ o. o.number) same.0) none (ap (λ o. o.shells) same.0), ap (λ o. o.numbers) same.0, ap (λ o. o.work) same.0, same.1)
