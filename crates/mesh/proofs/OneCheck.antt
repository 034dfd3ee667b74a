-- Any two answers that the promise allows are equal.
use mathlib.Core.Path.{◌≡◌, refl, ap, sym, ◌∙◌}
use mathlib.Core.List.{List}
use mathlib.Core.Bool.{false}
use Prim.Native.Nat.{ℕ}
use Rattle.std.specs.Prelude.{Result, ⊤}
use Rattle.grid.specs.declared.refusal.Refusal.{Refusal}
use native.Mathlib.Omega.{arith}
use Rattle.std.proofs.lemmas.Bool.Decides.{nat_tests}
use Rattle.grid.specs.Refusal.{told}
use Rattle.grid.proofs.Refused.{names_line, same_answer}
use Rattle.mesh.specs.Check.{mesh_number}
use Rattle.mesh.specs.Promise.{Checked}

pub one_check : (points triangles marks : List ℕ) (n m : ℕ) → Checked points triangles marks n → Checked points triangles marks m → n ≡ m
one_check points triangles marks n m a b = a ∙ sym b

-- no refusal of a mesh names a line
pub mesh_names_none : (points triangles marks : List ℕ) → names_line (mesh_number points triangles marks) ≡ false
unfolding mesh_number
mesh_names_none points triangles marks = grind (arith, nat_tests)

-- so the answer itself is one
pub one_check_answer : (points triangles marks : List ℕ) (r q : Result ⊤ Refusal) → Checked points triangles marks (told r) → Checked points triangles marks (told q) → r ≡ q
one_check_answer points triangles marks r q a b =
    same_answer tt r q (one_check points triangles marks (told r) (told q) a b) (ap names_line a ∙ mesh_names_none points triangles marks) refl
