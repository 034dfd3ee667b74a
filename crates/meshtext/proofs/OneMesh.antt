-- Any two outcomes that the promise allows are equal.
use mathlib.Core.Path.{◌≡◌, ap, sym, ◌∙◌}
use mathlib.Core.List.{List}
use mathlib.Core.Bool.{false}
use Prim.Native.Nat.{ℕ}
use native.Mathlib.Omega.{arith}
use Rattle.std.specs.Prelude.{Result}
use Rattle.std.proofs.lemmas.Bool.Decides.{nat_tests}
use Rattle.grid.specs.declared.refusal.Refusal.{Refusal}
use Rattle.grid.specs.Refusal.{told, granted_or}
use Rattle.grid.proofs.Refused.{names_line, same_answer}
use Rattle.records.specs.declared.Shell.{Shell}
use Rattle.writing.specs.Writing.{Outcome, outcome}
use Rattle.writing.proofs.OneRefusal.{written_names_none}
use Rattle.meshtext.specs.MeshText.{mesh_written}

pub one_mesh : (points edges marks triangles : List ℕ) (records : List Shell) (shells : ℕ) (room : List ℕ) (a b : Outcome)
    → a ≡ mesh_written points edges marks triangles records shells room → b ≡ mesh_written points edges marks triangles records shells room → a ≡ b
one_mesh points edges marks triangles records shells room a b p q = p ∙ sym q

-- no refusal names a line
mesh_written_names_none : (points edges marks triangles : List ℕ) (records : List Shell) (shells : ℕ) (room : List ℕ)
    → names_line (mesh_written points edges marks triangles records shells room).number ≡ false
unfolding mesh_written
mesh_written_names_none points edges marks triangles records shells room = grind (arith, nat_tests, written_names_none)

-- so the answer itself is one
pub one_mesh_answer : (points edges marks triangles : List ℕ) (records : List Shell) (shells : ℕ) (room : List ℕ) (r q : Result ℕ Refusal) (after other : List ℕ)
    → outcome (told r) (granted_or 0 r) after ≡ mesh_written points edges marks triangles records shells room
    → outcome (told q) (granted_or 0 q) other ≡ mesh_written points edges marks triangles records shells room → (r ≡ q) × (after ≡ other)
one_mesh_answer points edges marks triangles records shells room r q after other a b =
    let same = one_mesh points edges marks triangles records shells room (outcome (told r) (granted_or 0 r) after) (outcome (told q) (granted_or 0 q) other) a b in
    let none = ap (λ o. names_line o.number) a ∙ mesh_written_names_none points edges marks triangles records shells room in
    (same_answer 0 r q (ap (λ o. o.number) same) none (ap (λ o. o.length) same), ap (λ o. o.room) same)
