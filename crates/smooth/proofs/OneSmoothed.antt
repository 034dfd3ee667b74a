-- Any two outcomes that the promise allows are equal.
use mathlib.Core.Path.{◌≡◌, refl, ap, sym, ◌∙◌}
use mathlib.Core.List.{List}
use mathlib.Core.Bool.{false}
use Prim.Native.Nat.{ℕ}
use native.Mathlib.Omega.{arith}
use Rattle.std.specs.Prelude.{Result, ⊤}
use Rattle.std.proofs.lemmas.Bool.Decides.{nat_tests}
use Rattle.grid.specs.declared.refusal.Refusal.{Refusal}
use Rattle.grid.specs.Refusal.{told}
use Rattle.grid.proofs.Refused.{names_line, same_answer}
use Rattle.mesh.proofs.OneCheck.{mesh_names_none}
use Rattle.smooth.specs.Smooth.{smooth_number, smoothed}
use Rattle.smooth.specs.Promise.{Smooths}

pub one_smoothed : (points triangles marks : List ℕ) (k w : ℕ) (second work : List ℕ) (n m : ℕ) (after other left rest : List ℕ)
    → Smooths points triangles marks k w second work n after left → Smooths points triangles marks k w second work m other rest
    → (n ≡ m) × (after ≡ other) × (left ≡ rest)
one_smoothed points triangles marks k w second work n m after other left rest a b =
    let same = a ∙ sym b in
    (ap (λ o. o.number) same, ap (λ o. o.second) same, ap (λ o. o.work) same)

-- no refusal names a line
smoothed_names_none : (points triangles marks : List ℕ) (k w : ℕ) (second work : List ℕ) → names_line (smoothed points triangles marks k w second work).number ≡ false
unfolding smoothed smooth_number
smoothed_names_none points triangles marks k w second work = grind (arith, nat_tests, mesh_names_none points triangles marks)

-- so the answer itself is one
pub one_smooth_answer : (points triangles marks : List ℕ) (k w : ℕ) (second work : List ℕ) (r q : Result ⊤ Refusal) (after other left rest : List ℕ)
    → Smooths points triangles marks k w second work (told r) after left → Smooths points triangles marks k w second work (told q) other rest
    → (r ≡ q) × (after ≡ other) × (left ≡ rest)
one_smooth_answer points triangles marks k w second work r q after other left rest a b =
    let same = one_smoothed points triangles marks k w second work (told r) (told q) after other left rest a b in
    let none = ap (λ o. names_line o.number) a ∙ smoothed_names_none points triangles marks k w second work in
    (same_answer tt r q same.0 none refl, same.1, same.2)
