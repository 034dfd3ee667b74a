-- What the checks show of a mesh and of the rooms that pass them.
use mathlib.Core.Path.{◌≡◌, refl, sym, ◌∙◌}
use mathlib.Core.List.{List}
use mathlib.Core.Bool.{Bool, true, false, cond, not}
use Prim.Native.Nat.{ℕ, ◌*◌}
use native.Mathlib.Omega.{arith}
use lib.Dec.{eqb}
use lib.ListN.{length}
use borrow.Author.Tests.{eqb-true}
use Rattle.laws.proofs.Tests.{both}
use Rattle.mesh.specs.Check.{mesh_number}
use Rattle.mesh.proofs.Passed.{Passed as MeshPassed, passed as mesh_passed}
use Rattle.shellnumbers.specs.Lists.{shell_rooms_fit, refusal}

-- no number, so none before it
no_number : (n k : ℕ) → cond (not (eqb n 0)) n k ≡ 0 → (n ≡ 0) × (k ≡ 0)
no_number n k h = go (eqb n 0) refl h
  where
    go : (b : Bool) → eqb n 0 ≡ b → cond (not b) n k ≡ 0 → (n ≡ 0) × (k ≡ 0)
    go true e h = (eqb-true n 0 e, h)
    go false e h = (h, absurd (false≢ (sym e ∙ refl_of h)))
      where
        refl_of : n ≡ 0 → eqb n 0 ≡ true
        refl_of q = rw q

        false≢ : false ≡ true → ⊥
        false≢ q = let z : ◌≡◌ {A = ℕ} 0 1 = cc in omega arith

not_three : (b : Bool) → ◌≡◌ {A = ℕ} (cond (not b) 3 0) 0 → b ≡ true
not_three true h = refl
not_three false h = absurd (omega arith)

pub record Passed (points triangles marks : List ℕ) (numbers work : ℕ) : Type 0 where
  pub mesh : MeshPassed points triangles marks
  pub numbers_long : numbers ≡ length marks
  pub work_long : work ≡ 2 * length marks

pub passed : (points triangles marks : List ℕ) (numbers work : ℕ) → refusal points triangles marks numbers work ≡ 0 → Passed points triangles marks numbers work
unfolding refusal shell_rooms_fit
passed points triangles marks numbers work h =
    let v = length marks in
    let m = no_number (mesh_number points triangles marks) _ h in
    let r = both (eqb numbers v) (eqb work (2 * v)) (not_three (shell_rooms_fit v numbers work) m.1) in
    record { mesh = mesh_passed points triangles marks m.0; numbers_long = eqb-true _ _ r.0; work_long = eqb-true _ _ r.1 }
