-- A number that a branch tests for 0: what each of the two ways tells.
use mathlib.Core.Path.{◌≡◌, refl}
use mathlib.Core.Bool.{Bool, true, false, not}
use Prim.Native.Nat.{ℕ}
use native.Mathlib.Omega.{arith}
use lib.Dec.{T, eqb}
use borrow.Author.Tests.{eq-eqb, eqb-true}

pub given : (n : ℕ) → T (not (eqb n 0)) → n ≡ 0 → ⊥
given n t e = go (eqb n 0) (eq-eqb n 0 e) t
  where
    go : (b : Bool) → b ≡ true → T (not b) → ⊥
    go true h t = t
    go false h t = let z : ◌≡◌ {A = ℕ} 0 1 = cc in omega arith

pub none_given : (n : ℕ) → T (not (not (eqb n 0))) → n ≡ 0
none_given n t = go (eqb n 0) refl t
  where
    go : (b : Bool) → eqb n 0 ≡ b → T (not (not b)) → n ≡ 0
    go true e t = eqb-true n 0 e
    go false e t = absurd t
