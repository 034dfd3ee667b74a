-- Where each triangle names three different points, the sides from p to q and the triangles that run from p to q are as many.
use mathlib.Core.Path.{◌≡◌, refl, sym, ◌∙◌}
use mathlib.Core.List.{List, [], ◌∷◌}
use mathlib.Core.Bool.{true, ◌&&◌}
use Prim.Native.Nat.{ℕ}
use native.Mathlib.Omega.{arith}
use lib.Dec.{eqb}
use borrow.Author.Tests.{eqb-true}
use Rattle.laws.specs.Sum.{sum_of, All}
use Rattle.laws.specs.Mesh.{Triangle, sides, total}
use Rattle.laws.proofs.Tests.{both, one_of_three}
use Rattle.closed.specs.Runs.{runs, triangles_from}

-- two sides that start at different points don't both start at p
not_both : (p q a b c d : ℕ) → (a ≡ b → ⊥) → (eqb a p && eqb c q) ≡ true → (eqb b p && eqb d q) ≡ true → ⊥
not_both p q a b c d differ one two =
    differ (eqb-true a p (both (eqb a p) (eqb c q) one).0 ∙ sym (eqb-true b p (both (eqb b p) (eqb d q) two).0))

pub side_by_triangle : (ts : List Triangle) → All (λ s. s.from ≡ s.to → ⊥) (sides ts) → (p q : ℕ) → runs ts p q ≡ triangles_from ts p q
unfolding runs triangles_from total sides sum_of
side_by_triangle [] apart p q = refl
side_by_triangle (t ∷ ts) apart p q =
    let a = t.one in
    let b = t.two in
    let c = t.three in
    omega (
      arith,
      one_of_three (eqb a p && eqb b q) (eqb b p && eqb c q) (eqb c p && eqb a q) (not_both p q a b b c apart.0) (not_both p q b c c a apart.1.0)
          (λ one two. not_both p q c a a b apart.1.1.0 two one),
      side_by_triangle ts apart.1.1.1 p q,
    )
