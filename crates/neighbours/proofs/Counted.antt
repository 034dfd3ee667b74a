-- The sizes of the buckets: counted corner by corner, and all of them together.
use mathlib.Core.Path.{◌≡◌, refl, ap, ◌∙◌}
use mathlib.Core.List.{List}
use mathlib.Core.Bool.{Bool, true, false}
use Prim.Native.Nat.{ℕ, ◌+◌, ◌*◌, ◌<◌, ◌≤◌}
use native.Mathlib.Omega.{arith}
use lib.Dec.{eqb}
use lib.ListN.{length, get_or, set}
use lib.Seq.{get_or-set_same, get_or-set_other}
use borrow.Author.Tests.{eqb-true, eqb-false}
use Rattle.laws.specs.Range.{sum_to, count_to, one_if}
use Rattle.laws.proofs.Ranges.{count_le}
use Rattle.laws.proofs.Keep.{count_next}
use Rattle.neighbours.specs.Steps.{From, size_to}

pub sized_first : (ts : List ℕ) (p : ℕ) → size_to ts 0 p ≡ 0
unfolding count_to sum_to
sized_first ts p = refl

sized_next : (ts : List ℕ) (n p : ℕ) → size_to ts (n + 1) p ≡ size_to ts n p + 2 * one_if (eqb (get_or ts n 0) p)
sized_next ts n p = omega (arith, count_next n (λ k. eqb (get_or ts k 0) p))

pub sized_most : (ts : List ℕ) (n p : ℕ) → size_to ts n p ≤ 2 * n
sized_most ts n p = omega (arith, count_le n (λ k. eqb (get_or ts k 0) p))

-- one corner more
pub counted_next : (ts work : List ℕ) (at n : ℕ) → at + get_or ts n 0 < length work → From at (size_to ts n) work
    → From at (size_to ts (n + 1)) (set work (at + get_or ts n 0) (get_or work (at + get_or ts n 0) 0 + 2))
counted_next ts work at n l h p = go (eqb (get_or ts n 0) p) refl
  where
    place : ℕ
    place = at + get_or ts n 0

    go : (b : Bool) → eqb (get_or ts n 0) p ≡ b → get_or (set work (at + get_or ts n 0) (get_or work (at + get_or ts n 0) 0 + 2)) (at + p) 0 ≡ size_to ts (n + 1) p
    go true e =
        let q : get_or ts n 0 ≡ p = eqb-true (get_or ts n 0) p e in
        rw (← q)
        (get_or-set_same work (at + get_or ts n 0) (get_or work (at + get_or ts n 0) 0 + 2) 0 l
        ∙ rw (q) (omega (arith, h p, sized_next ts n p, ap one_if e)))
    go false e =
        let d : get_or ts n 0 ≡ p → ⊥ = eqb-false (get_or ts n 0) p e in
        get_or-set_other work (at + get_or ts n 0) (at + p) (get_or work (at + get_or ts n 0) 0 + 2) 0 (λ q. d (omega arith))
        ∙ omega (arith, h p, sized_next ts n p, ap one_if e)
