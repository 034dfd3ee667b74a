-- The begins of the buckets: those below p are summed up, and from p on the room is as it was.
use mathlib.Core.Path.{◌≡◌, refl, ◌∙◌}
use mathlib.Core.List.{List}
use Prim.Native.Nat.{ℕ, ◌+◌, ◌<◌, ◌≤◌}
use native.Mathlib.Decide.{dec_lt}
use native.Mathlib.Omega.{arith}
use lib.ListN.{length, get_or, set, length-set}
use lib.Seq.{get_or-set_same, get_or-set_other}
use Rattle.laws.specs.Range.{sum_to}
use Rattle.laws.proofs.Ranges.{sum_next}

abbrev size_at : List ℕ → ℕ → ℕ → ℕ
size_at work at q = get_or work (at + q) 0

pub record BegunTo (v at : ℕ) (work₀ : List ℕ) (p sum : ℕ) (work : List ℕ) : Type 0 where
  pub same : length work ≡ length work₀
  pub within : p ≤ v
  pub summed : sum ≡ sum_to p (size_at work₀ at)
  pub done : (q : ℕ) → q < p → get_or work (at + q) 0 ≡ sum_to q (size_at work₀ at)
  pub rest : (i : ℕ) → p ≤ i → get_or work (at + i) 0 ≡ get_or work₀ (at + i) 0

pub begun_first : (v at : ℕ) (work : List ℕ) → BegunTo v at work 0 0 work
unfolding sum_to
begun_first v at work =
    record { same = refl; within = omega arith; summed = refl; done = λ q l. absurd (omega arith); rest = λ i l. refl }

pub begun_next : (v at : ℕ) (work₀ : List ℕ) (p sum : ℕ) (work : List ℕ) → at + v ≤ length work₀ → p < v → BegunTo v at work₀ p sum work
    → BegunTo v at work₀ (p + 1) (sum + get_or work (at + p) 0) (set work (at + p) sum)
begun_next v at work₀ p sum work room l h =
    record {
      same = simp length-set h.same;
      within = omega arith;
      summed = omega (arith, h.summed, h.rest p (omega arith), sum_next p (size_at work₀ at));
      done = λ q k. go q k (dec_lt q p);
      rest = λ i k. get_or-set_other work (at + p) (at + i) sum 0 (λ e. absurd (omega arith)) ∙ h.rest i (omega arith);
    }
  where
    go : (q : ℕ) → q < p + 1 → Dec (q < p) → get_or (set work (at + p) sum) (at + q) 0 ≡ sum_to q (size_at work₀ at)
    go q k (yes m) = get_or-set_other work (at + p) (at + q) sum 0 (λ e. absurd (omega arith)) ∙ h.done q m
    go q k (no n) =
        let e : q ≡ p = omega arith in
        rw e (get_or-set_same work (at + p) sum 0 (omega (arith, h.same)) ∙ h.summed)
