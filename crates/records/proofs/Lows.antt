-- Every shell is listed once, by its lowest point: record n's lowest point has the number n, no lower point has it, and they rise with n (demand 3).
use mathlib.Core.Path.{◌≡◌, ap, ◌∙◌}
use mathlib.Core.List.{List}
use mathlib.Core.Bool.{Bool}
use Prim.Native.Nat.{ℕ, ◌<◌, ◌≤◌}
use native.Mathlib.Decide.{dec_lt}
use native.Mathlib.Omega.{arith}
use lib.Dec.{eqb}
use lib.ListN.{length, get_or}
use borrow.Author.Tests.{eq-eqb, eqb-true}
use Rattle.laws.specs.Range.{keep_to}
use Rattle.laws.proofs.Keep.{rank_lt, Ranked, kept_at}
use Rattle.mesh.specs.Mesh.{triangles_of}
use Rattle.shellnumbers.specs.Numbering.{number_of, Lowest, Numbering}
use Rattle.records.specs.Record.{points_under, record_from, record_of}

module _ (points triangles marks found : List ℕ) (shells : ℕ) (N : Numbering (triangles_of triangles) (length marks) found shells) where
  abbrev has : ℕ → ℕ → Bool
  has n p = eqb (number_of found p) n

  abbrev low : ℕ → ℕ
  low n = (record_of points triangles marks found n).low

  pub record ByLowest (n : ℕ) : Type 0 where
    pub small : low n < length marks
    pub number : number_of found (low n) ≡ n
    pub lowest : Lowest (length marks) found (low n)

  pub by_lowest : (n : ℕ) → n < shells → ByLowest n
  unfolding record_from points_under
  by_lowest n l = record { small = r.small; number = number; lowest = lowest }
    where
      r : Ranked (length marks) 0 (has n) (get_or (keep_to (length marks) (has n)) 0 0)
      r =
          let u = N.used n l in
          kept_at (length marks) 0 (has n) (omega (arith, rank_lt (length marks) u.point (has n) u.small (eq-eqb _ _ u.number)))

      number : number_of found (get_or (keep_to (length marks) (has n)) 0 0) ≡ n
      number = eqb-true _ _ r.passes

      lowest : Lowest (length marks) found (get_or (keep_to (length marks) (has n)) 0 0)
      lowest q lq e = go (dec_lt q (get_or (keep_to (length marks) (has n)) 0 0))
        where
          go : Dec (q < get_or (keep_to (length marks) (has n)) 0 0) → get_or (keep_to (length marks) (has n)) 0 0 ≤ q
          go (yes k) = absurd (omega (arith, r.rank, rank_lt _ q (has n) k (eq-eqb _ _ (e ∙ number))))
          go (no ge) = omega arith

  pub lows_rise : (n m : ℕ) → n < m → m < shells → low n < low m
  lows_rise n m l lm = go (dec_lt (low n) (low m)) (dec_lt (low m) (low n))
    where
      a : ByLowest n
      a = by_lowest n (omega arith)

      b : ByLowest m
      b = by_lowest m lm

      go : Dec (low n < low m) → Dec (low m < low n) → low n < low m
      go (yes k) d = k
      go (no x) (yes k) = absurd (omega (arith, N.rising (low m) (low n) b.small a.small b.lowest a.lowest k, a.number, b.number))
      go (no x) (no y) = absurd (omega (arith, a.number, b.number, ap (number_of found) (same (low n) (low m) x y)))
        where
          same : (s t : ℕ) → (s < t → ⊥) → (t < s → ⊥) → s ≡ t
          same s t x y = omega arith
