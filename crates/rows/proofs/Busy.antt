-- A stretch walked from one busy sample to the next: where the next one is, and that no edge that leaves a sample on the way is crossed.
use mathlib.Core.Path.{◌≡◌, ap, sym, ◌∙◌}
use mathlib.Core.List.{List}
use mathlib.Core.Bool.{true, false, ◌&&◌, true≢false}
use Prim.Native.Nat.{ℕ, zero, suc, ◌+◌, ◌*◌, ◌-◌, ◌/◌, ◌%◌, ◌^◌, ◌<◌, ◌≤◌}
use native.Mathlib.Decide.{dec_lt}
use native.Mathlib.Omega.{arith}
use lib.Bits.{bit_and, bit_or, or_lt}
use lib.Count.{count_trailing_zeros}
use borrow.Author.Tests.{lt-ltb, le-ltb}
use Rattle.laws.specs.Bits.{word_bits, bit}
use Rattle.laws.proofs.Scan.{Left, next_bit, none_left}
use Rattle.laws.proofs.Words.{bit_or_lem, or_clear}
use Rattle.rows.specs.declared.Sides.{Sides}
use Rattle.rows.specs.declared.Crossed.{Crossed}
use Rattle.rows.specs.declared.Cuts.{Cuts}
use Rattle.rows.specs.Rows.{cut, CutWords, cuts_at}

-- the samples that an edge leaves which is crossed
abbrev pub busy_of : Crossed → ℕ
busy_of c = bit_or (bit_or c.x c.y) c.z

pub busy_small : (c : Crossed) → c.x < 2 ^ 64 → c.y < 2 ^ 64 → c.z < 2 ^ 64 → busy_of c < 2 ^ 64
busy_small c x y z = or_lt 64 _ _ (or_lt 64 _ _ x y) z

-- the three edges that leave a sample, of which e is the first, are crossed as the tests say
pub record Tested (sides : Sides) (masks : List ℕ) (e : ℕ) (cuts : Cuts) : Type 0 where
  pub along_x : cut sides masks e ≡ cuts.x
  pub along_y : cut sides masks (e + 1) ≡ cuts.y
  pub along_z : cut sides masks (e + 2) ≡ cuts.z

-- The walk of a stretch comes from its sample x to its next busy one, t: the edges of those that it passes are not crossed, and the bits past it are left.
pub record Found (sides : Sides) (masks : List ℕ) (s many word x rest t : ℕ) : Type 0 where
  pub small : t < word_bits
  pub from : x ≤ t
  pub there : t < many
  pub uncut : (i : ℕ) → i < 3 * (t - x) → cut sides masks (3 * (s + x) + i) ≡ false
  pub left : Left word (t + 1) (bit_and rest (rest - 1))
  pub falls : bit_and rest (rest - 1) < rest

module _ (sides : Sides) (masks : List ℕ) (s many : ℕ) (c : Crossed) (by : CutWords sides masks s many c) where
  -- the tests of a sample
  pub tested : (i : ℕ) → i < many → Tested sides masks (3 * (s + i)) (cuts_at c i)
  tested i l =
      let set = lt-ltb i many l in
      record {
        along_x = sym (by.along_x i ∙ ap (λ t. t && cut sides masks (3 * (s + i))) set);
        along_y = sym (by.along_y i ∙ ap (λ t. t && cut sides masks (3 * (s + i) + 1)) set);
        along_z = sym (by.along_z i ∙ ap (λ t. t && cut sides masks (3 * (s + i) + 2)) set);
      }

  -- no bit is set past the samples
  past_clear : (i : ℕ) → many ≤ i → bit (busy_of c) i ≡ false
  past_clear i h = let none = le-ltb i many h in rw (bit_or_lem (bit_or c.x c.y) c.z i, bit_or_lem c.x c.y i, by.along_x i, by.along_y i, by.along_z i, none)

  pub busy_there : (i : ℕ) → bit (busy_of c) i ≡ true → i < many
  busy_there i set = go (dec_lt i many)
    where
      go : Dec (i < many) → i < many
      go (yes l) = l
      go (no u) = absurd (true≢false (sym set ∙ past_clear i (omega arith)))

  -- the edges of a sample whose bit is not set, and of a run of such samples
  uncut : (i axis : ℕ) → i < many → bit (busy_of c) i ≡ false → axis < 3 → cut sides masks (3 * (s + i) + axis) ≡ false
  uncut i axis l none h = go axis h (tested i l)
    where
      go : (axis : ℕ) → axis < 3 → Tested sides masks (3 * (s + i)) (cuts_at c i) → cut sides masks (3 * (s + i) + axis) ≡ false
      go zero h test =
          let q : 3 * (s + i) + 0 ≡ 3 * (s + i) = omega arith in
          rw q (test.along_x ∙ (or_clear c.x c.y i (or_clear (bit_or c.x c.y) c.z i none).0).0)
      go (suc zero) h test = test.along_y ∙ (or_clear c.x c.y i (or_clear (bit_or c.x c.y) c.z i none).0).1
      go (suc (suc zero)) h test = test.along_z ∙ (or_clear (bit_or c.x c.y) c.z i none).1
      go (suc (suc (suc axis))) h test = absurd (omega arith)

  run_uncut : (x t : ℕ) → t ≤ many → ((i : ℕ) → x ≤ i → i < t → bit (busy_of c) i ≡ false) → (i : ℕ) → i < 3 * (t - x) → cut sides masks (3 * (s + x) + i) ≡ false
  run_uncut x t h none i l =
      let q : 3 * (s + x) + i ≡ 3 * (s + (x + i / 3)) + i % 3 = omega arith in
      rw q (uncut (x + i / 3) (i % 3) (omega arith) (none (x + i / 3) (omega arith) (omega arith)) (omega arith))

  -- where no bit is left, and where one is
  module _ (x rest : ℕ) (left : Left (busy_of c) x rest) where
    pub rest_uncut : rest ≡ 0 → (i : ℕ) → i < 3 * (many - x) → cut sides masks (3 * (s + x) + i) ≡ false
    rest_uncut none = run_uncut x many (omega arith) (λ i l u. none_left (busy_of c) x rest left none i l)

    pub found : rest < 2 ^ 64 → (rest ≡ 0 → ⊥) → Found sides masks s many (busy_of c) x rest (count_trailing_zeros word_bits rest)
    found h some =
        let next = next_bit word_bits (busy_of c) x rest left h some in
        let there = busy_there (count_trailing_zeros word_bits rest) next.set in
        record {
          small = next.small;
          from = next.from;
          there = there;
          uncut = run_uncut x (count_trailing_zeros word_bits rest) (omega arith) next.quiet;
          left = next.left;
          falls = next.falls;
        }
