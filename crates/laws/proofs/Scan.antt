-- A word whose set bits are passed from the lowest up: as many zeros as stand below the lowest say which it is, and it is cleared.
use mathlib.Core.Path.{◌≡◌, refl, ap, sym, ◌∙◌}
use mathlib.Core.Bool.{true, false, ◌&&◌, and_self, and-false}
use Prim.Native.Nat.{ℕ, zero, suc, ◌+◌, ◌-◌, ◌/◌, ◌%◌, ◌^◌, ◌<◌, ◌≤◌}
use native.Mathlib.Decide.{dec_lt}
use native.Mathlib.Nat.{mod-lt, pow-suc, pow-zero}
use native.Mathlib.Omega.{arith}
use borrow.Author.Tests.{le-leb, lt-leb, leb-true}
use lib.Bits.{bit_and, and_le_r}
use lib.Count.{count_trailing_zeros, under}
use lib.Dec.{eqb, leb, leb-zero, lit<}
use Rattle.laws.specs.Bits.{bit}
use Rattle.laws.proofs.Halves.{bit_of_zero}
use Rattle.laws.proofs.Tests.{both}
use Rattle.laws.proofs.Words.{bit_and_lem, bit_below, bit_lowest, lowest_small}

-- one taken away from a word clears its lowest set bit, which is at t, and leaves those above it
abbrev Below : ℕ → ℕ → Type 0
Below n t = (bit (n - 1) t ≡ false) × ((i : ℕ) → t < i → bit (n - 1) i ≡ bit n i)

below_one : (width n : ℕ) → n < 2 ^ width → (n ≡ 0 → ⊥) → Below n (count_trailing_zeros width n)
unfolding count_trailing_zeros bit
below_one zero n h z = absurd (z (omega (arith, pow-zero 2)))
below_one (suc width) n h z =
    go (n % 2) refl (mod-lt n (lit< tt)) (λ nonzero. below_one width (n / 2) (omega (arith, pow-suc 2 width)) nonzero)
  where
    go : (r : ℕ) → n % 2 ≡ r → r < 2 → ((n / 2 ≡ 0 → ⊥) → Below (n / 2) (count_trailing_zeros width (n / 2))) → Below n (under r (count_trailing_zeros width (n / 2)))
    go zero e l later =
        let half : (n - 1) / 2 ≡ n / 2 - 1 = omega (arith, z) in
        let rest = later (λ q. z (omega arith)) in
        (ap (λ m. bit m (count_trailing_zeros width (n / 2))) half ∙ rest.0, above half rest.1)
      where
        above : (n - 1) / 2 ≡ n / 2 - 1 → ((i : ℕ) → count_trailing_zeros width (n / 2) < i → bit (n / 2 - 1) i ≡ bit (n / 2) i)
            → (i : ℕ) → suc (count_trailing_zeros width (n / 2)) < i → bit (n - 1) i ≡ bit n i
        above half rest zero k = absurd (omega arith)
        above half rest (suc i) k = ap (λ m. bit m i) half ∙ rest i (omega arith)
    go (suc zero) e l later = (ap (λ r. eqb r 1) even, above)
      where
        even : (n - 1) % 2 ≡ 0
        even = omega arith

        above : (i : ℕ) → 0 < i → bit (n - 1) i ≡ bit n i
        above zero k = absurd (omega arith)
        above (suc i) k = let half : (n - 1) / 2 ≡ n / 2 = omega arith in ap (λ m. bit m i) half
    go (suc (suc r)) e l later = absurd (omega arith)

-- `rest` has the bits of the word from x on, and no others
abbrev pub Left : ℕ → ℕ → ℕ → Type 0
Left word x rest = (i : ℕ) → bit rest i ≡ (leb x i && bit word i)

pub left_all : (word : ℕ) → Left word 0 word
left_all word i = rw (leb-zero i)

-- where nothing is left, none is set from x on
pub none_left : (word x rest : ℕ) → Left word x rest → rest ≡ 0 → (i : ℕ) → x ≤ i → bit word i ≡ false
none_left word x rest left none i h = ap (λ t. t && bit word i) (sym (le-leb x i h)) ∙ sym (left i) ∙ ap (λ n. bit n i) none ∙ bit_of_zero i

-- The next set bit of the word from x on: it is at t, none is set before it, and once it is cleared the bits past it are left.
pub record NextBit (width word x rest t : ℕ) : Type 0 where
  pub small : t < width
  pub from : x ≤ t
  pub set : bit word t ≡ true
  pub quiet : (i : ℕ) → x ≤ i → i < t → bit word i ≡ false
  pub left : Left word (t + 1) (bit_and rest (rest - 1))
  pub falls : bit_and rest (rest - 1) < rest

module _ (width word x rest : ℕ) (left : Left word x rest) where
  abbrev t : ℕ
  t = count_trailing_zeros width rest

  pub next_bit : rest < 2 ^ width → (rest ≡ 0 → ⊥) → NextBit width word x rest t
  next_bit h some =
      record {
        small = lowest_small width rest h some;
        from = from;
        set = found.1;
        quiet = λ i l u. ap (λ b. b && bit word i) (sym (le-leb x i l)) ∙ sym (left i) ∙ bit_below width rest i u;
        left = λ i. bit_and_lem rest (rest - 1) i ∙ cleared i (dec_lt t i) (dec_lt i t);
        falls = omega (arith, and_le_r rest (rest - 1), some);
      }
    where
      after : Below rest t
      after = below_one width rest h some

      found : (leb x t ≡ true) × (bit word t ≡ true)
      found = both (leb x t) (bit word t) (sym (left t) ∙ bit_lowest width rest h some)

      from : x ≤ t
      from = leb-true x t found.0

      cleared : (i : ℕ) → Dec (t < i) → Dec (i < t) → (bit rest i && bit (rest - 1) i) ≡ (leb (t + 1) i && bit word i)
      cleared i (yes past) before =
          rw (after.1 i past, and_self (bit rest i), left i, le-leb x i (omega (arith, from)), le-leb (t + 1) i (omega arith))
      cleared i (no not-past) (yes before) = rw (bit_below width rest i before, lt-leb (t + 1) i (omega arith))
      cleared i (no not-past) (no not-before) =
          let q : i ≡ t = omega arith in
          rw (q, after.0, lt-leb (t + 1) t (omega arith)) (and-false (bit rest t))
