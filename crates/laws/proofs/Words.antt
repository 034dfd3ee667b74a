-- The bits of words: of two words' and, or and exclusive or, of half a word, below a word's lowest set bit, and of a power of two; and when an or and an exclusive or are 0.
use mathlib.Core.Path.{◌≡◌, refl, ap, sym, ◌∙◌}
use mathlib.Core.Bool.{Bool, true, false, ◌&&◌, ◌||◌, xor, true≢false}
use Prim.Native.Nat.{ℕ, zero, suc, ◌+◌, ◌*◌, ◌/◌, ◌%◌, ◌^◌, ◌<◌, min, max}
use native.Mathlib.Nat.{mod-lt, pow-suc, pow-zero}
use native.Mathlib.Numerals.{add-one}
use native.Mathlib.Omega.{arith}
use lib.Bits.{bit_and, bit_or, bit_xor, differ, and_step, or_step, xor_step, or_zero_l, or_add_and, xor_add_and, xor_self, and_le_l, and_le_r}
use lib.Count.{count_trailing_zeros, under}
use lib.Dec.{eqb, lit<}
use borrow.Author.Tests.{eqb-true, eqb-false, ne_eqb}
use Rattle.laws.specs.Bits.{bit}
use Rattle.laws.proofs.Tests.{both, neither, alike, eqb_same}
use Rattle.laws.proofs.Halves.{bit_of_zero}

low_is : (q d : ℕ) → d < 2 → eqb ((q * 2 + d) % 2) 1 ≡ eqb d 1
low_is q d h = let m : (q * 2 + d) % 2 ≡ d = omega arith in rw m

rest_is : (q d : ℕ) → d < 2 → (q * 2 + d) / 2 ≡ q
rest_is q d h = omega arith

digit_xor : (r s : ℕ) → r < 2 → s < 2 → (differ r s < 2) × (eqb (differ r s) 1 ≡ xor (eqb r 1) (eqb s 1))
unfolding xor
digit_xor zero zero h l = (lit< tt, refl)
digit_xor zero (suc zero) h l = (lit< tt, refl)
digit_xor zero (suc (suc s)) h l = absurd (omega arith)
digit_xor (suc zero) zero h l = (lit< tt, refl)
digit_xor (suc zero) (suc zero) h l = (lit< tt, refl)
digit_xor (suc zero) (suc (suc s)) h l = absurd (omega arith)
digit_xor (suc (suc r)) s h l = absurd (omega arith)

digit_or : (r s : ℕ) → r < 2 → s < 2 → (max r s < 2) × (eqb (max r s) 1 ≡ (eqb r 1 || eqb s 1))
digit_or zero zero h l = (lit< tt, refl)
digit_or zero (suc zero) h l = (lit< tt, refl)
digit_or zero (suc (suc s)) h l = absurd (omega arith)
digit_or (suc zero) zero h l = (lit< tt, refl)
digit_or (suc zero) (suc zero) h l = (lit< tt, refl)
digit_or (suc zero) (suc (suc s)) h l = absurd (omega arith)
digit_or (suc (suc r)) s h l = absurd (omega arith)

digit_and : (r s : ℕ) → r < 2 → s < 2 → (min r s < 2) × (eqb (min r s) 1 ≡ (eqb r 1 && eqb s 1))
digit_and zero zero h l = (lit< tt, refl)
digit_and zero (suc zero) h l = (lit< tt, refl)
digit_and zero (suc (suc s)) h l = absurd (omega arith)
digit_and (suc zero) zero h l = (lit< tt, refl)
digit_and (suc zero) (suc zero) h l = (lit< tt, refl)
digit_and (suc zero) (suc (suc s)) h l = absurd (omega arith)
digit_and (suc (suc r)) s h l = absurd (omega arith)

-- an operation on words that goes digit by digit, f on digits and b on bits
module _ (op f : ℕ → ℕ → ℕ) (b : Bool → Bool → Bool) (step : (m n : ℕ) → op m n ≡ op (m / 2) (n / 2) * 2 + f (m % 2) (n % 2))
    (digit : (r s : ℕ) → r < 2 → s < 2 → (f r s < 2) × (eqb (f r s) 1 ≡ b (eqb r 1) (eqb s 1))) where
  by_digits : (m n i : ℕ) → bit (op m n) i ≡ b (bit m i) (bit n i)
  unfolding bit
  by_digits m n zero =
      let d = digit (m % 2) (n % 2) (mod-lt m (lit< tt)) (mod-lt n (lit< tt)) in
      ap (λ k. eqb (k % 2) 1) (step m n) ∙ low_is (op (m / 2) (n / 2)) (f (m % 2) (n % 2)) d.0 ∙ d.1
  by_digits m n (suc i) =
      let d = digit (m % 2) (n % 2) (mod-lt m (lit< tt)) (mod-lt n (lit< tt)) in
      ap (λ k. bit (k / 2) i) (step m n)
      ∙ ap (λ k. bit k i) (rest_is (op (m / 2) (n / 2)) (f (m % 2) (n % 2)) d.0)
      ∙ by_digits (m / 2) (n / 2) i

pub bit_xor_lem : (m n i : ℕ) → bit (bit_xor m n) i ≡ xor (bit m i) (bit n i)
bit_xor_lem = by_digits bit_xor differ xor xor_step digit_xor

pub bit_or_lem : (m n i : ℕ) → bit (bit_or m n) i ≡ (bit m i || bit n i)
bit_or_lem = by_digits bit_or max ◌||◌ or_step digit_or

pub bit_and_lem : (m n i : ℕ) → bit (bit_and m n) i ≡ (bit m i && bit n i)
bit_and_lem = by_digits bit_and min ◌&&◌ and_step digit_and

-- the bit of half a word is the next one of the word
pub bit_half : (n x : ℕ) → bit (n / 2) x ≡ bit n (x + 1)
unfolding bit
bit_half n x = rw (add-one x)

-- what a bit of an or, an exclusive or or an and tells of the two words
module _ (m n x : ℕ) where
  pub or_clear : bit (bit_or m n) x ≡ false → (bit m x ≡ false) × (bit n x ≡ false)
  or_clear h = neither (bit m x) (bit n x) (sym (bit_or_lem m n x) ∙ h)

  pub xor_clear : bit (bit_xor m n) x ≡ false → bit m x ≡ bit n x
  xor_clear h = alike (bit m x) (bit n x) (sym (bit_xor_lem m n x) ∙ h)

  pub and_clear : bit (bit_and m n) x ≡ false → bit n x ≡ true → bit m x ≡ false
  and_clear h t = not_first (bit m x) (bit n x) (sym (bit_and_lem m n x) ∙ h) t
    where
      not_first : (a b : Bool) → (a && b) ≡ false → b ≡ true → a ≡ false
      not_first true b h t = absurd (true≢false (sym t ∙ h))
      not_first false b h t = refl

  pub and_set : bit (bit_and m n) x ≡ true → bit n x ≡ true
  and_set h = (both (bit m x) (bit n x) (sym (bit_and_lem m n x) ∙ h)).1

-- below its lowest set bit a word has none
pub bit_below : (width n i : ℕ) → i < count_trailing_zeros width n → bit n i ≡ false
unfolding count_trailing_zeros bit
bit_below zero n i l = absurd (omega arith)
bit_below (suc width) n i l = go (n % 2) refl i l (λ j h. bit_below width (n / 2) j h)
  where
    go : (r : ℕ) → n % 2 ≡ r → (i : ℕ) → i < under r (count_trailing_zeros width (n / 2)) → ((j : ℕ) → j < count_trailing_zeros width (n / 2) → bit (n / 2) j ≡ false)
        → bit n i ≡ false
    go zero e zero h below = ap (λ r. eqb r 1) e
    go zero e (suc j) h below = below j (omega arith)
    go (suc r) e i h below = absurd (omega arith)

-- a word that is not 0 has a lowest set bit among its own
pub lowest_small : (width n : ℕ) → n < 2 ^ width → (n ≡ 0 → ⊥) → count_trailing_zeros width n < width
unfolding count_trailing_zeros
lowest_small zero n h z = absurd (z (omega (arith, pow-zero 2)))
lowest_small (suc width) n h z =
    go (n % 2) refl (λ nonzero. lowest_small width (n / 2) (omega (arith, pow-suc 2 width)) nonzero)
  where
    go : (r : ℕ) → n % 2 ≡ r → ((n / 2 ≡ 0 → ⊥) → count_trailing_zeros width (n / 2) < width) → under r (count_trailing_zeros width (n / 2)) < suc width
    go zero e later = omega (arith, later (λ h. z (omega arith)))
    go (suc r) e later = omega arith

-- at its lowest set bit it has one
pub bit_lowest : (width n : ℕ) → n < 2 ^ width → (n ≡ 0 → ⊥) → bit n (count_trailing_zeros width n) ≡ true
unfolding count_trailing_zeros bit
bit_lowest zero n h z = absurd (z (omega (arith, pow-zero 2)))
bit_lowest (suc width) n h z =
    go (n % 2) refl (mod-lt n (lit< tt)) (λ nonzero. bit_lowest width (n / 2) (omega (arith, pow-suc 2 width)) nonzero)
  where
    go : (r : ℕ) → n % 2 ≡ r → r < 2 → ((n / 2 ≡ 0 → ⊥) → bit (n / 2) (count_trailing_zeros width (n / 2)) ≡ true)
        → bit n (under r (count_trailing_zeros width (n / 2))) ≡ true
    go zero e l later = later (λ h. z (omega arith))
    go (suc zero) e l later = ap (λ r. eqb r 1) e
    go (suc (suc r)) e l later = absurd (omega arith)

-- a power of two has one bit
pub bit_power : (x a : ℕ) → bit (2 ^ x) a ≡ eqb a x
unfolding bit
bit_power zero zero = refl
bit_power (suc x) zero = rw (pow-suc 2 x) (ne_eqb (2 ^ x * 2 % 2) 1 (λ e. omega (arith, e)) ∙ sym (ne_eqb 0 (suc x) (λ e. omega arith)))
bit_power zero (suc a) = bit_of_zero a ∙ sym (ne_eqb (suc a) 0 (λ e. omega arith))
bit_power (suc x) (suc a) =
    let e : 2 ^ suc x / 2 ≡ 2 ^ x = omega (arith, pow-suc 2 x) in
    rw e (bit_power x a ∙ eqb_same a x (suc a) (suc x) (λ e. omega arith) (λ e. omega arith))

-- an or and an exclusive or that are 0
pub or_is_zero : (a b : ℕ) → eqb (bit_or a b) 0 ≡ (eqb a 0 && eqb b 0)
or_is_zero a b = go (eqb a 0) refl
  where
    go : (t : Bool) → eqb a 0 ≡ t → eqb (bit_or a b) 0 ≡ (t && eqb b 0)
    go true e = rw (eqb-true a 0 e, or_zero_l b)
    go false e = ne_eqb (bit_or a b) 0 (λ h. eqb-false a 0 e (omega (arith, or_add_and a b, and_le_r a b)))

pub xor_is_zero : (a b : ℕ) → eqb (bit_xor a b) 0 ≡ eqb a b
xor_is_zero a b = eqb_same (bit_xor a b) 0 a b (λ h. omega (arith, xor_add_and a b, and_le_l a b, and_le_r a b)) (λ h. rw h (xor_self b))
