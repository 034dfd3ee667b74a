-- Numbers in decimal: what a digit is, and the last digit apart.
use mathlib.Core.Path.{◌≡◌, sym, ◌∙◌}
use mathlib.Core.List.{[], ◌∷◌, ◌++◌}
use mathlib.Core.Bool.{true}
use Prim.Native.Nat.{ℕ, zero, suc, ◌/◌, ◌%◌, ◌≤◌, ◌<◌}
use native.Mathlib.Decide.{dec_lt}
use native.Mathlib.Omega.{arith}
use lib.Dec.{leb}
use borrow.Author.Tests.{lt-ltb, le-ltb, le-leb, leb-true}
use Rattle.laws.proofs.Tests.{both}
use Rattle.lines.specs.Decimal.{digit_zero, digit, is_digit, decimal_to, decimal}

-- a digit is a byte from 48 to 57
pub digit_of : (d : ℕ) → d < 10 → is_digit (digit d) ≡ true
unfolding is_digit
digit_of d l = rw (le-leb digit_zero (digit d) (omega arith), le-leb (digit d) (digit 9) (omega arith))

pub of_digit : (b : ℕ) → is_digit b ≡ true → (digit_zero ≤ b) × (b ≤ (digit 9))
unfolding is_digit
of_digit b h =
    let s = both (leb digit_zero b) (leb b (digit 9)) h in
    (leb-true digit_zero b s.0, leb-true b (digit 9) s.1)

-- one digit, and more than one
pub one_digit : (k n : ℕ) → n < 10 → decimal_to (suc k) n ≡ digit n ∷ []
unfolding decimal_to
one_digit k n l = rw (lt-ltb n 10 l, decimal_to)

pub more_digits : (k n : ℕ) → 10 ≤ n → decimal_to (suc k) n ≡ decimal_to k (n / 10) ++ (digit (n % 10) ∷ [])
unfolding decimal_to
more_digits k n l = rw (le-ltb n 10 l, decimal_to)

-- how many digits are allowed for does not matter, if they are enough
allowed : (j k n : ℕ) → n < j → n < k → decimal_to j n ≡ decimal_to k n
allowed zero k n lj lk = absurd (omega arith)
allowed (suc j) zero n lj lk = absurd (omega arith)
allowed (suc j) (suc k) n lj lk = go (dec_lt n 10) (λ l. allowed j k (n / 10) (omega arith) (omega arith))
  where
    go : Dec (n < 10) → (10 ≤ n → decimal_to j (n / 10) ≡ decimal_to k (n / 10)) → decimal_to (suc j) n ≡ decimal_to (suc k) n
    go (yes l) tens = one_digit j n l ∙ sym (one_digit k n l)
    go (no g) tens = let l : 10 ≤ n = omega arith in more_digits j n l ∙ rw (tens l) (sym (more_digits k n l))

pub decimal_one : (n : ℕ) → n < 10 → decimal n ≡ digit n ∷ []
unfolding decimal
decimal_one n l = one_digit n n l

pub decimal_more : (n : ℕ) → 10 ≤ n → decimal n ≡ decimal (n / 10) ++ (digit (n % 10) ∷ [])
unfolding decimal
decimal_more n l = more_digits n n l ∙ rw (allowed n (suc (n / 10)) (n / 10) (omega arith) (omega arith))
