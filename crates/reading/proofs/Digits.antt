-- Numbers in decimal: reading against writing, for any bound.
use mathlib.Core.Path.{◌≡◌, refl, sym, ◌∙◌}
use mathlib.Core.List.{List, [], ◌∷◌, ◌++◌, append_assoc}
use mathlib.Core.Bool.{Bool, true, false}
use Prim.Native.Nat.{ℕ, zero, suc, ◌+◌, ◌*◌, ◌-◌, ◌/◌, ◌%◌, ◌≤◌, ◌<◌}
use native.Mathlib.Decide.{dec_lt, ℕ_discrete}
use native.Mathlib.Omega.{arith}
use lib.Dec.{leb}
use borrow.Author.Tests.{le-leb, lt-leb, leb-true, leb-false, eq-eqb, ne_eqb}
use Rattle.lines.specs.Decimal.{digit_zero, digit, is_digit, decimal_to, decimal}
use Rattle.lines.proofs.Decimals.{digit_of, of_digit, one_digit, more_digits, decimal_one, decimal_more}
use Rattle.reading.specs.Reading.{Got, bad, got, digits_on, read_number}

-- nothing was read where something was
pub never : {A B : Type 0} {a : A} {rest : List ℕ} → ◌≡◌ {A = Got A} bad (got a rest) → B
never {a = a} {rest = rest} e = let z : ◌≡◌ {A = ℕ} 0 1 = cc in absurd (omega arith)

-- what a byte does to a number that is being read
module _ (most n b : ℕ) (bs : List ℕ) where
  pub digits_stop : is_digit b ≡ false → digits_on most n (b ∷ bs) ≡ got n (b ∷ bs)
  unfolding digits_on
  digits_stop h = rw h

  module _ (h : is_digit b ≡ true) where
    pub digits_over : most < 10 * n + (b - digit_zero) → digits_on most n (b ∷ bs) ≡ bad
    unfolding digits_on
    digits_over l = rw (h, lt-leb (10 * n + (b - digit_zero)) most l)

    pub digits_next : 10 * n + (b - digit_zero) ≤ most → digits_on most n (b ∷ bs) ≡ digits_on most (10 * n + (b - digit_zero)) bs
    unfolding digits_on
    digits_next l = rw (h, le-leb (10 * n + (b - digit_zero)) most l)

-- what the first byte says
module _ (most b : ℕ) (bs : List ℕ) where
  pub number_zero : b ≡ digit_zero → read_number most (b ∷ bs) ≡ got 0 bs
  unfolding read_number
  number_zero e = rw (eq-eqb b digit_zero e)

  module _ (ne : b ≡ digit_zero → ⊥) where
    pub number_none : is_digit b ≡ false → read_number most (b ∷ bs) ≡ bad
    unfolding read_number
    number_none h = rw (ne_eqb b digit_zero ne, h)

    pub number_starts : is_digit b ≡ true → read_number most (b ∷ bs) ≡ digits_on most (b - digit_zero) bs
    unfolding read_number
    number_starts h = rw (ne_eqb b digit_zero ne, h)

pub number_empty : (most : ℕ) → read_number most [] ≡ bad
unfolding read_number
number_empty most = refl

-- a text that does not go on with a digit
abbrev pub NoDigit : List ℕ → Type 0
NoDigit [] = Unit {0}
NoDigit (b ∷ bs) = is_digit b ≡ false

pub digits_done : (most n : ℕ) (rest : List ℕ) → NoDigit rest → digits_on most n rest ≡ got n rest
unfolding digits_on
digits_done most n [] h = refl
digits_done most n (b ∷ bs) h = digits_stop most n b bs h

-- reading what was written, up to the place behind it
written_on : (most k n : ℕ) (rest : List ℕ) → n < k → 0 < n → n ≤ most → read_number most (decimal_to k n ++ rest) ≡ digits_on most n rest
written_on most zero n rest l p h = absurd (omega arith)
written_on most (suc k) n rest l p h =
    go (dec_lt n 10) (λ t. written_on most k (n / 10) (digit (n % 10) ∷ rest) (omega arith) (omega arith) (omega arith))
  where
    go : Dec (n < 10) → (10 ≤ n → read_number most (decimal_to k (n / 10) ++ (digit (n % 10) ∷ rest)) ≡ digits_on most (n / 10) (digit (n % 10) ∷ rest)) → read_number most (decimal_to (suc k) n ++ rest) ≡ digits_on most n rest
    go (yes s) tens =
        let e : digit n - digit_zero ≡ n = omega arith in
        rw (one_digit k n s) (number_starts most (digit n) rest (λ z. absurd (omega arith)) (digit_of n s) ∙ rw e)
    go (no g) tens =
        let e : 10 * (n / 10) + (digit (n % 10) - digit_zero) ≡ n = omega arith in
        rw (more_digits k n (omega arith), append_assoc) (tens (omega arith) ∙ (digits_next most (n / 10) (digit (n % 10)) rest (digit_of (n % 10) (omega arith)) (omega arith) ∙ rw e))

-- reading what was written gives the number back
pub number_written : (most n : ℕ) (rest : List ℕ) → n ≤ most → NoDigit rest → read_number most (decimal n ++ rest) ≡ got n rest
unfolding decimal
number_written most zero rest h s = rw (decimal_one 0 (omega arith)) (number_zero most digit_zero rest refl)
number_written most (suc n) rest h s = written_on most (suc (suc n)) (suc n) rest (omega arith) (omega arith) h ∙ digits_done most (suc n) rest s

-- a number and its next digit
decimal_next : (n d : ℕ) → 0 < n → d < 10 → decimal (10 * n + d) ≡ decimal n ++ (digit d ∷ [])
decimal_next n d p l =
    let e : (10 * n + d) / 10 ≡ n = omega arith in
    let r : (10 * n + d) % 10 ≡ d = omega arith in
    decimal_more (10 * n + d) (omega arith) ∙ rw (e, r)

-- writing what was read gives the bytes back
digits_read : (most v n : ℕ) (bs rest : List ℕ) → 0 < v → digits_on most v bs ≡ got n rest → decimal v ++ bs ≡ decimal n ++ rest
digits_read most v n [] rest p h = same (sym (digits_done most v [] tt) ∙ h)
  where
    same : got v [] ≡ got n rest → decimal v ++ [] ≡ decimal n ++ rest
    same e = cc
digits_read most v n (b ∷ bs) rest p h =
    go (is_digit b) refl (leb (10 * v + (b - digit_zero)) most) refl (digits_read most (10 * v + (b - digit_zero)) n bs rest (omega arith))
  where
    same : got v (b ∷ bs) ≡ got n rest → decimal v ++ (b ∷ bs) ≡ decimal n ++ rest
    same e = cc

    go : (t : Bool) → is_digit b ≡ t → (u : Bool) → leb (10 * v + (b - digit_zero)) most ≡ u
        → (digits_on most (10 * v + (b - digit_zero)) bs ≡ got n rest → decimal (10 * v + (b - digit_zero)) ++ bs ≡ decimal n ++ rest)
        → decimal v ++ (b ∷ bs) ≡ decimal n ++ rest
    go false e u f further = same (sym (digits_stop most v b bs e) ∙ h)
    go true e true f further =
        let s = of_digit b e in
        let d : digit (b - digit_zero) ≡ b = omega arith in
        let r : decimal (10 * v + (b - digit_zero)) ≡ decimal v ++ (b ∷ []) = decimal_next v (b - digit_zero) p (omega arith) ∙ rw d in
        let t : (decimal v ++ (b ∷ [])) ++ bs ≡ decimal n ++ rest = rw r at (further (sym (digits_next most v b bs e (leb-true (10 * v + (b - digit_zero)) most f)) ∙ h)) in
        rw append_assoc at t
    go true e false f further = never (sym (digits_over most v b bs e (leb-false (10 * v + (b - digit_zero)) most f)) ∙ h)

pub number_read : (most n : ℕ) (bs rest : List ℕ) → read_number most bs ≡ got n rest → bs ≡ decimal n ++ rest
number_read most n [] rest h = never (sym (number_empty most) ∙ h)
number_read most n (b ∷ bs) rest h = go (ℕ_discrete b digit_zero) (is_digit b) refl
  where
    zeroed : got 0 bs ≡ got n rest → b ≡ digit_zero → b ∷ bs ≡ decimal n ++ rest
    zeroed e q =
        let m : 0 ≡ n = cc in
        let r : bs ≡ rest = cc in
        rw (sym m, decimal_one 0 (omega arith), q, r)

    go : Dec (b ≡ digit_zero) → (t : Bool) → is_digit b ≡ t → b ∷ bs ≡ decimal n ++ rest
    go (yes q) t e = zeroed (sym (number_zero most b bs q) ∙ h) q
    go (no ne) true e =
        let s = of_digit b e in
        let d : digit (b - digit_zero) ≡ b = omega arith in
        let r : decimal (b - digit_zero) ≡ b ∷ [] = decimal_one (b - digit_zero) (omega arith) ∙ rw d in
        rw r at (digits_read most (b - digit_zero) n bs rest (omega arith) (sym (number_starts most b bs ne e) ∙ h))
    go (no ne) false e = never (sym (number_none most b bs ne e) ∙ h)
