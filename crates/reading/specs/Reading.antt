-- Pieces read from the front of a text.
use Rattle.std.specs.Prelude.{List, [], ◌∷◌, ◌++◌, Bool, cond, ◌&&◌, ℕ, zero, suc, ◌+◌, ◌*◌, ◌-◌, ◌^◌, eqb, leb, ℤ, pos, negsuc}
use Rattle.lines.specs.Decimal.{digit, is_digit, minus_sign}
use Rattle.lines.specs.Line.{end_of, tab}

-- the largest number of 32 bits
abbrev pub most_word : ℕ
most_word = 2 ^ 32 - 1

-- what the text starts with, and the rest of it; or the text starts otherwise
pub data Got (A : Type 0) : Type 0 where
  bad : Got A
  got : A → List ℕ → Got A

-- one piece and then another, which may depend on the first
unfoldable pub after : {A B : Type 0} → (A → List ℕ → Got B) → Got A → Got B
after next bad = bad
after next (got a rest) = next a rest

-- n with as many further digits as stand there, while it is at most `most`
unfoldable pub digits_on : ℕ → ℕ → List ℕ → Got ℕ
digits_on most n [] = got n []
digits_on most n (b ∷ bs) =
    cond (is_digit b)
    (cond (leb (10 * n + (b - digit 0)) most) (digits_on most (10 * n + (b - digit 0)) bs) bad)
    (got n (b ∷ bs))

-- a number from 0 to `most`: `0`, or digits of which the first is not `0`
unfoldable pub read_number : ℕ → List ℕ → Got ℕ
read_number most [] = bad
read_number most (b ∷ bs) = cond (eqb b (digit 0)) (got 0 bs) (cond (is_digit b) (digits_on most (b - digit 0) bs) bad)

-- a signed number of at most that size: it has a minus sign if and only if it is negative, so that `-0` is none
unfoldable pub negated : ℕ → List ℕ → Got ℤ
negated zero rest = bad
negated (suc n) rest = got (negsuc n) rest

unfoldable pub read_signed : ℕ → List ℕ → Got ℤ
read_signed most [] = bad
read_signed most (b ∷ bs) =
    cond (eqb b minus_sign) (after negated (read_number most bs)) (after (λ n rest. got (pos n) rest) (read_number most (b ∷ bs)))

-- a number and the byte that ends it
unfoldable pub ended_by : {A : Type 0} → ℕ → A → List ℕ → Got A
ended_by end n [] = bad
ended_by end n (b ∷ rest) = cond (eqb b end) (got n rest) bad

unfoldable pub read_field : ℕ → ℕ → List ℕ → Got ℕ
read_field most end bs = after (ended_by end) (read_number most bs)

unfoldable pub read_signed_field : ℕ → ℕ → List ℕ → Got ℤ
read_signed_field most end bs = after (ended_by end) (read_signed most bs)

-- so many numbers that have `more` fields after them in their line
unfoldable pub read_fields : ℕ → ℕ → ℕ → List ℕ → Got (List ℕ)
read_fields most more zero bs = got [] bs
read_fields most more (suc k) bs =
    after (λ n rest. after (λ ns rest. got (n ∷ ns) rest) (read_fields most more k rest)) (read_field most (end_of (k + more)) bs)

-- one piece and then another, put together
unfoldable pub read_both : {A B C : Type 0} → (A → B → C) → (List ℕ → Got A) → (List ℕ → Got B) → List ℕ → Got C
read_both build first second bs = after (λ a rest. after (λ b rest. got (build a b) rest) (second rest)) (first bs)

-- one piece behind a letter and a tab
unfoldable pub read_lettered : {A : Type 0} → ℕ → (List ℕ → Got A) → List ℕ → Got A
read_lettered letter read [] = bad
read_lettered letter read (b ∷ []) = bad
read_lettered letter read (b ∷ c ∷ bs) = cond (eqb b letter && eqb c tab) (read bs) bad

-- one piece, if it passes a test
unfoldable pub read_if : {A : Type 0} → (A → Bool) → (List ℕ → Got A) → List ℕ → Got A
read_if test read bs = after (λ a rest. cond (test a) (got a rest) bad) (read bs)

-- a line, or what is left of it, of so many numbers
unfoldable pub read_row : ℕ → ℕ → List ℕ → Got (List ℕ)
read_row most zero bs = got [] bs
read_row most (suc k) bs =
    after (λ n rest. after (λ ns rest. got (n ∷ ns) rest) (read_row most k rest)) (read_field most (end_of k) bs)

-- lines of so many numbers to the end of the text: their numbers, or the number of the first line that is malformed. After the last line,
-- bytes are a malformed line; before it, the end of the text is
pub data GotRows : Type 0 where
  malformed : ℕ → GotRows
  rows : List ℕ → GotRows

unfoldable pub ahead : List ℕ → GotRows → GotRows
ahead ns (malformed line) = malformed line
ahead ns (rows ms) = rows (ns ++ ms)

unfoldable pub line_then : ℕ → (List ℕ → GotRows) → Got (List ℕ) → GotRows
line_then line others bad = malformed line
line_then line others (got ns rest) = ahead ns (others rest)

unfoldable pub read_rows : ℕ → ℕ → ℕ → ℕ → List ℕ → GotRows
read_rows most width zero line [] = rows []
read_rows most width zero line (b ∷ bs) = malformed line
read_rows most width (suc k) line bs = line_then line (read_rows most width k (line + 1)) (read_row most width bs)
