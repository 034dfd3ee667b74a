-- Lines read from the front of a text, with the number of the first that is malformed.
use Rattle.std.specs.Prelude.{List, [], ◌∷◌, ℕ, zero, suc, ◌+◌}
use Rattle.reading.specs.Reading.{Got, bad, got}

-- the number of the first line that is malformed; or what the lines say, and the rest of the text
pub data Lined (A : Type 0) : Type 0 where
  wrong : ℕ → Lined A
  lined : A → List ℕ → Lined A

-- some lines and then others, which may depend on the first
unfoldable pub following : {A B : Type 0} → (A → List ℕ → Lined B) → Lined A → Lined B
following next (wrong line) = wrong line
following next (lined a rest) = next a rest

-- one line, which has this number
unfoldable pub read_line : {A : Type 0} → ℕ → Got A → Lined A
read_line line bad = wrong line
read_line line (got a rest) = lined a rest

-- so many lines, the first of which has this number. Each is read with a bound, which the line before it sets
unfoldable pub read_lines : {A : Type 0} → (ℕ → List ℕ → Got A) → (A → ℕ) → ℕ → ℕ → ℕ → List ℕ → Lined (List A)
read_lines one next zero bound line bs = lined [] bs
read_lines one next (suc k) bound line bs =
    following (λ a rest. following (λ xs rest. lined (a ∷ xs) rest) (read_lines one next k (next a) (line + 1) rest)) (read_line line (one bound bs))

-- nothing follows: bytes behind the last line are a line of their own, and malformed
unfoldable pub read_end : {A : Type 0} → ℕ → A → List ℕ → Lined A
read_end line a [] = lined a []
read_end line a (b ∷ bs) = wrong line
