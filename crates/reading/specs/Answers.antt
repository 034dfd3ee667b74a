-- How the reading functions answer, at a place of a whole input.
use Rattle.std.specs.Prelude.{◌≡◌, List, ℕ, ◌≤◌, ℤ, nat_abs, length, drop, Option, Some, None, Result, Ok, Err, IfSome}
use Rattle.reading.specs.Reading.{Got, bad, got, GotRows, malformed, rows}

-- what was read, and the place behind it; or nothing
abbrev pub answered : {A : Type 0} → List ℕ → Option (A × ℕ) → Got A
answered input None = bad
answered input (Some r) = got r.0 (drop r.1 input)

-- the answer says what was read, of at most that size
pub record ReadsTo {A : Type 0} (size : A → ℕ) (input : List ℕ) (most : ℕ) (read : Got A) (r : Option (A × ℕ)) : Type 0 where
  pub same : read ≡ answered input r
  pub within : IfSome r (λ found. size found.0 ≤ most)
  pub inside : IfSome r (λ found. found.1 ≤ length input)

-- a number, and a signed number
abbrev pub Reads : List ℕ → ℕ → Got ℕ → Option (ℕ × ℕ) → Type 0
Reads input most read r = ReadsTo (λ n. n) input most read r

abbrev pub ReadsSigned : List ℕ → ℕ → Got ℤ → Option (ℤ × ℕ) → Type 0
ReadsSigned input most read r = ReadsTo nat_abs input most read r

-- a line, or a part of one, whose numbers stand in a room, and the place behind it; or nothing
abbrev pub answered_line : List ℕ → Option ℕ → List ℕ → Got (List ℕ)
answered_line input None numbers = bad
answered_line input (Some next) numbers = got numbers (drop next input)

-- the numbers of all lines stand in a room; or the malformed line
abbrev pub answered_rows : Result (Unit {0}) ℕ → List ℕ → GotRows
answered_rows (Ok done) numbers = rows numbers
answered_rows (Err line) numbers = malformed line
