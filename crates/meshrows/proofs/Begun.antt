-- A letter and a tab at a place of an input, and what is read behind them.
use mathlib.Core.Path.{◌≡◌, refl, ap, ◌∙◌}
use mathlib.Core.List.{List, [], ◌∷◌, ◌++◌}
use mathlib.Core.Bool.{true, false, cond}
use Prim.Native.Nat.{ℕ, ◌+◌, ◌≤◌, ◌<◌}
use native.Mathlib.Omega.{arith}
use lib.Dec.{eqb}
use lib.ListN.{length, get_or, drop, length-drop, length-append, drop_of_length-le}
use lib.Seq.{drop-drop}
use borrow.Author.Tests.{eq-eqb, ne_eqb}
use Rattle.lines.specs.Line.{tab}
use Rattle.lines.proofs.Bytes.{byte_at}
use Rattle.reading.specs.Reading.{Got, bad, got, read_lettered}
use Rattle.reading.proofs.Exact.{Exact}
use Rattle.meshrows.specs.Answers.{starts_with}

-- what stands at a place, byte by byte
module _ (letter : ℕ) (input : List ℕ) (from : ℕ) where
  pub starts_end : length input ≤ from → starts_with letter (drop from input) ≡ false
  unfolding starts_with
  starts_end l = rw (drop_of_length-le input l)

  module _ (l : from < length input) where
    pub starts_short : length input ≤ from + 1 → starts_with letter (drop from input) ≡ false
    unfolding starts_with
    starts_short m = rw (byte_at input from l, drop_of_length-le input {i = from + 1} m)

    pub starts_other : (get_or input from 0 ≡ letter → ⊥) → starts_with letter (drop from input) ≡ false
    unfolding starts_with
    starts_other ne = rw (byte_at input from l) (go (drop (from + 1) input))
      where
        go : (bs : List ℕ) → starts_with letter (get_or input from 0 ∷ bs) ≡ false
        go [] = refl
        go (c ∷ bs) = rw (ne_eqb (get_or input from 0) letter ne)

    pub starts_tab : get_or input from 0 ≡ letter → from + 1 < length input → starts_with letter (drop from input) ≡ eqb (get_or input (from + 1) 0) tab
    unfolding starts_with
    starts_tab q m = rw (byte_at input from l, byte_at input (from + 1) m, eq-eqb (get_or input from 0) letter q)

-- what is read behind them
lettered_begun : {A : Type 0} (letter : ℕ) (read : List ℕ → Got A) (bs : List ℕ) → read_lettered letter read bs ≡ cond (starts_with letter bs) (read (drop 2 bs)) bad
unfolding read_lettered starts_with
lettered_begun letter read [] = refl
lettered_begun letter read (b ∷ []) = refl
lettered_begun letter read (b ∷ c ∷ bs) = refl

module _ {A : Type 0} (letter : ℕ) (read : List ℕ → Got A) (input : List ℕ) (from : ℕ) where
  pub lettered_not : starts_with letter (drop from input) ≡ false → read_lettered letter read (drop from input) ≡ bad
  lettered_not e = lettered_begun letter read (drop from input) ∙ rw e

  pub lettered_is : starts_with letter (drop from input) ≡ true → read_lettered letter read (drop from input) ≡ read (drop (from + 2) input)
  lettered_is e = lettered_begun letter read (drop from input) ∙ rw (e, drop-drop 2 from input)

-- the place behind a line: no line is empty
pub behind_line : {A : Type 0} {read : List ℕ → Got A} {write : A → List ℕ} {Fits : A → Type 0} → Exact read write Fits → ((a : A) → 0 < length (write a)) → (input : List ℕ) (from : ℕ) (a : A) (next : ℕ)
    → read (drop from input) ≡ got a (drop next input) → next ≤ length input → (from < next) × (next ≤ length input)
behind_line {write = write} x some input from a next h m =
    let t : drop from input ≡ write a ++ drop next input = x.was a (drop from input) (drop next input) h in
    let n : length (drop from input) ≡ length (write a) + length (drop next input) = ap length t ∙ length-append (write a) (drop next input) in
    (omega (arith, some a, length-drop from input, length-drop next input), m)
