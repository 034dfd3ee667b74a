-- Pieces put together, by what was answered of each.
use mathlib.Core.Path.{◌≡◌, ◌∙◌}
use mathlib.Core.List.{List}
use mathlib.Core.Bool.{Bool, true, false}
use Prim.Native.Nat.{ℕ, ◌+◌}
use lib.ListN.{drop}
use Rattle.reading.specs.Reading.{most_word, Got, bad, got, after, read_fields, read_both, read_lettered, read_if, read_row}
use Rattle.reading.proofs.Fields.{row_fields}
use Rattle.meshrows.specs.Answers.{starts_with}
use Rattle.meshrows.proofs.Begun.{lettered_is}

-- a line of numbers behind a letter and a tab
pub row_begun : (letter k : ℕ) (input : List ℕ) (from : ℕ) → starts_with letter (drop from input) ≡ true → {read : Got (List ℕ)} → read_fields most_word 0 k (drop (from + 2) input) ≡ read
    → read_lettered letter (read_row most_word k) (drop from input) ≡ read
row_begun letter k input from e h = lettered_is letter (read_row most_word k) input from e ∙ row_fields most_word k (drop (from + 2) input) ∙ h

-- a piece with a test
pub if_not : {A : Type 0} (test : A → Bool) (read : List ℕ → Got A) (bs : List ℕ) → read bs ≡ bad → read_if test read bs ≡ bad
unfolding read_if after
if_not test read bs h = rw h

module _ {A : Type 0} (test : A → Bool) (read : List ℕ → Got A) (bs rest : List ℕ) (a : A) (h : read bs ≡ got a rest) where
  pub if_fails : test a ≡ false → read_if test read bs ≡ bad
  unfolding read_if after
  if_fails e = rw (h, e)

  pub if_passes : test a ≡ true → read_if test read bs ≡ got a rest
  unfolding read_if after
  if_passes e = rw (h, e)

-- two pieces
module _ {A B C : Type 0} (build : A → B → C) (first : List ℕ → Got A) (second : List ℕ → Got B) (bs : List ℕ) where
  pub both_not : first bs ≡ bad → read_both build first second bs ≡ bad
  unfolding read_both after
  both_not h = rw h

  module _ (a : A) (rest : List ℕ) (h : first bs ≡ got a rest) where
    both_first : read_both build first second bs ≡ after (λ b rest. got (build a b) rest) (second rest)
    unfolding read_both after
    both_first = rw h

    pub both_second_not : second rest ≡ bad → read_both build first second bs ≡ bad
    unfolding after
    both_second_not e = both_first ∙ rw e

    pub both_got : (b : B) (more : List ℕ) → second rest ≡ got b more → read_both build first second bs ≡ got (build a b) more
    unfolding after
    both_got b more e = both_first ∙ rw e
