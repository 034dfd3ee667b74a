-- What is read at a place of an input, by the byte that stands there.
use mathlib.Core.Path.{◌≡◌}
use mathlib.Core.List.{List, []}
use mathlib.Core.Bool.{true, false}
use Rattle.std.specs.Prelude.{Some, None}
use Prim.Native.Nat.{ℕ, ◌+◌, ◌*◌, ◌-◌, ◌≤◌, ◌<◌}
use native.Mathlib.Omega.{arith}
use borrow.Author.Tests.{eq-eqb, ne_eqb}
use lib.ListN.{length, get_or, drop, drop_of_length-le}
use Rattle.lines.specs.Decimal.{digit_zero, is_digit}
use Rattle.reading.specs.Reading.{Got, bad, got, digits_on, read_number, after, ended_by, read_field}
use Rattle.reading.specs.Answers.{ReadsTo}
use Rattle.lines.proofs.Bytes.{byte_at}
use Rattle.reading.proofs.Digits.{digits_stop, digits_over, digits_next, digits_done, number_empty, number_zero, number_none, number_starts}

-- nothing was read, and so it is answered; or a value was, and the place behind it is
module _ {A : Type 0} {size : A → ℕ} {input : List ℕ} {most : ℕ} {read : Got A} where
  pub reads_nothing : read ≡ bad → ReadsTo size input most read None
  reads_nothing e = record { same = e; within = tt; inside = tt }

  pub reads : (v : A) (next : ℕ) → read ≡ got v (drop next input) → size v ≤ most → next ≤ length input → ReadsTo size input most read (Some (v, next))
  reads v next e w i = record { same = e; within = w; inside = i }

module _ (most v : ℕ) (input : List ℕ) (at : ℕ) where
  pub digits_end_at : length input ≤ at → digits_on most v (drop at input) ≡ got v (drop (length input) input)
  digits_end_at l =
      let m : length input ≤ length input = omega arith in
      rw (drop_of_length-le input l, drop_of_length-le input m) (digits_done most v [] tt)

  module _ (l : at < length input) where
    pub digits_stop_at : is_digit (get_or input at 0) ≡ false → digits_on most v (drop at input) ≡ got v (drop at input)
    digits_stop_at h = rw (byte_at input at l) (digits_stop most v (get_or input at 0) (drop (at + 1) input) h)

    module _ (h : is_digit (get_or input at 0) ≡ true) where
      pub digits_over_at : most < 10 * v + (get_or input at 0 - digit_zero) → digits_on most v (drop at input) ≡ bad
      digits_over_at o = rw (byte_at input at l) (digits_over most v (get_or input at 0) (drop (at + 1) input) h o)

      pub digits_next_at : 10 * v + (get_or input at 0 - digit_zero) ≤ most → digits_on most v (drop at input) ≡ digits_on most (10 * v + (get_or input at 0 - digit_zero)) (drop (at + 1) input)
      digits_next_at o = rw (byte_at input at l) (digits_next most v (get_or input at 0) (drop (at + 1) input) h o)

module _ (most : ℕ) (input : List ℕ) (at : ℕ) where
  pub number_end_at : length input ≤ at → read_number most (drop at input) ≡ bad
  number_end_at l = rw (drop_of_length-le input l) (number_empty most)

  module _ (l : at < length input) where
    pub number_zero_at : get_or input at 0 ≡ digit_zero → read_number most (drop at input) ≡ got 0 (drop (at + 1) input)
    number_zero_at e = rw (byte_at input at l) (number_zero most (get_or input at 0) (drop (at + 1) input) e)

    module _ (ne : get_or input at 0 ≡ digit_zero → ⊥) where
      pub number_none_at : is_digit (get_or input at 0) ≡ false → read_number most (drop at input) ≡ bad
      number_none_at h = rw (byte_at input at l) (number_none most (get_or input at 0) (drop (at + 1) input) ne h)

      pub number_starts_at : is_digit (get_or input at 0) ≡ true → read_number most (drop at input) ≡ digits_on most (get_or input at 0 - digit_zero) (drop (at + 1) input)
      number_starts_at h = rw (byte_at input at l) (number_starts most (get_or input at 0) (drop (at + 1) input) ne h)

-- a number and the byte behind it
pub field_none : (most end : ℕ) (bs : List ℕ) → read_number most bs ≡ bad → read_field most end bs ≡ bad
unfolding read_field after
field_none most end bs e = rw e

module _ (most end v at : ℕ) (input bs : List ℕ) where
  module _ (e : read_number most bs ≡ got v (drop at input)) where
    pub field_end_at : length input ≤ at → read_field most end bs ≡ bad
    unfolding read_field after ended_by
    field_end_at l = rw (e, drop_of_length-le input l)

    module _ (l : at < length input) where
      pub field_other_at : (get_or input at 0 ≡ end → ⊥) → read_field most end bs ≡ bad
      unfolding read_field after ended_by
      field_other_at ne = rw (e, byte_at input at l, ne_eqb (get_or input at 0) end ne)

      pub field_at : get_or input at 0 ≡ end → read_field most end bs ≡ got v (drop (at + 1) input)
      unfolding read_field after ended_by
      field_at q = rw (e, byte_at input at l, eq-eqb (get_or input at 0) end q)
