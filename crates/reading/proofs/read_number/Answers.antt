-- `reading::read_number` meets its contract: the first byte decides.
use mathlib.Core.Path.{sym, ◌∙◌}
use native.Mathlib.Omega.{arith}
use Rattle.lines.proofs.Decimals.{of_digit}
use Rattle.reading.proofs.Places.{reads_nothing, reads, number_end_at, number_zero_at, number_none_at, number_starts_at}
use Rattle.reading.proofs.read_number.Goals as goal

pub returns-then-from-input : goal.returns-then-from-input
returns-then-from-input c = reads_nothing (number_end_at _ c.args.input.now _ c.if-from-input.true)

pub returns-then-byte-eq48 : goal.returns-then-byte-eq48
returns-then-byte-eq48 c = reads _ _ (number_zero_at _ c.args.input.now _ (omega arith) c.if-byte-eq48.true) (omega arith) (omega arith)

pub returns-then-not-is_digit : goal.returns-then-not-is_digit
returns-then-not-is_digit c =
    reads_nothing (number_none_at _ c.args.input.now _ (omega arith) c.if-byte-eq48.false (sym c.is_digit.ensures ∙ c.if-not-is_digit.true))

pub overflow_sub-first : goal.overflow_sub-first
overflow_sub-first c = omega (arith, of_digit _ (sym c.is_digit.ensures ∙ c.if-not-is_digit.false))

pub read_digits-requires : goal.read_digits-requires
read_digits-requires c = omega (arith, of_digit _ (sym c.is_digit.ensures ∙ c.if-not-is_digit.false))

pub returns : goal.returns
returns c =
    let d = sym c.is_digit.ensures ∙ c.if-not-is_digit.false in
    rw (number_starts_at _ c.args.input.now _ (omega arith) c.if-byte-eq48.false d) c.read_digits.ensures
