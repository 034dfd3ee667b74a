-- `reading::read_digits` meets its contract: what is read from the start is what is read from here on.
use mathlib.Core.Path.{sym, ◌∙◌}
use native.Mathlib.Omega.{arith}
use Rattle.lines.proofs.Decimals.{of_digit}
use Rattle.reading.proofs.Places.{reads_nothing, reads, digits_end_at, digits_stop_at, digits_over_at, digits_next_at}
use Rattle.reading.proofs.read_digits.Goals as goal

pub returns-then-not-is_digit : goal.returns-then-not-is_digit
returns-then-not-is_digit c =
    reads _ _ (c.loop-at.invariant.1 ∙ digits_stop_at _ c.loop-at.value c.args.input.now c.loop-at.at (omega arith) (sym c.is_digit.ensures ∙ c.if-not-is_digit.true)) (omega arith) (omega arith)

pub overflow_sub-digit : goal.overflow_sub-digit
overflow_sub-digit c = omega (arith, of_digit _ (sym c.is_digit.ensures ∙ c.if-not-is_digit.false))

pub returns-then-value-tenth : goal.returns-then-value-tenth
returns-then-value-tenth c =
    let d = sym c.is_digit.ensures ∙ c.if-not-is_digit.false in
    reads_nothing (c.loop-at.invariant.1 ∙ digits_over_at _ c.loop-at.value c.args.input.now c.loop-at.at (omega arith) d (omega (arith, of_digit _ d)))

pub returns-then-value-most : goal.returns-then-value-most
returns-then-value-most c =
    reads_nothing (c.loop-at.invariant.1 ∙ digits_over_at _ c.loop-at.value c.args.input.now c.loop-at.at (omega arith) (sym c.is_digit.ensures ∙ c.if-not-is_digit.false) c.if-value-most.true)

pub loop-at-preserved : goal.loop-at-preserved
loop-at-preserved c =
    (c.if-value-most.false, c.loop-at.invariant.1 ∙ digits_next_at _ c.loop-at.value c.args.input.now c.loop-at.at (omega arith) (sym c.is_digit.ensures ∙ c.if-not-is_digit.false) c.if-value-most.false)

pub returns : goal.returns
returns c = reads _ _ (c.loop-at.invariant.1 ∙ digits_end_at _ c.loop-at.value c.args.input.now c.loop-at.at c.loop-at-test.false) c.loop-at.invariant.0 (omega arith)
