-- `writing::fields_length` meets its contract: no number is longer than the longest, so that the sum fits.
use mathlib.Core.Path.{ap}
use Prim.Native.Nat.{◌-◌, ◌≤◌}
use native.Mathlib.Omega.{arith}
use lib.ListN.{length, get_or}
use Rattle.grid.specs.Limits.{word_digits}
use Rattle.lines.specs.Decimal.{decimal}
use Rattle.writing.proofs.Fields.{digits_most, fields_length, fields_end}
use Rattle.writing.proofs.fields_length.Goals as goal
use Rattle.writing.proofs.fields_length.Goals.{After-digit_count}

short : (c : After-digit_count) → length (decimal (get_or c.args.numbers.now c.loop-x.x-index 0)) ≤ word_digits
short c =
    let n = get_or c.args.numbers.now c.loop-x.x-index 0 in
    digits_most (word_digits - 1) n (omega arith)

pub overflow_add-sum : goal.overflow_add-sum
overflow_add-sum c =
    omega (arith, c.digit_count.ensures, short (goal.at.overflow_add-sum c).After-digit_count)

pub overflow_add-sum-in-loop-x : goal.overflow_add-sum-in-loop-x
overflow_add-sum-in-loop-x c =
    omega (arith, c.digit_count.ensures, short (goal.at.overflow_add-sum-in-loop-x c).After-digit_count)

pub loop-x-preserved : goal.loop-x-preserved
loop-x-preserved c =
    let ns = c.args.numbers.now in
    omega (arith, c.digit_count.ensures, short (goal.at.loop-x-preserved c).After-digit_count, fields_length 0 ns c.loop-x.x-index (omega arith))

pub returns : goal.returns
returns c = record { length = omega (arith, ap length (fields_end 0 c.args.numbers.now c.loop-x.x-index c.loop-x-test.false)); small = omega arith }
