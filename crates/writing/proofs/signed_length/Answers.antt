-- `writing::signed_length` meets its contract: the digits of the size, and one byte for a minus sign.
use mathlib.Core.Path.{◌≡◌, ap, sym, ◌∙◌}
use native.Mathlib.Omega.{arith}
use lib.IntN.{nat_abs}
use lib.ListN.{length}
use Rattle.lines.specs.Decimal.{decimal}
use Rattle.writing.proofs.Signs.{signed_plain, signed_minus, size_learnt, size_digits}
use Rattle.laws.proofs.Sizes.{sign_learnt}
use Rattle.writing.proofs.signed_length.Goals as goal
use Rattle.writing.proofs.signed_length.Goals.{After-digit_count-count}

module _ (c : After-digit_count-count) where
  counted : c.digit_count-count.result ≡ length (decimal (nat_abs c.args.n))
  counted = c.digit_count-count.ensures ∙ ap (λ m. length (decimal m)) (size_learnt c.args.n c.ranges.n c.size.ensures)

pub overflow_add-result : goal.overflow_add-result
overflow_add-result c =
    record { fits = omega (arith, counted (goal.at.overflow_add-result c).After-digit_count-count, size_digits c.args.n c.ranges.n) }

pub returns-then-is_negative : goal.returns-then-is_negative
returns-then-is_negative c =
    let n = c.args.n in
    let e = signed_minus n (sym (sign_learnt n c.ranges.n.sfits c.is_negative.ensures) ∙ c.if-is_negative.true) in
    omega (arith, counted (goal.at.returns-then-is_negative c).After-digit_count-count, size_digits n c.ranges.n, ap length e)

pub returns : goal.returns
returns c =
    let n = c.args.n in
    let e = signed_plain n (sym (sign_learnt n c.ranges.n.sfits c.is_negative.ensures) ∙ c.if-is_negative.false) in
    omega (arith, counted (goal.at.returns c).After-digit_count-count, size_digits n c.ranges.n, ap length e)
