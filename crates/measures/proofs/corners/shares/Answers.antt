-- `measures::corners::shares` meets its contract.
use mathlib.Core.Path.{sym, ◌∙◌}
use native.Mathlib.Omega.{arith}
use Rattle.laws.proofs.Sizes.{held, sign_learnt}
use Rattle.measures.proofs.Ways.{first_negative, second_negative, third_negative, none_negative}
use Rattle.measures.proofs.corners.shares.Goals as goal

pub returns-then-is_negative : goal.returns-then-is_negative
returns-then-is_negative c =
    first_negative _ _ _ _ (sym (sign_learnt c.args.d.one (held c.args.d.one (omega (arith, c.requires.one))) c.is_negative.ensures) ∙ c.if-is_negative.true)

pub returns-then-is_negative-2 : goal.returns-then-is_negative-2
returns-then-is_negative-2 c =
    let one = c.is_negative in
    let two = c.is_negative-2 in
    second_negative _ _ _ _
    (sym (sign_learnt c.args.d.one (held c.args.d.one (omega (arith, c.requires.one))) one.ensures) ∙ c.if-is_negative.false)
    (sym (sign_learnt c.args.d.two (held c.args.d.two (omega (arith, c.requires.two))) two.ensures) ∙ c.if-is_negative-2.true)

pub returns-then-is_negative-3 : goal.returns-then-is_negative-3
returns-then-is_negative-3 c =
    let one = c.is_negative in
    let two = c.is_negative-2 in
    let three = c.is_negative-3 in
    third_negative _ _ _ _
    (sym (sign_learnt c.args.d.one (held c.args.d.one (omega (arith, c.requires.one))) one.ensures) ∙ c.if-is_negative.false)
    (sym (sign_learnt c.args.d.two (held c.args.d.two (omega (arith, c.requires.two))) two.ensures) ∙ c.if-is_negative-2.false)
    (sym (sign_learnt c.args.d.three (held c.args.d.three (omega (arith, c.requires.three))) three.ensures) ∙ c.if-is_negative-3.true)

pub returns : goal.returns
returns c =
    let one = c.is_negative in
    let two = c.is_negative-2 in
    let three = c.is_negative-3 in
    c.acute_shares.ensures
    ∙ none_negative _ _ _ _
    (sym (sign_learnt c.args.d.one (held c.args.d.one (omega (arith, c.requires.one))) one.ensures) ∙ c.if-is_negative.false)
    (sym (sign_learnt c.args.d.two (held c.args.d.two (omega (arith, c.requires.two))) two.ensures) ∙ c.if-is_negative-2.false)
    (sym (sign_learnt c.args.d.three (held c.args.d.three (omega (arith, c.requires.three))) three.ensures) ∙ c.if-is_negative-3.false)
