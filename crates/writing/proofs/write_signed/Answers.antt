-- `writing::write_signed` meets its contract: a minus sign if there is one, then the size as a field.
use mathlib.Core.Path.{◌≡◌, ap, sym, ◌∙◌}
use mathlib.Core.List.{◌++◌, ◌∷◌, []}
use mathlib.Core.Bool.{true}
use Prim.Native.Nat.{◌+◌}
use native.Mathlib.Omega.{arith}
use lib.IntN.{nat_abs}
use lib.ListN.{length, set, length-set}
use lib.Seq.{sets}
use Rattle.laws.specs.Signed.{negative}
use Rattle.lines.specs.Decimal.{minus_sign, decimal, signed}
use Rattle.writing.proofs.Signs.{signed_plain, signed_minus, size_learnt, minus_first}
use Rattle.laws.proofs.Sizes.{sign_learnt}
use Rattle.writing.proofs.write_signed.Goals as goal
use Rattle.writing.proofs.write_signed.Goals.{After-is_negative, After-size, After-size-2}

module _ (c : After-is_negative) where
  known : c.is_negative.result ≡ negative c.args.n
  known = sign_learnt c.args.n c.ranges.n.sfits c.is_negative.ensures

  long : c.is_negative.result ≡ true → length (signed c.args.n) ≡ 1 + length (decimal (nat_abs c.args.n))
  long e = ap length (signed_minus c.args.n (sym known ∙ e)) ∙ omega arith

measured : (c : After-size) → c.size.result ≡ nat_abs c.args.n
measured c = size_learnt c.args.n c.ranges.n c.size.ensures

pub write_field-requires : goal.write_field-requires
write_field-requires c =
    omega (arith, c.requires, long (goal.at.write_field-requires c).After-is_negative c.if-is_negative.true, ap (λ m. length (decimal m)) (measured (goal.at.write_field-requires c).After-size), length-set c.args.room.now c.args.at minus_sign)

pub shape_of-room-then-is_negative : goal.shape_of-room-then-is_negative
shape_of-room-then-is_negative c =
    c.write_field.auto.room ∙ length-set c.args.room.now c.args.at minus_sign

pub returns-then-is_negative : goal.returns-then-is_negative
returns-then-is_negative c =
    let d = ap decimal (measured (goal.at.returns-then-is_negative c).After-size) in record {
      place = omega (arith, c.write_field.ensures.place, ap length d, long (goal.at.returns-then-is_negative c).After-is_negative c.if-is_negative.true);
      text = minus_first c.args.room.now c.write_field.new.room c.args.n c.args.at c.args.end (sym (known (goal.at.returns-then-is_negative c).After-is_negative) ∙ c.if-is_negative.true)
          (c.write_field.ensures.text ∙ ap (λ d. sets (set c.args.room.now c.args.at minus_sign) (c.args.at + 1) (d ++ c.args.end ∷ [])) d);
    }

plain : (c : After-size-2) → decimal c.size-2.result ≡ signed c.args.n
plain c =
    ap decimal (size_learnt c.args.n c.ranges.n c.size-2.ensures) ∙ sym (signed_plain c.args.n (sym (sign_learnt c.args.n c.ranges.n.sfits c.is_negative.ensures) ∙ c.if-is_negative.false))

pub write_field-requires-2 : goal.write_field-requires-2
write_field-requires-2 c =
    omega (arith, c.requires, ap length (plain (goal.at.write_field-requires-2 c).After-size-2))

pub returns : goal.returns
returns c = record { place = omega (arith, c.write_field-2.ensures.place, ap length (plain (goal.at.returns c).After-size-2)); text = c.write_field-2.ensures.text ∙ ap (λ d. sets c.args.room.now c.args.at (d ++ c.args.end ∷ [])) (plain (goal.at.returns c).After-size-2) }
