-- `writing::write_fields` meets its contract: with the fields that are left at the place, all are there.
use mathlib.Core.Path.{ap, sym, ◌∙◌}
use Prim.Native.Nat.{◌+◌}
use native.Mathlib.Omega.{arith}
use lib.ListN.{length, drop}
use lib.Seq.{sets}
use Rattle.lines.specs.Line.{fields}
use Rattle.writing.proofs.Fields.{fields_length, fields_turn, fields_end}
use Rattle.writing.proofs.write_fields.Goals as goal

pub write_field-at-requires : goal.write_field-at-requires
write_field-at-requires c =
    let a = c.args in
    omega (arith, fields_length a.more a.numbers.now c.loop-i.i (omega arith), c.loop-i.invariant.0, c.loop-i.invariant.1, c.requires.numbers_in_bounds)

pub loop-i-preserved : goal.loop-i-preserved
loop-i-preserved c =
    let a = c.args in (
      c.write_field-at.auto.room ∙ c.loop-i.invariant.0,
      omega (arith, fields_length a.more a.numbers.now c.loop-i.i (omega arith), c.loop-i.invariant.1, c.write_field-at.ensures.place),
      ap (λ k. sets c.write_field-at.new.room k (fields a.more (drop (c.loop-i.i + 1) a.numbers.now))) c.write_field-at.ensures.place
          ∙ (fields_turn a.more a.numbers.now c.loop-i.i (omega arith) c.loop-i.room c.write_field-at.new.room c.loop-i.at c.end_of.result c.end_of.ensures c.write_field-at.ensures.text
          ∙ c.loop-i.invariant.2),
    )

pub returns : goal.returns
returns c =
    let a = c.args in
    let e = fields_end a.more a.numbers.now c.loop-i.i c.loop-i-test.false in record { place = omega (arith, ap length e, c.loop-i.invariant.1); text = ap (sets c.loop-i.room c.loop-i.at) (sym e) ∙ c.loop-i.invariant.2 }
