-- `writing::write_field` meets its contract.
use native.Mathlib.Omega.{arith}
use Rattle.writing.proofs.Fields.{field_stored}
use Rattle.writing.proofs.write_field.Goals as goal

pub returns : goal.returns
returns c =
    let a = c.args in record { place = omega (arith, c.digit_count-count.ensures); text = field_stored a.room.now c.spell.new.room a.n c.digit_count-count.result a.end a.at c.digit_count-count.ensures c.spell.ensures }
