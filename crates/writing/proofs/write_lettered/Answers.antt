-- `writing::write_lettered` meets its contract.
use mathlib.Core.Path.{◌∙◌}
use native.Mathlib.Omega.{arith}
use lib.ListN.{length-set}
use Rattle.writing.proofs.Fields.{lettered_length, lettered_written}
use Rattle.writing.proofs.write_lettered.Goals as goal

pub bounds-room-at : goal.bounds-room-at
bounds-room-at c =
    let a = c.args in
    omega (arith, lettered_length a.letter a.numbers.now)

pub bounds-room-at-2 : goal.bounds-room-at-2
bounds-room-at-2 c =
    let a = c.args in
    simp length-set (omega (arith, lettered_length a.letter a.numbers.now))

pub write_fields-requires : goal.write_fields-requires
write_fields-requires c =
    let a = c.args in record { numbers_in_bounds = simp length-set (omega (arith, lettered_length a.letter a.numbers.now)); more_lt_most_fields = omega arith }

pub shape_of-room : goal.shape_of-room
shape_of-room c = c.write_fields.auto.room ∙ simp length-set

pub returns : goal.returns
returns c =
    let a = c.args in record { place = omega (arith, c.write_fields.ensures.place, lettered_length a.letter a.numbers.now); text = lettered_written a.room.now c.write_fields.new.room a.letter a.at a.numbers.now c.write_fields.ensures.text }
