-- `writing::spell` meets its contract: the digits behind what is left of the number are written.
use mathlib.Core.Path.{refl, ap, ◌∙◌}
use mathlib.Core.List.{append-nil}
use Prim.Native.Nat.{◌+◌, ◌/◌, ◌%◌}
use native.Mathlib.Omega.{arith}
use lib.ListN.{set, length-set}
use Rattle.lines.specs.Decimal.{digit}
use Rattle.writing.proofs.Fields.{nothing_behind, digits_more, digits_some, tenth_length, tenth_whole, tenth_written, first_written}
use Rattle.writing.proofs.spell.Goals as goal

pub overflow_sub-i : goal.overflow_sub-i
overflow_sub-i c = omega (arith, digits_some c.args.n)

pub loop-rest-init : goal.loop-rest-init
loop-rest-init c =
    let a = c.args in
    let e = nothing_behind a.n a.count c.requires.0 in
    (omega (arith, digits_some a.n), rw (e, append-nil), omega (arith, digits_some a.n), refl, rw e)

pub overflow_sub-i-in-loop-rest : goal.overflow_sub-i-in-loop-rest
overflow_sub-i-in-loop-rest c = omega (arith, digits_more c.loop-rest.rest (omega arith), digits_some (c.loop-rest.rest / 10))

pub loop-rest-preserved : goal.loop-rest-preserved
loop-rest-preserved c =
    let a = c.args in
    let r = c.loop-rest.rest in (
      omega arith,
      tenth_whole a.n r c.loop-rest.i c.loop-rest.invariant.1 c.loop-rest.invariant.2 (omega arith),
      tenth_length a.n r c.loop-rest.i c.loop-rest.invariant.1 c.loop-rest.invariant.2 (omega arith),
      rw length-set c.loop-rest.invariant.3,
      ap (λ m. set m (a.at + c.loop-rest.i) (digit (r % 10))) c.loop-rest.invariant.4 ∙ tenth_written a.n r c.loop-rest.i c.loop-rest.invariant.1 c.loop-rest.invariant.2 (omega arith) a.room.now a.at,
    )

pub shape_of-room : goal.shape_of-room
shape_of-room c = rw length-set c.loop-rest.invariant.3

pub returns : goal.returns
returns c =
    let a = c.args in
    ap (λ m. set m (a.at + c.loop-rest.i) (digit c.loop-rest.rest)) c.loop-rest.invariant.4 ∙ first_written a.n c.loop-rest.rest c.loop-rest.i c.loop-rest.invariant.1 c.loop-rest.invariant.2 (omega arith) a.room.now a.at
