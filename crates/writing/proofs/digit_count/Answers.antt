-- `writing::digit_count` meets its contract.
use Prim.Native.Nat.{◌-◌}
use native.Mathlib.Omega.{arith}
use Rattle.grid.specs.Limits.{longest_number}
use Rattle.writing.proofs.Fields.{digits_one, digits_more, digits_most}
use Rattle.writing.proofs.digit_count.Goals as goal

pub overflow_add-count : goal.overflow_add-count
overflow_add-count c = omega (arith, digits_most (longest_number - 1) c.args.n (omega arith))

pub loop-rest-preserved : goal.loop-rest-preserved
loop-rest-preserved c = omega (arith, digits_more c.loop-rest.rest (omega arith))

pub returns : goal.returns
returns c = omega (arith, digits_one c.loop-rest.rest (omega arith))
