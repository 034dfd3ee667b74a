-- `masks::half_mask` meets its contract.
use Prim.Native.Nat.{◌/◌}
use native.Mathlib.Omega.{arith}
use Rattle.laws.specs.Bits.{word_bits}
use Rattle.masks.proofs.Gather.{mask_join}
use Rattle.masks.proofs.half_mask.Goals as goal

pub returns : goal.returns
returns c =
    let a = c.args in
    (omega (arith, c.quarter_mask.ensures.0, c.quarter_mask-2.ensures.0, mask_join a.flags.now a.at (word_bits / 4) (word_bits / 4)), omega arith)
