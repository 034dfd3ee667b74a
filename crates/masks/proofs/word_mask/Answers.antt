-- `masks::word_mask` meets its contract.
use Prim.Native.Nat.{◌/◌}
use native.Mathlib.Omega.{arith}
use borrow.Author.Tests.{lt-leb}
use Rattle.laws.specs.Bits.{word_bits}
use Rattle.masks.proofs.Gather.{mask_join}
use Rattle.masks.proofs.word_mask.Goals as goal

pub returns : goal.returns
returns c =
    let a = c.args in
    rw (lt-leb _ _ c.if-many-le-QUARTER_WORD.false, lt-leb _ _ c.if-many-le-HALF_WORD.false)
    (omega (
      arith,
      c.half_mask-low.ensures.0,
      c.half_mask.ensures.0,
      mask_join a.flags.now a.at (word_bits / 2) (word_bits / 2),
    ))
