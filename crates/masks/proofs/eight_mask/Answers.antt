-- `masks::eight_mask` meets its contract.
use native.Mathlib.Omega.{arith}
use Rattle.masks.proofs.Gather.{eight_gathered}
use Rattle.masks.proofs.eight_mask.Goals as goal

pub returns : goal.returns
returns c =
    let a = c.args in (
      rw (c.four_bytes.ensures.0, c.four_bytes-2.ensures.0) (eight_gathered a.flags.now c.requires.are_flags a.at),
      omega arith,
    )
