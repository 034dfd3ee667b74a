-- `masks::quarter_mask` meets its contract.
use native.Mathlib.Omega.{arith}
use Rattle.masks.proofs.Gather.{mask_join}
use Rattle.masks.proofs.quarter_mask.Goals as goal

pub returns : goal.returns
returns c =
    let a = c.args in
    (omega (arith, c.eight_mask.ensures.0, c.eight_mask-2.ensures.0, mask_join a.flags.now a.at 8 8), omega arith)
