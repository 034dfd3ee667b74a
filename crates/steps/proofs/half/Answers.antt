-- `steps::half` meets its contract.
use mathlib.Core.Path.{refl}
use native.Mathlib.Omega.{arith}
use Rattle.steps.proofs.Blocks.{BlockSmall, block_small, half_fits}
use Rattle.steps.proofs.half.Goals as goal
use Rattle.steps.proofs.half.Goals.{Start}

-- the block that is halved
small : (c : Start) → BlockSmall c.args.block
small c = block_small c.args.block c.requires.block_fits

pub overflow_mul-result : goal.overflow_mul-result
overflow_mul-result c = omega (arith, (small (goal.at.overflow_mul-result c).Start).fits, (small (goal.at.overflow_mul-result c).Start).side, c.requires.block_fits.in_x, c.requires.block_fits.in_y, c.requires.block_fits.in_z)

pub overflow_add-result : goal.overflow_add-result
overflow_add-result c = omega (arith, (small (goal.at.overflow_add-result c).Start).fits, (small (goal.at.overflow_add-result c).Start).side, c.requires.block_fits.in_x, c.requires.block_fits.in_y, c.requires.block_fits.in_z)

pub returns : goal.returns
returns c = (refl, half_fits c.args.block c.args.h c.requires.block_fits c.requires.halvings_nonzero)
