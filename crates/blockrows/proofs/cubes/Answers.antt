-- `blockrows::cubes` meets its contract. The loop's invariant: both rows have the numbers of the cubes that were passed.
use Prim.Native.Nat.{◌<◌}
use native.Mathlib.Omega.{arith}
use Rattle.grid.specs.Limits.{most_side}
use Rattle.blockrows.proofs.Filled.{filled_none, filled_more}
use Rattle.blockrows.proofs.cubes.Goals as goal

pub loop-i-init : goal.loop-i-init
loop-i-init c = (filled_none c.least-1.given.0.1, filled_none c.greatest-1.given.0.1)

pub loop-i-preserved : goal.loop-i-preserved
loop-i-preserved c =
    let small : c.loop-i.i < most_side = omega arith in (
      filled_more small c.loop-i.invariant.0 c.min.ensures,
      filled_more small c.loop-i.invariant.1 c.max.ensures,
    )
