-- `blockrows::halves` meets its contract. The loop's invariant: both rows have the numbers of the blocks that were passed.
use mathlib.Core.Path.{◌≡◌}
use Prim.Native.Nat.{◌+◌, ◌*◌, ◌<◌}
use native.Mathlib.Omega.{arith}
use Rattle.grid.specs.Limits.{most_side}
use Rattle.blockrows.proofs.Filled.{filled_none, filled_more}
use Rattle.blockrows.proofs.halves.Goals as goal

pub loop-i-init : goal.loop-i-init
loop-i-init c = (filled_none c.least-1.given.0.1, filled_none c.greatest-1.given.0.1)

pub loop-i-preserved : goal.loop-i-preserved
loop-i-preserved c =
    let i = c.loop-i.i in
    let small : i < most_side = omega arith in
    let least : 4 * i + 0 ≡ 4 * i = omega arith in
    let next : 4 * i + 2 + 0 ≡ 4 * i + 2 = omega arith in
    let greatest : 4 * i + 2 + 1 ≡ 4 * i + 3 = omega arith in (
      filled_more small c.loop-i.invariant.0 (rw (least, next) c.min.ensures),
      filled_more small c.loop-i.invariant.1 (rw greatest c.max.ensures),
    )
