-- `blockrows::columns` meets its contract. The loop's invariant: both rows have the numbers of the columns that were passed.
use mathlib.Core.Path.{ap₂, ◌∙◌}
use Prim.Native.Nat.{◌*◌, ◌<◌, min, max}
use native.Mathlib.Omega.{arith}
use Rattle.grid.specs.Limits.{most_side}
use Rattle.blockrows.proofs.Filled.{filled_none, filled_more}
use Rattle.blockrows.proofs.columns.Goals as goal

pub loop-i-init : goal.loop-i-init
loop-i-init c = (filled_none c.low-1.given.0.1, filled_none c.high-1.given.0.1)

pub loop-i-preserved : goal.loop-i-preserved
loop-i-preserved c =
    let small : c.loop-i.i < 2 * most_side = omega arith in (
      filled_more small c.loop-i.invariant.0 (c.min-in-loop-i-2.ensures ∙ ap₂ min c.min.ensures c.min-in-loop-i.ensures),
      filled_more small c.loop-i.invariant.1 (c.max-in-loop-i-2.ensures ∙ ap₂ max c.max.ensures c.max-in-loop-i.ensures),
    )
