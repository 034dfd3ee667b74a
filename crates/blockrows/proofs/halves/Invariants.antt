-- `blockrows::halves` meets its contract. The loop's invariant: both rows have the numbers of the blocks that were passed.
use Prim.Native.Nat.{min, max}
use Rattle.grid.specs.Limits.{most_side}
use Rattle.blockrows.specs.Numbers.{halves_of}
use Rattle.blockrows.proofs.Filled.{Filled}
use Rattle.blockrows.proofs.halves.Given as goal

abbrev pub invariant-loop-i : goal.invariant-loop-i
invariant-loop-i l =
    Filled most_side (halves_of min 0 l.low) l.initial.least l.i l.least × Filled most_side (halves_of max 1 l.high) l.initial.greatest l.i l.greatest
