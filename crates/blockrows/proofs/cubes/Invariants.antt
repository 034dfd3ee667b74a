-- `blockrows::cubes` meets its contract. The loop's invariant: both rows have the numbers of the cubes that were passed.
use Prim.Native.Nat.{min, max}
use Rattle.grid.specs.Limits.{most_side}
use Rattle.blockrows.specs.Numbers.{cube_of}
use Rattle.blockrows.proofs.Filled.{Filled}
use Rattle.blockrows.proofs.cubes.Given as goal

abbrev pub invariant-loop-i : goal.invariant-loop-i
invariant-loop-i l =
    Filled most_side (cube_of min l.low) l.initial.least l.i l.least × Filled most_side (cube_of max l.high) l.initial.greatest l.i l.greatest
