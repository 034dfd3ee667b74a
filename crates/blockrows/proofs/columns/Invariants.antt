-- `blockrows::columns` meets its contract. The loop's invariant: both rows have the numbers of the columns that were passed.
use Prim.Native.Nat.{◌*◌, min, max}
use Rattle.grid.specs.Limits.{most_side}
use Rattle.blockrows.specs.Numbers.{four_of}
use Rattle.blockrows.proofs.Filled.{Filled}
use Rattle.blockrows.proofs.columns.Given as goal

abbrev pub invariant-loop-i : goal.invariant-loop-i
invariant-loop-i l =
    Filled (2 * most_side) (four_of min l.list l.first l.back l.up) l.initial.low l.i l.low × Filled (2 * most_side) (four_of max l.list l.first l.back l.up) l.initial.high l.i l.high
