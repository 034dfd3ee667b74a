-- `blockrows::differs` meets its contract. The loop's invariant: nothing is gathered exactly if the blocks that were passed are the same.
use mathlib.Core.Path.{◌≡◌}
use lib.Dec.{eqb}
use Rattle.blockrows.specs.Numbers.{same_row}
use Rattle.blockrows.proofs.differs.Given as goal

abbrev pub invariant-loop-i : goal.invariant-loop-i
invariant-loop-i l = (same_row l.list l.at l.i l.least l.greatest ≡ eqb l.apart 0)
