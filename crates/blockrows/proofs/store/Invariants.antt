-- `blockrows::store` meets its contract. The loop's invariant: the list is as long as ever, and the blocks that were passed stand in it.
use mathlib.Core.Path.{◌≡◌}
use lib.ListN.{length}
use lib.Seq.{sets}
use Rattle.blockrows.specs.Numbers.{row_numbers}
use Rattle.blockrows.proofs.store.Given as goal

abbrev pub invariant-loop-i : goal.invariant-loop-i
invariant-loop-i l = (length l.list ≡ length l.initial.list) × (l.list ≡ sets l.initial.list l.at (row_numbers l.i l.least l.greatest))
