-- `masks::mask_row` meets its contract. The words passed are gathered, and two samples or more are left.
use mathlib.Core.Path.{◌≡◌}
use Prim.Native.Nat.{◌+◌, ◌*◌, ◌-◌, ◌≤◌}
use lib.ListN.{length}
use Rattle.masks.specs.Masks.{word_cubes}
use Rattle.masks.proofs.Rows.{WordsTo}
use Rattle.masks.proofs.mask_row.Given as goal

abbrev pub invariant-loop-left : goal.invariant-loop-left
invariant-loop-left l =
    (length l.masks ≡ length l.initial.masks) × (l.from ≤ l.to) × (2 ≤ l.left) × (l.nx ≡ word_cubes * (l.to - l.from) + l.left) × WordsTo l.flags l.nx l.at l.from l.to l.initial.masks l.masks

abbrev pub decreases-loop-left : goal.decreases-loop-left
decreases-loop-left l = l.left
