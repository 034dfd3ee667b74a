-- `masks::fill` meets its contract. The rows of the batches passed have their words.
use mathlib.Core.Path.{◌≡◌}
use Prim.Native.Nat.{◌*◌, ◌-◌, ◌≤◌}
use lib.ListN.{length}
use Rattle.grid.specs.Work.{lent_samples}
use Rattle.masks.specs.Masks.{row_words, Masked}
use Rattle.masks.specs.Flags.{flag_bytes, AreFlags}
use Rattle.masks.proofs.fill.Given as goal

abbrev pub invariant-loop-r : goal.invariant-loop-r
invariant-loop-r l =
    (length l.masks ≡ length l.initial.masks) × (length l.flags ≡ flag_bytes) × (l.r ≤ l.rows) × AreFlags l.flags × (l.to ≡ row_words l.nx * l.r) × Masked l.nx l.r l.grey (lent_samples l.kept l.samples) l.masks

abbrev pub decreases-loop-r : goal.decreases-loop-r
decreases-loop-r l = l.rows - l.r
