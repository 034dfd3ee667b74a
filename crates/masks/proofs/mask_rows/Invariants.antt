-- `masks::mask_rows` meets its contract. The rows passed have their words.
use mathlib.Core.Path.{◌≡◌}
use Prim.Native.Nat.{◌+◌, ◌*◌, ◌-◌, ◌≤◌}
use lib.ListN.{length}
use Rattle.masks.specs.Masks.{row_words}
use Rattle.masks.specs.Flags.{Gathered}
use Rattle.masks.proofs.mask_rows.Given as goal

abbrev pub invariant-loop : goal.invariant-loop
invariant-loop l =
    (length l.masks ≡ length l.initial.masks) × (l.counter ≤ l.many) × (l.at ≡ l.nx * l.counter) × (l.to ≡ l.from + row_words l.nx * l.counter) × Gathered l.flags l.nx 0 l.counter l.from l.initial.masks l.masks

abbrev pub decreases-loop : goal.decreases-loop
decreases-loop l = l.many - l.counter
