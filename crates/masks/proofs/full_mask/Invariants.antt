-- `masks::full_mask` meets its contract. The loop's invariant: after i turns the mask is 2 ^ i - 1.
use mathlib.Core.Path.{◌≡◌}
use Prim.Native.Nat.{◌+◌, ◌-◌, ◌^◌, ◌≤◌}
use Rattle.masks.proofs.full_mask.Given as goal

abbrev pub invariant-loop : goal.invariant-loop
invariant-loop l = (l.counter ≤ l.n) × (l.full + 1 ≡ 2 ^ l.counter)

abbrev pub decreases-loop : goal.decreases-loop
decreases-loop l = l.n - l.counter
