-- `rounds::sum_up` meets its contract: the sums over the neighbours that were passed.
use mathlib.Core.Path.{◌≡◌}
use Prim.Native.Nat.{◌-◌}
use Rattle.rounds.specs.Steps.{held_sum}
use Rattle.rounds.proofs.sum_up.Given as goal

abbrev pub invariant-loop-i : goal.invariant-loop-i
invariant-loop-i l =
    let sum = held_sum l.old l.work l.from (l.i - l.from) in
    record { x : l.x ≡ sum 0; y : l.y ≡ sum 1; z : l.z ≡ sum 2 }
