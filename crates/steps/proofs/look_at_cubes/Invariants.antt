-- `steps::look_at_cubes` meets its contract. The loop's invariant: the cubes before `which` are looked at, and the bits of those that were found are set.
use mathlib.Core.Path.{◌≡◌}
use Prim.Native.Nat.{◌+◌, ◌-◌, ◌≤◌}
use lib.ListN.{length}
use Rattle.summary.specs.Steps.{step_at}
use Rattle.steps.specs.Looks.{found_words, found_in, Marks}
use Rattle.steps.proofs.look_at_cubes.Given as goal

abbrev pub invariant-loop-which : goal.invariant-loop-which
invariant-loop-which l =
    (l.which ≤ 8) × (l.run ≡ l.count + l.which) × (length l.found ≡ found_words)
    × Marks l.initial.found l.found (found_in (step_at l.summary l.grey) 0 l.block.x l.block.y l.block.z l.which)

abbrev pub decreases-loop-which : goal.decreases-loop-which
decreases-loop-which l = 8 - l.which
