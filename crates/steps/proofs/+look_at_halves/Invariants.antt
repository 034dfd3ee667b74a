-- The measure is how often the block can be halved. The loop's invariant: the halves before h are looked at, the count is raised by what they took, and the bits of the cubes found in them are set.
use mathlib.Core.Path.{◌≡◌}
use Prim.Native.Nat.{◌+◌, ◌-◌, ◌≤◌}
use lib.ListN.{length}
use Rattle.laws.specs.Range.{sum_to}
use Rattle.summary.specs.Blocks.{half}
use Rattle.summary.specs.Steps.{step_at, looked}
use Rattle.steps.specs.Looks.{found_words, found_in, Marks}
use Rattle.steps.proofs.+look_at_halves.Given as goal

abbrev pub decreases-look_at_halves : goal.decreases-look_at_halves
decreases-look_at_halves l = l.block.halvings

abbrev pub invariant-loop-h : goal.invariant-loop-h
invariant-loop-h l =
    (l.h ≤ 8) × (l.run ≡ l.count + sum_to l.h (half (looked (step_at l.summary l.grey) (l.block.halvings - 1)) l.block.x l.block.y l.block.z)) × (length l.found ≡ found_words)
    × Marks l.initial.found l.found (found_in (step_at l.summary l.grey) (l.block.halvings - 1) l.block.x l.block.y l.block.z l.h)
