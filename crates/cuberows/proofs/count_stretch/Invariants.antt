-- `cuberows::count_stretch` meets its contract. The loop's invariant: some cubes are passed, and the sum is theirs.
use mathlib.Core.Path.{◌≡◌}
use Prim.Native.Nat.{ℕ, ◌<◌, ◌≤◌, ◌^◌}
use Rattle.laws.specs.Bits.{word_bits}
use Rattle.laws.specs.Range.{sum_to}
use Rattle.laws.proofs.Scan.{Left}
use Rattle.cuberows.specs.Cubes.{busy_count}
use Rattle.cuberows.proofs.count_stretch.Given as goal

abbrev pub invariant-loop-busy : goal.invariant-loop-busy
invariant-loop-busy l = (x : ℕ) × (x ≤ word_bits) × Left l.cubes x l.busy × (l.busy < 2 ^ 64) × (l.sum ≡ sum_to x (busy_count l.corners l.cubes))

abbrev pub decreases-loop-busy : goal.decreases-loop-busy
decreases-loop-busy l = l.busy
