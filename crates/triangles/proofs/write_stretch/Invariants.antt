-- `triangles::write_stretch` meets its contract. The loop's invariant: some cubes are passed, and those passed are written.
use Prim.Native.Nat.{ℕ, ◌^◌, ◌<◌, ◌≤◌}
use Rattle.laws.specs.Bits.{word_bits}
use Rattle.laws.specs.Range.{join_to}
use Rattle.laws.proofs.Scan.{Left}
use Rattle.triangles.specs.Names.{busy_names}
use Rattle.triangles.specs.Walk.{Written}
use Rattle.triangles.proofs.write_stretch.Given as goal

abbrev pub invariant-loop-busy : goal.invariant-loop-busy
invariant-loop-busy l =
    (x : ℕ) × (x ≤ word_bits) × Left l.cubes x l.busy × (l.busy < 2 ^ 64) × Written l.initial.triangles l.triangles l.at (join_to x (busy_names l.tables.offsets.now l.names l.corners l.cubes l.edge)) l.to

abbrev pub decreases-loop-busy : goal.decreases-loop-busy
decreases-loop-busy l = l.busy
