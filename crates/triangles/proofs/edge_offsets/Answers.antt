-- `triangles::edge_offsets` meets its contract: edge by edge, by arithmetic.
use mathlib.Core.Path.{◌≡◌}
use Prim.Native.Nat.{◌+◌, ◌*◌}
use native.Mathlib.Nat.{mul_assoc, mul-add, mul-zero, mul-one, add-zero, zero-add, add_assoc}
use native.Mathlib.Omega.{arith}
use Rattle.triangles.specs.Names.{edge_offset}
use Rattle.triangles.proofs.edge_offsets.Goals as goal
use Rattle.triangles.proofs.edge_offsets.Goals.{Start}

pub returns : goal.returns
unfolding edge_offset
returns c =
    let z : 3 + (3 * c.args.nx * c.args.ny + 1) ≡ 3 * c.args.nx * c.args.ny + 4 = omega arith in
    let y : 3 + (3 * c.args.nx + 2) ≡ 3 * c.args.nx + 5 = omega arith in
    simp (mul-zero, zero-add, add-zero, mul-one, mul-add, ← mul_assoc, add_assoc, y, z)
