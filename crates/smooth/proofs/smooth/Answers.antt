-- `smooth::smooth` meets its contract: a mesh that passed has few points.
use mathlib.Core.Path.{sym}
use native.Mathlib.Omega.{arith}
use Rattle.mesh.proofs.Passed.{passed}
use Rattle.smooth.proofs.smooth.Goals as goal

pub overflow_mul-v : goal.overflow_mul-v
overflow_mul-v c =
    omega (arith, (passed c.args.mesh.points.now c.args.mesh.triangles.now c.args.mesh.marks.now (sym c.in_ok-check.ensures)).few)
