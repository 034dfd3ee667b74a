-- `meshlines::point_numbers` meets its contract.
use native.Mathlib.Omega.{arith}
use Rattle.meshlines.proofs.point_numbers.Goals as goal

pub overflow_cast-result : goal.overflow_cast-result
overflow_cast-result c = omega (arith, c.shared_slice_known-5-1.given c.args.i)
