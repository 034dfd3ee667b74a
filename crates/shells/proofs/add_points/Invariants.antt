-- `shells::add_points` keeps that the first i points are added.
use Rattle.std.proofs.Common.{◌≡◌}
use Rattle.shelllist.specs.Filled.{points_added}
use Rattle.shells.proofs.add_points.Given as goal

abbrev pub invariant-loop-i : goal.invariant-loop-i
invariant-loop-i l = l.records ≡ points_added l.points l.marks l.numbers l.i l.fn.records
