-- `shells::add_triangles` keeps that the first k triangles are added.
use Rattle.std.proofs.Common.{◌≡◌}
use Rattle.shelllist.specs.Filled.{triangles_added}
use Rattle.shells.proofs.add_triangles.Given as goal

abbrev pub invariant-loop-k : goal.invariant-loop-k
invariant-loop-k l = l.records ≡ triangles_added l.points l.triangles l.numbers l.k l.fn.records
