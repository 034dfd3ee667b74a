-- `records::number_of` meets its contract: the first corner is below the count of points.
use native.Mathlib.Omega.{arith}
use lib.ListN.{length}
use Rattle.mesh.proofs.Passed.{corners}
use Rattle.records.proofs.number_of.Goals as goal

pub number_at-requires : goal.number_at-requires
number_at-requires c =
    omega (arith, (corners c.args.triangles.now (length c.args.numbers.now) c.args.k c.requires.0 c.requires.1).first)
