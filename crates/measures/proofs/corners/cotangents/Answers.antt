-- `measures::corners::cotangents` meets its contract.
use native.Mathlib.Omega.{arith}
use Rattle.measures.specs.Corners.{cotangents}
use Rattle.measures.proofs.Floats.{float_asked, float_learnt}
use Rattle.measures.proofs.corners.cotangents.Goals as goal

pub float_of-requires : goal.float_of-requires
float_of-requires c = float_asked c.args.d.one (omega (arith, c.requires.one))

pub float_of-requires-2 : goal.float_of-requires-2
float_of-requires-2 c = float_asked c.args.d.two (omega (arith, c.requires.two))

pub float_of-requires-3 : goal.float_of-requires-3
float_of-requires-3 c = float_asked c.args.d.three (omega (arith, c.requires.three))

pub returns : goal.returns
unfolding cotangents
returns c =
    let x = float_learnt c.args.d.one (omega (arith, c.requires.one)) c.float_of.ensures in
    let y = float_learnt c.args.d.two (omega (arith, c.requires.two)) c.float_of-2.ensures in
    let z = float_learnt c.args.d.three (omega (arith, c.requires.three)) c.float_of-3.ensures in
    rw (x, y, z)
