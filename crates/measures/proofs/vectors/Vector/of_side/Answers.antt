-- `measures::vectors::Vector::of_side` meets its contract.
use native.Mathlib.Omega.{arith}
use Rattle.measures.specs.Vectors.{of_side}
use Rattle.measures.proofs.Floats.{float_asked, float_learnt}
use Rattle.measures.proofs.vectors.Vector.of_side.Goals as goal

pub float_of-requires : goal.float_of-requires
float_of-requires c = float_asked c.args.u.x (omega (arith, c.requires.x))

pub float_of-requires-2 : goal.float_of-requires-2
float_of-requires-2 c = float_asked c.args.u.y (omega (arith, c.requires.y))

pub float_of-requires-3 : goal.float_of-requires-3
float_of-requires-3 c = float_asked c.args.u.z (omega (arith, c.requires.z))

pub returns : goal.returns
unfolding of_side
returns c =
    let x = float_learnt c.args.u.x (omega (arith, c.requires.x)) c.float_of.ensures in
    let y = float_learnt c.args.u.y (omega (arith, c.requires.y)) c.float_of-2.ensures in
    let z = float_learnt c.args.u.z (omega (arith, c.requires.z)) c.float_of-3.ensures in
    rw (x, y, z)
