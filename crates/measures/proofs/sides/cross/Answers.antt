-- `measures::sides::cross` meets its contract.
use mathlib.Core.Path.{◌∙◌}
use Rattle.measures.specs.Sides.{cross}
use Rattle.laws.proofs.Sizes.{read_back}
use Rattle.measures.proofs.Bounds.{minor_learnt}
use Rattle.measures.proofs.sides.cross.Goals as goal

pub returns : goal.returns
unfolding cross
returns c =
    let x = c.minor in
    let y = c.minor-2 in
    let z = c.minor-3 in
    let u = c.args.u in
    let v = c.args.v in
    let hu = c.requires.0 in
    let hv = c.requires.1 in
    rw (
      read_back x.result x.type_inv ∙ minor_learnt u.y u.z v.y v.z hu.y hu.z hv.y hv.z x.ensures,
      read_back y.result y.type_inv ∙ minor_learnt u.z u.x v.z v.x hu.z hu.x hv.z hv.x y.ensures,
      read_back z.result z.type_inv ∙ minor_learnt u.x u.y v.x v.y hu.x hu.y hv.x hv.y z.ensures,
    )
