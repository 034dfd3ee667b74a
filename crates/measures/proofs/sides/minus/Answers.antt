-- `measures::sides::minus` meets its contract.
use mathlib.Core.Path.{◌∙◌}
use Rattle.measures.specs.Sides.{between}
use Rattle.laws.proofs.Sizes.{read_back}
use Rattle.measures.proofs.sides.minus.Goals as goal

pub returns : goal.returns
unfolding between
returns c =
    let x = c.apart in
    let y = c.apart-2 in
    let z = c.apart-3 in
    rw (
      read_back x.result x.type_inv ∙ x.ensures,
      read_back y.result y.type_inv ∙ y.ensures,
      read_back z.result z.type_inv ∙ z.ensures,
    )
