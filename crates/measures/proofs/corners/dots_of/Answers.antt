-- `measures::corners::dots_of` meets its contract.
use mathlib.Core.Path.{◌∙◌}
use Rattle.measures.specs.Corners.{dots_of}
use Rattle.laws.proofs.Sizes.{read_back}
use Rattle.measures.proofs.corners.dots_of.Goals as goal

pub returns : goal.returns
unfolding dots_of
returns c =
    let one = c.dot_at in
    let two = c.dot_at-2 in
    let three = c.dot_at-3 in
    rw (
      read_back one.result one.type_inv ∙ one.ensures,
      read_back two.result two.type_inv ∙ two.ensures,
      read_back three.result three.type_inv ∙ three.ensures,
    )
