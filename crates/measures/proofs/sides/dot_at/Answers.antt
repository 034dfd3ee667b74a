-- `measures::sides::dot_at` meets its contract.
use mathlib.Core.Path.{◌∙◌}
use Rattle.measures.specs.Sides.{dot_at}
use Rattle.laws.proofs.Sizes.{read_back}
use Rattle.measures.proofs.Bounds.{between_within}
use Rattle.measures.proofs.sides.dot_at.Goals as goal

pub dot-requires : goal.dot-requires
dot-requires c =
    (rw c.minus.ensures (between_within c.args.q c.args.p c.requires.1 c.requires.0), rw c.minus-2.ensures (between_within c.args.r c.args.p c.requires.2 c.requires.0))

pub returns : goal.returns
unfolding dot_at
returns c =
    read_back c.dot.result c.dot.type_inv ∙ c.dot.ensures ∙ rw (c.minus.ensures, c.minus-2.ensures)
