-- `measures::sides::cross_at` meets its contract.
use mathlib.Core.Path.{◌∙◌, ap₂}
use Rattle.measures.specs.Sides.{cross, cross_at}
use Rattle.measures.proofs.Bounds.{between_within, cross_within}
use Rattle.measures.proofs.sides.cross_at.Goals as goal

pub cross-requires : goal.cross-requires
cross-requires c =
    (rw c.minus.ensures (between_within c.args.q c.args.p c.requires.1 c.requires.0), rw c.minus-2.ensures (between_within c.args.r c.args.p c.requires.2 c.requires.0))

pub squared-requires : goal.squared-requires
squared-requires c =
    let p = c.args.p in
    rw (c.cross.ensures ∙ ap₂ cross c.minus.ensures c.minus-2.ensures)
    (cross_within _ _ (between_within c.args.q p c.requires.1 c.requires.0) (between_within c.args.r p c.requires.2 c.requires.0))

pub returns : goal.returns
unfolding cross_at
returns c =
    c.squared.ensures
    ∙ rw (c.cross.ensures, c.minus.ensures, c.minus-2.ensures)
