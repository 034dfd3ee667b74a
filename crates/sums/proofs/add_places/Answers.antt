-- `sums::add_places` meets its contract.
use mathlib.Core.Path.{◌∙◌}
use native.Mathlib.Omega.{arith}
use Rattle.laws.specs.Mesh.{triangle}
use Rattle.measures.proofs.Bounds.{dots_small, cross_at_small}
use Rattle.sums.proofs.Summed.{corners_add, places_add}
use Rattle.sums.proofs.add_places.Goals as goal

pub double_area-double-requires : goal.double_area-double-requires
double_area-double-requires c =
    let h = cross_at_small c.args.p c.args.q c.args.r c.requires.near.0 c.requires.near.1 c.requires.near.2 in
    (c.requires.n_nonzero.0, omega (arith, h, c.requires.n_nonzero.1))

pub cotangents-cot-requires : goal.cotangents-cot-requires
cotangents-cot-requires c =
    rw c.dots_of-dots.ensures (dots_small _ _ _ c.requires.near.0 c.requires.near.1 c.requires.near.2)

pub shares-share-requires : goal.shares-share-requires
shares-share-requires c =
    rw c.dots_of-dots.ensures (dots_small _ _ _ c.requires.near.0 c.requires.near.1 c.requires.near.2)

pub returns : goal.returns
returns c = λ x.
    let a = c.args in
    let share = c.shares-share in
    let cot = c.cotangents-cot in
    corners_add (triangle a.a a.b a.c) a.p a.q a.r share.result cot.result x _ _ _ _ (c.add_corner.ensures x) (c.add_corner-2.ensures x) (c.add_corner-3.ensures x)
    ∙ places_add (triangle a.a a.b a.c) a.p a.q a.r a.n _ _ _ _ _ x _ c.requires.n_nonzero.1 c.double_area-double.ensures c.dots_of-dots.ensures cot.ensures c.squares_of.ensures share.ensures
