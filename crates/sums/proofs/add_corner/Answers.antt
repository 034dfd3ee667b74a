-- `sums::add_corner` meets its contract.
use mathlib.Core.Path.{ap, ◌∙◌}
use Prim.Native.Nat.{◌*◌}
use lib.Ieee.{nan, binary64, add}
use lib.ListN.{get_or, set}
use Rattle.measures.specs.Vectors.{put_vector}
use Rattle.sums.specs.Sums.{add_sides, add_corner}
use Rattle.sums.specs.Rooms.{sum_at}
use Rattle.sums.proofs.Stored.{stored}
use Rattle.sums.proofs.add_corner.Goals as goal

pub returns : goal.returns
unfolding add_corner sum_at
returns c = λ x.
    let a = c.args in
    let vector_is =
    c.put_vector.ensures
    ∙ ap (λ v. put_vector a.vectors.now (3 * a.point) v)
    (c.add_sides.ensures ∙ ap (λ v. add_sides a.p a.q a.r a.cotj a.cotk v) c.vector_at-before.ensures) in
    let areas = set a.areas.now a.point (add binary64 (get_or a.areas.now a.point nan) a.share) in
    ap (λ vs. sum_at areas vs x) vector_is
    ∙ stored a.areas.now a.vectors.now a.point (add_corner a.p a.q a.r a.share a.cotj a.cotk) c.requires.point_in_bounds.0 c.requires.point_in_bounds.1 x
