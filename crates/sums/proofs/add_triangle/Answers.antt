-- `sums::add_triangle` meets its contract.
use mathlib.Core.Path.{sym, ◌∙◌}
use Rattle.laws.specs.Mesh.{triangle}
use Rattle.mesh.specs.Place.{Near}
use Rattle.mesh.proofs.Places.{near_place}
use Rattle.sums.proofs.Summed.{nothing_added, something_added, cross_of, same_places}
use Rattle.sums.proofs.add_triangle.Goals as goal
use Rattle.sums.proofs.add_triangle.Goals.{After-place_of-r}

three_small : (c : After-place_of-r) → Near c.place_of-p.result × Near c.place_of-q.result × Near c.place_of-r.result
three_small c =
    let fit = c.requires.rooms_fit in (
      rw c.place_of-p.ensures (near_place c.args.points.now fit.coordinates_fit c.args.a),
      rw c.place_of-q.ensures (near_place c.args.points.now fit.coordinates_fit c.args.b),
      rw c.place_of-r.ensures (near_place c.args.points.now fit.coordinates_fit c.args.c),
    )

pub cross_at-n-requires : goal.cross_at-n-requires
cross_at-n-requires c = three_small (goal.at.cross_at-n-requires c).After-place_of-r

pub add_places-requires-clause-near : goal.add_places-requires-clause-near
add_places-requires-clause-near c = three_small (goal.at.add_places-requires-clause-near c).After-place_of-r

pub returns-then-n-ne0 : goal.returns-then-n-ne0
returns-then-n-ne0 c = λ x.
    let a = c.args in
    let one = c.place_of-p.ensures in
    let two = c.place_of-q.ensures in
    let three = c.place_of-r.ensures in
    let n = c.cross_at-n.ensures in
    c.add_places.ensures x
    ∙ same_places (triangle a.a a.b a.c) x _ one two three
    ∙ something_added a.points.now (triangle a.a a.b a.c) x _ (λ e. c.if-n-ne0.true (cross_of n one two three ∙ e))

pub returns-else-n-ne0 : goal.returns-else-n-ne0
returns-else-n-ne0 c = λ x.
    let a = c.args in
    let one = c.place_of-p.ensures in
    let two = c.place_of-q.ensures in
    let three = c.place_of-r.ensures in
    nothing_added a.points.now (triangle a.a a.b a.c) x _ (sym (cross_of c.cross_at-n.ensures one two three) ∙ c.if-n-ne0.false)
