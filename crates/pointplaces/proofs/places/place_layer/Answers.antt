-- `pointplaces::places::place_layer` meets its contract. The invariant: the next stretch stands in the layer, or where the next layer begins, and the points on
-- the edges before its own are placed. Each turn leaves a word less.
use mathlib.Core.Path.{refl, ap, ◌∙◌}
use Prim.Native.Nat.{◌+◌, ◌*◌, ◌<◌}
use native.Mathlib.Omega.{arith}
use Rattle.grid.specs.Work.{lent_samples}
use Rattle.rows.specs.Rows.{own_samples, layer_first}
use Rattle.edgepoints.specs.EdgePoint.{PointRooms, point_rooms}
use Rattle.rows.proofs.Stretches.{stands_first, stands_next, stretch_end, word_there}
use Rattle.pointplaces.proofs.Placing.{room_less, room_kept, number_within, placed_none, placed_on}
use Rattle.pointplaces.proofs.places.place_layer.Goals as goal
use Rattle.pointplaces.proofs.places.place_layer.Goals.{After-place_stretch-n, At-loop-at, In-loop-at, Start}

-- the rooms as they come, at the loop's head, and past a stretch
abbrev first_rooms : Start → PointRooms
first_rooms s = point_rooms s.args.points.now s.args.edges.now s.args.marks.now

abbrev past_stretch : After-place_stretch-n → PointRooms
past_stretch c =
    point_rooms c.place_stretch-n.new.points c.place_stretch-n.new.edges c.place_stretch-n.new.marks

-- there is a next stretch
row_there : (c : In-loop-at) → c.loop-at.at.y < c.args.sides.ny
row_there c = omega arith

pub loop-at-init : goal.loop-at-init
loop-at-init c =
    let a = c.args in
    rw c.first-at.ensures (
      stands_first a.sides c.requires.given.ready.fit c.requires.given.ready.words a.z c.requires.given.ready.from,
      record { points = refl; edges = refl; marks = refl },
      placed_none a.sides a.grey (lent_samples a.kept.now a.samples.now) a.masks.now (3 * layer_first a.sides a.z) a.from (first_rooms (goal.at.loop-at-init c).Start),
    )

pub place_stretch-n-requires : goal.place_stretch-n-requires
place_stretch-n-requires c =
    let a = c.args in
    let so = c.loop-at.invariant.2 in
    let within =
    number_within a.sides a.masks.now (3 * layer_first a.sides a.z) (3 * c.loop-at.at.s) (3 * (c.loop-at.at.s + own_samples c.loop-at.at.left)) (3 * layer_first a.sides (a.z + 1))
    a.from
    c.loop-at.n
    so.rising
    (omega arith)
    (omega (arith, stretch_end a.sides a.z c.loop-at.at c.loop-at.invariant.0 (row_there (goal.at.place_stretch-n-requires c).In-loop-at)))
    so.counted in record { given = c.requires.given; stands = c.loop-at.invariant.0; y_lt_ny = row_there (goal.at.place_stretch-n-requires c).In-loop-at; z_lt_nz = c.requires.z_lt_nz; rooms_for = room_kept c.loop-at.invariant.1 (room_less within c.requires.rooms_for) }

pub loop-at-smaller : goal.loop-at-smaller
loop-at-smaller c =
    omega (arith, ap (λ at. at.word) c.next-at.ensures, word_there c.args.sides c.args.masks.now c.args.z c.requires.given.ready c.loop-at.at c.loop-at.invariant.0 (row_there (goal.at.loop-at-smaller c).In-loop-at))

pub loop-at-preserved : goal.loop-at-preserved
loop-at-preserved c =
    let a = c.args in
    let same = c.loop-at.invariant.1 in
    rw c.next-at.ensures (
      stands_next a.sides a.z c.loop-at.at c.loop-at.invariant.0 (row_there (goal.at.loop-at-preserved c).In-loop-at),
      record { points = c.place_stretch-n.auto.points ∙ same.points; edges = c.place_stretch-n.auto.edges ∙ same.edges; marks = c.place_stretch-n.auto.marks ∙ same.marks },
      placed_on a.sides a.grey (lent_samples a.kept.now a.samples.now) a.masks.now {t = past_stretch (goal.at.loop-at-preserved c).After-place_stretch-n} c.loop-at.invariant.2 c.place_stretch-n.ensures,
    )
