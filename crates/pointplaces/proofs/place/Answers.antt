-- `pointplaces::place` meets its contract. The invariant: the points on the edges before the layer at z are placed.
use mathlib.Core.Path.{◌≡◌, refl, ap, ◌∙◌}
use Prim.Native.Nat.{ℕ, ◌+◌, ◌*◌, ◌<◌}
use native.Mathlib.Omega.{arith}
use lib.ListN.{length}
use Rattle.grid.specs.Grid.{axes}
use Rattle.grid.specs.Point.{point_edges}
use Rattle.rows.specs.Rows.{size_of, words_above, layer_first}
use Rattle.edgepoints.specs.EdgePoint.{PointRooms, point_rooms, RoomsFor}
use Rattle.pointplaces.specs.Places.{Given, crossings, number_past}
use Rattle.rows.proofs.Stretches.{whole_ready, samples_whole, layer_first_lem, layers_rise}
use Rattle.pointplaces.proofs.Placing.{room_less, room_kept, number_within, placed_none, placed_on, all_crossings, places_laid, edges_laid, marks_laid}
use Rattle.pointplaces.proofs.place.Goals as goal
use Rattle.pointplaces.proofs.place.Goals.{Start, After-place_layer-n, At-loop-z}

-- the rooms as they come, at the loop's head, and past a layer
abbrev first_rooms : Start → PointRooms
first_rooms c =
    let a = c.args in
    point_rooms a.points.now a.edges.now a.marks.now

abbrev loop_rooms : At-loop-z → PointRooms
loop_rooms l = point_rooms l.loop-z.points l.loop-z.edges l.loop-z.marks

abbrev past_layer : After-place_layer-n → PointRooms
past_layer c =
    point_rooms c.place_layer-n.new.points c.place_layer-n.new.edges c.place_layer-n.new.marks

-- the samples, the words of their rows, and the room, as the layers need them
given : (c : Start) (z : ℕ) → z < c.args.sides.nz → Given c.args.sides z c.args.grey c.args.samples.now c.args.masks.now
given c z h =
    let a = c.args in
    record {
      ready = whole_ready a.sides a.masks.now c.requires.whole z h;
      held = omega (arith, c.requires.samples_len);
      masked = c.requires.masked;
    }

-- all points are those on the edges from the first layer's on and up to the last one's end
all_layers_lem : (c : Start)
    → let a = c.args in
    crossings c.args.sides a.masks.now (3 * layer_first c.args.sides 0) (3 * layer_first c.args.sides a.sides.nz) ≡ point_edges axes (size_of c.args.sides) (words_above c.args.sides a.masks.now)
all_layers_lem c = let a = c.args in all_crossings c.args.sides a.grey a.samples.now a.masks.now _ _ (ap (λ n. 3 * n) (layer_first_lem c.args.sides)) refl

room : (c : Start)
    → RoomsFor (number_past c.args.sides c.args.masks.now (3 * layer_first c.args.sides 0) (3 * layer_first c.args.sides c.args.sides.nz) 0) (first_rooms c)
room c =
    let all = ap length (all_layers_lem c) in
    record { points = omega (arith, all, c.requires.masks_in_bounds); edges = omega (arith, all, c.requires.masks_in_bounds_2); marks = omega (arith, all, c.requires.masks_in_bounds_3) }

pub loop-z-init : goal.loop-z-init
loop-z-init c =
    let a = c.args in
    (record { points = refl; edges = refl; marks = refl }, placed_none a.sides a.grey a.samples.now a.masks.now (3 * layer_first a.sides 0) 0 (first_rooms (goal.at.loop-z-init c).Start))

pub place_layer-n-requires : goal.place_layer-n-requires
place_layer-n-requires c =
    let a = c.args in
    let s = c.args.sides in
    let z = c.loop-z.z in
    let there : z < s.nz = omega arith in
    let so = c.loop-z.invariant.1 in
    let within =
    number_within s a.masks.now (3 * layer_first s 0) (3 * layer_first s z) (3 * layer_first s (z + 1)) (3 * layer_first s a.sides.nz) 0 c.loop-z.n so.rising
    (layers_rise s z (z + 1) (omega arith))
    (layers_rise s (z + 1) a.sides.nz (omega arith))
    so.counted in record { given = given (goal.at.place_layer-n-requires c).Start z there; z_lt_nz = there; rooms_for = room_kept c.loop-z.invariant.0 (room_less within (room (goal.at.place_layer-n-requires c).Start)) }

pub loop-z-preserved : goal.loop-z-preserved
loop-z-preserved c =
    let a = c.args in
    let same = c.loop-z.invariant.0 in (
      record { points = c.place_layer-n.auto.points ∙ same.points; edges = c.place_layer-n.auto.edges ∙ same.edges; marks = c.place_layer-n.auto.marks ∙ same.marks },
      placed_on a.sides a.grey a.samples.now a.masks.now {t = past_layer (goal.at.loop-z-preserved c).After-place_layer-n} c.loop-z.invariant.1 c.place_layer-n.ensures,
    )

pub returns : goal.returns
returns c =
    let s = c.args.sides in
    let a = c.args in
    let samples = c.args.samples.now in
    let masks = c.args.masks.now in
    let after = loop_rooms (goal.at.returns c).At-loop-z in
    let end : c.loop-z.z ≡ s.nz = omega arith in
    let none : 3 * layer_first s 0 ≡ 0 = ap (λ n. 3 * n) (layer_first_lem s) in
    let last = ap (λ z. 3 * layer_first s z) end in
    let all = all_crossings s a.grey samples masks _ _ none last in
    let so = c.loop-z.invariant.1 in record { places = rw (samples_whole s samples c.requires.whole.none) at (places_laid s a.grey samples masks _ _ c.loop-z.n (first_rooms (goal.at.returns c).Start) after so _ all c.requires.masks_in_bounds); edges = edges_laid s a.grey samples masks _ _ c.loop-z.n (first_rooms (goal.at.returns c).Start) after so _ all c.requires.masks_in_bounds_2; marks = marks_laid s a.grey samples masks _ _ c.loop-z.n (first_rooms (goal.at.returns c).Start) after so _ all c.requires.masks_in_bounds_3 }
