-- `layers::hand_last` meets its contract: what is refused, and what is handed out where nothing is.
use mathlib.Core.Path.{◌≡◌, refl, ap, sym, subst, ◌∙◌}
use mathlib.Core.List.{List, [], flat_map}
use Prim.Native.Nat.{◌<◌, ℕ, ◌*◌}
use native.Mathlib.Omega.{arith}
use lib.ListN.{length}
use Rattle.laws.specs.Room.{laid}
use Rattle.laws.specs.Mesh.{flat}
use Rattle.grid.specs.Limits.{most_points}
use Rattle.rows.specs.declared.Sides.{Sides}
use Rattle.rows.specs.Rows.{size_of, grid_samples}
use Rattle.edgepoints.specs.EdgePoint.{point_rooms}
use Rattle.pointplaces.specs.Places.{Given}
use Rattle.layerstate.specs.State.{kept_in, closed_room}
use Rattle.layerstate.specs.Heads.{head_in}
use Rattle.layerparts.specs.Layer.{Handed, last_layer}
use Rattle.layerparts.specs.Parts.{too_many, word_edges, lent_edges, points_laid}
use Rattle.layerparts.proofs.Most.{few_of}
use Rattle.layerparts.proofs.Said.{edges_said}
use Rattle.layers.specs.Outcome.{Rooms, point_room}
use Rattle.layers.specs.Promise.{rooms}
use Rattle.layers.proofs.Frames.{kept_lent}
use Rattle.layers.proofs.Ways.{last_refused, last_granted, all_left, room_for, many_same}
use Rattle.layers.proofs.hand_last.Goals as goal
use Rattle.layers.proofs.hand_last.Goals.{After-exceeds}

-- the rooms as they are lent
abbrev lent : List ℕ → List ℕ → List ℕ → Rooms
lent points edges marks = rooms points edges marks []

-- what the kept layer is to hand out
abbrev handed : Sides → ℕ → List ℕ → Handed
handed sides grey state = last_layer (size_of sides) grey (grid_samples sides (kept_in (sides.nx * sides.ny) state)) sides.below

-- what the words say is what is to be handed out
edges_are : (sides : Sides) (grey : ℕ) (state masks : List ℕ) → Given sides sides.below grey (kept_in (sides.nx * sides.ny) state) masks → sides.below < sides.nz
    → word_edges sides masks ≡ (handed sides grey state).edges
unfolding last_layer lent_edges
edges_are sides grey state masks given below = edges_said sides grey (kept_in (sides.nx * sides.ny) state) masks given below

no_triangles : [] ≡ laid (flat []) []
unfolding laid flat flat_map
no_triangles = refl

-- what was counted, and what the call of `exceeds` says
found_is : (c : After-exceeds) → c.count_points-found.result ≡ length (handed c.args.sides c.args.grey c.args.state.now).edges
found_is c =
    let a = c.args in
    c.count_points-found.ensures ∙ ap length (edges_are a.sides a.grey a.state.now a.masks.now c.requires.given c.requires.below_lt_nz)

tested : (c : After-exceeds)
    → let a = c.args in
    too_many most_points (head_in a.state.now).points (point_room (lent a.points.now a.edges.now a.marks.now)) (length (handed a.sides a.grey a.state.now).edges) ≡ c.exceeds.result
tested c = sym (c.exceeds.ensures ∙ many_same most_points (ap (λ h. h.points) c.requires.head_value.0) c.point_room-room.ensures (found_is c))

pub returns-then-exceeds : goal.returns-then-exceeds
returns-then-exceeds c =
    let a = c.args in
    let room = lent a.points.now a.edges.now a.marks.now in
    last_refused room a.state.now (handed a.sides a.grey a.state.now) (tested (goal.at.returns-then-exceeds c).After-exceeds ∙ c.if-exceeds.true)

-- where the points are not too many there is room
pub hand_points-requires : goal.hand_points-requires
hand_points-requires c =
    let a = c.args in
    let room = lent a.points.now a.edges.now a.marks.now in
    let out = handed a.sides a.grey a.state.now in
    let few = few_of most_points (head_in a.state.now).points (point_room room) (length out.edges) (tested (goal.at.hand_points-requires c).After-exceeds ∙ c.if-exceeds.false) in
    record {
      given = subst (λ samples. Given a.sides a.sides.below a.grey samples a.masks.now) (sym (kept_lent a.state.now (a.sides.nx * a.sides.ny))) c.requires.given;
      below_lt_nz = c.requires.below_lt_nz;
      rooms_for = room_for room _ (omega (arith, ap length (edges_are a.sides a.grey a.state.now a.masks.now c.requires.given c.requires.below_lt_nz), few.1));
    }

pub returns : goal.returns
unfolding last_layer lent_edges points_laid
returns c =
    let found = found_is (goal.at.returns c).After-exceeds in
    let a = c.args in
    let room = lent a.points.now a.edges.now a.marks.now in
    let out = handed a.sides a.grey a.state.now in
    let put = c.hand_points.ensures.laid ∙ ap (λ samples. points_laid a.sides a.grey samples (point_rooms a.points.now a.edges.now a.marks.now)) (kept_lent a.state.now (a.sides.nx * a.sides.ny)) in
    all_left room a.state.now out found refl (ap (λ r. r.points) put) (ap (λ r. r.edges) put) (ap (λ r. r.marks) put) no_triangles
    (c.write_closed.ensures ∙ ap (λ f. closed_room f a.state.now) found)
    ∙ last_granted room a.state.now out (tested (goal.at.returns c).After-exceeds ∙ c.if-exceeds.false)
