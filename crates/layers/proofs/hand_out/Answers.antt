-- `layers::hand_out` meets its contract: what is refused, and what is handed out where nothing is.
use mathlib.Core.Path.{◌≡◌, ap, ap₂, sym, subst, ◌∙◌}
use mathlib.Core.List.{List, ◌++◌}
use mathlib.Core.Bool.{false}
use Prim.Native.Nat.{◌<◌, ℕ, ◌+◌, ◌*◌, ◌≤◌}
use native.Mathlib.Omega.{arith}
use lib.ListN.{length}
use Rattle.std.proofs.lemmas.Result.{err_from_is_err_and}
use Rattle.grid.proofs.Refused.{never_0}
use Rattle.laws.specs.Room.{laid}
use Rattle.laws.specs.Mesh.{flat}
use Rattle.grid.specs.Limits.{most_points, most_triangles}
use Rattle.rows.specs.declared.Sides.{Sides}
use Rattle.rows.specs.Rows.{size_of, grid_samples}
use Rattle.edgepoints.specs.EdgePoint.{point_rooms}
use Rattle.pointplaces.specs.Places.{Given}
use Rattle.layerstate.specs.State.{kept_in, layered_room}
use Rattle.layerstate.specs.Heads.{head_in}
use Rattle.layerparts.specs.Layer.{Handed, layer_through}
use Rattle.layerparts.specs.Parts.{too_many, word_edges, triangle_count, lent_edges, points_laid, refusal_for}
use Rattle.layerparts.proofs.Most.{few_of, not_refused}
use Rattle.layerparts.proofs.Said.{edges_said, triangles_said}
use Rattle.layers.specs.Outcome.{Rooms, point_room, triangle_room}
use Rattle.layers.specs.Promise.{rooms}
use Rattle.layers.proofs.Frames.{pair_lent}
use Rattle.layers.proofs.Ways.{layer_refused, layer_granted, all_left, room_for, refusal_same}
use Rattle.layers.proofs.hand_out.Goals as goal
use Rattle.layers.proofs.hand_out.Goals.{After-check_fits, After-hand_points-found, After-hand_triangles-made}

-- the rooms as they are lent
abbrev lent : List ℕ → List ℕ → List ℕ → List ℕ → Rooms
lent points edges marks triangles = rooms points edges marks triangles

-- the kept layer and the new one, and what they are to hand out
abbrev pair : Sides → List ℕ → List ℕ → List ℕ
pair sides state layer = kept_in (sides.nx * sides.ny) state ++ layer

abbrev handed : Sides → ℕ → List ℕ → List ℕ → Handed
handed sides grey state layer = layer_through (size_of sides) grey (grid_samples sides (pair sides state layer)) sides.below

-- what the words say is what is to be handed out
module _ (sides : Sides) (grey : ℕ) (state layer masks : List ℕ) (given : Given sides sides.below grey (pair sides state layer) masks) (below : sides.below + 1 < sides.nz) where
  edges_are : word_edges sides masks ≡ (handed sides grey state layer).edges
  unfolding layer_through lent_edges
  edges_are = edges_said sides grey (pair sides state layer) masks given (omega (arith, below))

  triangles_are : triangle_count sides masks ≡ length (handed sides grey state layer).triangles
  unfolding layer_through triangle_count
  triangles_are = ap length (triangles_said sides grey (pair sides state layer) masks given (omega (arith, below)) below)

-- what the call of `check_fits` says, it says of what is to be handed out
refusal_is : (c : After-check_fits)
    → let a = c.args in
    let room = lent a.points.now a.edges.now a.marks.now a.triangles.now in
    let out = handed a.sides a.grey a.state.now a.layer.now in
    refusal_for a.head c.point_room-room.result (triangle_room room) (length (word_edges a.sides a.masks.now)) (triangle_count a.sides a.masks.now)
    ≡ refusal_for (head_in a.state.now) (point_room room) (triangle_room room) (length out.edges) (length out.triangles)
refusal_is c =
    let a = c.args in
    refusal_same (triangle_room (lent a.points.now a.edges.now a.marks.now a.triangles.now)) c.requires.head_value c.point_room-room.ensures
    (ap length (edges_are a.sides a.grey a.state.now a.layer.now a.masks.now c.requires.given c.requires.below_bound))
    (triangles_are a.sides a.grey a.state.now a.layer.now a.masks.now c.requires.given c.requires.below_bound)

-- where nothing is refused there is room
module _ (room : Rooms) (state : List ℕ) (out : Handed)
    (none : refusal_for (head_in state) (point_room room) (triangle_room room) (length out.edges) (length out.triangles) ≡ 0) where
  few : (too_many most_points (head_in state).points (point_room room) (length out.edges) ≡ false)
      × (too_many most_triangles (head_in state).triangles (triangle_room room) (length out.triangles) ≡ false)
  few = not_refused (head_in state) (point_room room) (triangle_room room) (length out.edges) (length out.triangles) none

  few_points : ((head_in state).points + length out.edges ≤ most_points) × (length out.edges ≤ point_room room)
  few_points = few_of most_points (head_in state).points (point_room room) (length out.edges) few.0

  few_triangles : ((head_in state).triangles + length out.triangles ≤ most_triangles) × (length out.triangles ≤ triangle_room room)
  few_triangles = few_of most_triangles (head_in state).triangles (triangle_room room) (length out.triangles) few.1

pub returns-in_err-check_fits : goal.returns-in_err-check_fits
returns-in_err-check_fits c =
    let a = c.args in
    let room = lent a.points.now a.edges.now a.marks.now a.triangles.now in
    let e = c.in_err-check_fits.field-0.0 in
    let is = c.in_err-check_fits.ensures ∙ refusal_is (goal.at.returns-in_err-check_fits c).After-check_fits in
    let p = err_from_is_err_and c.from_residual.result c.from_residual.ensures.1 in
    rw (p.1, p.2, is) (layer_refused room a.state.now a.layer.now (handed a.sides a.grey a.state.now a.layer.now) (λ none. never_0 e (is ∙ none)))

pub hand_points-found-requires : goal.hand_points-found-requires
hand_points-found-requires c =
    let a = c.args in
    let room = lent a.points.now a.edges.now a.marks.now a.triangles.now in
    let none = sym (c.in_ok-check_fits.ensures ∙ refusal_is (goal.at.hand_points-found-requires c).After-check_fits) in
    record {
      given = subst (λ samples. Given a.sides a.sides.below a.grey samples a.masks.now) (sym (pair_lent a.state.now (a.sides.nx * a.sides.ny) a.layer.now)) c.requires.given;
      below_lt_nz = omega (arith, c.requires.below_bound);
      rooms_for = room_for room _
          (omega (arith, ap length (edges_are a.sides a.grey a.state.now a.layer.now a.masks.now c.requires.given c.requires.below_bound), (few_points room a.state.now (handed a.sides a.grey a.state.now a.layer.now) none).1));
    }

pub hand_triangles-made-requires : goal.hand_triangles-made-requires
hand_triangles-made-requires c =
    let a = c.args in
    let room = lent a.points.now a.edges.now a.marks.now a.triangles.now in
    let none = sym (c.in_ok-check_fits.ensures ∙ refusal_is (goal.at.hand_triangles-made-requires c).After-check_fits) in
    record {
      ready = c.requires.given.ready;
      below_bound = c.requires.below_bound;
      masks_in_bounds =
          omega (arith, triangles_are a.sides a.grey a.state.now a.layer.now a.masks.now c.requires.given c.requires.below_bound, (few_triangles room a.state.now (handed a.sides a.grey a.state.now a.layer.now) none).1);
    }

-- what the two calls counted
found_is : (c : After-hand_points-found) → let a = c.args in c.hand_points-found.result ≡ length (handed a.sides a.grey a.state.now a.layer.now).edges
unfolding layer_through lent_edges
found_is c =
    let a = c.args in
    c.hand_points-found.ensures.counted ∙ ap (λ samples. length (lent_edges a.sides a.grey samples)) (pair_lent a.state.now (a.sides.nx * a.sides.ny) a.layer.now)

made_is : (c : After-hand_triangles-made) → let a = c.args in c.hand_triangles-made.result ≡ length (handed a.sides a.grey a.state.now a.layer.now).triangles
made_is c =
    let a = c.args in
    c.hand_triangles-made.ensures.counted ∙ triangles_are a.sides a.grey a.state.now a.layer.now a.masks.now c.requires.given c.requires.below_bound

pub write_layered-requires : goal.write_layered-requires
write_layered-requires c =
    let a = c.args in
    let room = lent a.points.now a.edges.now a.marks.now a.triangles.now in
    let out = handed a.sides a.grey a.state.now a.layer.now in
    let none = sym (c.in_ok-check_fits.ensures ∙ refusal_is (goal.at.write_layered-requires c).After-check_fits) in
    let h = c.requires.head_value in
    let l = c.requires.state_len in
    record {
      state_len = (l.0, l.1);
      taken_at_bound = omega (arith, ap (λ h'. h'.taken) h, l.2);
      points_bound = omega (arith, found_is (goal.at.write_layered-requires c).After-hand_points-found, (few_points room a.state.now out none).0);
      triangles_bound = omega (arith, made_is (goal.at.write_layered-requires c).After-hand_triangles-made, (few_triangles room a.state.now out none).0);
    }

pub returns : goal.returns
unfolding layer_through lent_edges points_laid
returns c =
    let a = c.args in
    let room = lent a.points.now a.edges.now a.marks.now a.triangles.now in
    let out = handed a.sides a.grey a.state.now a.layer.now in
    let found = found_is (goal.at.returns c).After-hand_points-found in
    let made = made_is (goal.at.returns c).After-hand_triangles-made in
    let put = c.hand_points-found.ensures.laid ∙ ap (λ samples. points_laid a.sides a.grey samples (point_rooms a.points.now a.edges.now a.marks.now)) (pair_lent a.state.now (a.sides.nx * a.sides.ny) a.layer.now) in
    let same = triangles_said a.sides a.grey (pair a.sides a.state.now a.layer.now) a.masks.now c.requires.given (omega (arith, c.requires.below_bound)) c.requires.below_bound in
    all_left room a.state.now out found made (ap (λ r. r.points) put) (ap (λ r. r.edges) put) (ap (λ r. r.marks) put)
    (c.hand_triangles-made.ensures.laid ∙ ap (λ ts. laid (flat ts) a.triangles.now) same)
    (c.write_layered.ensures ∙ ap₂ (λ f m. layered_room a.layer.now f m a.state.now) found made)
    ∙ layer_granted room a.state.now a.layer.now out (sym (c.in_ok-check_fits.ensures ∙ refusal_is (goal.at.returns c).After-check_fits))
