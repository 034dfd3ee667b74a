-- What the three calls leave behind: number, counts, result rooms and state room, whole, with the refusals in their order.
use Rattle.std.specs.Prelude.{List, ◌++◌, cond, not, ◌||◌, ℕ, zero, suc, ◌-◌, ◌/◌, min, eqb, leb, ltb, length}
use Rattle.laws.specs.Room.{laid}
use Rattle.laws.specs.Mesh.{flat}
pub use Rattle.grid.specs.Refusal.{layer_amiss, closed_early}
use Rattle.grid.specs.Limits.{most_points, most_triangles}
use Rattle.grid.specs.Sides.{sides_fit}
use Rattle.rows.specs.Rows.{zeros_below}
use Rattle.layerstate.specs.State.{layer_size, state_length, State, state_in, is_state, opened_room, layered_room, closed_room}
use Rattle.layerparts.specs.Layer.{Handed, nothing, layer_through, last_layer}
use Rattle.layerparts.specs.Parts.{too_many}

-- the number that an opening answers, and the state room
pub record Opened : Type 0 where
  pub number : ℕ
  pub state : List ℕ

-- an opening: 1 for its sides, then 3 for the room's length
unfoldable pub opened : ℕ → ℕ → ℕ → ℕ → List ℕ → Opened
opened nx ny nz grey room =
    cond (not (sides_fit nx ny nz)) (record { number = 1; state = room })
    (cond (not (eqb (length room) state_length)) (record { number = 3; state = room }) (record { number = 0; state = opened_room nx ny nz grey }))

-- the lent result rooms; a closing lends none for triangles
pub record Rooms : Type 0 where
  pub points : List ℕ
  pub edges : List ℕ
  pub marks : List ℕ
  pub triangles : List ℕ

-- the number and the counts that a layer or a closing answers, and the whole content of each room
pub record Outcome : Type 0 where
  pub number : ℕ
  pub point_count : ℕ
  pub triangle_count : ℕ
  pub rooms : Rooms
  pub state : List ℕ

-- What a layer hands out. The volume is the kept layer and the new one in their places z and z + 1, with zeros below; the first layer hands out nothing.
unfoldable pub layer_hands : State → ℕ → List ℕ → Handed
layer_hands s zero layer = nothing
layer_hands s (suc z) layer = layer_through s.sides s.grey (zeros_below (layer_size s.sides) z (s.kept ++ layer)) z

-- what a closing hands out: the points of the last layer, which is the kept one
unfoldable pub closing_hands : State → Handed
closing_hands s =
    let z = s.sides.nz - 1 in
    last_layer s.sides s.grey (zeros_below (layer_size s.sides) z s.kept) z

-- so many points or triangles fit rooms that count their whole threes
abbrev pub point_room : Rooms → ℕ
point_room r = min (length r.points / 3) (min (length r.edges) (length r.marks))

abbrev pub triangle_room : Rooms → ℕ
triangle_room r = length r.triangles / 3

module _ (r : Rooms) (room : List ℕ) where
  -- a refusal gives zero counts and leaves every room
  unfoldable pub refused : ℕ → Outcome
  refused number = record { number = number; point_count = 0; triangle_count = 0; rooms = r; state = room }

  -- what is handed out fills the result rooms from the front
  unfoldable pub granted : Handed → List ℕ → Outcome
  granted h after =
      record {
        number = 0;
        point_count = length h.edges;
        triangle_count = length h.triangles;
        rooms =
            record {
              points = laid h.places r.points;
              edges = laid h.edges r.edges;
              marks = laid h.marks r.marks;
              triangles = laid (flat h.triangles) r.triangles;
            };
        state = after;
      }

  -- 4 for the points, then 5 for the triangles
  unfoldable pub layer_measured : List ℕ → Handed → Outcome
  layer_measured layer h =
      let s = state_in room in
      let points = length h.edges in
      let triangles = length h.triangles in
      cond (too_many most_points s.points (point_room r) points) (refused 4)
      (cond (too_many most_triangles s.triangles (triangle_room r) triangles) (refused 5) (granted h (layered_room layer points triangles room)))

  unfoldable pub closing_measured : Handed → Outcome
  closing_measured h =
      let points = length h.edges in
      cond (too_many most_points (state_in room).points (point_room r) points) (refused 4) (granted h (closed_room points room))

  -- 3 for a state room of another length, then 1 where its numbers are no sides or no grey value
  unfoldable pub with_state : Outcome → Outcome
  with_state next = cond (not (eqb (length room) state_length)) (refused 3) (cond (not (is_state (state_in room))) (refused 1) next)

  -- a layer: 17 for its length, for one too many and for a closed run
  unfoldable pub layered : List ℕ → Outcome
  layered layer =
      let s = state_in room in
      with_state
      (cond (not (eqb (length layer) (layer_size s.sides)) || (leb s.sides.nz s.taken || not (eqb s.closed 0))) (refused layer_amiss)
      (layer_measured layer (layer_hands s s.taken layer)))

  -- a closing: 18 for one too early and for a closed run
  unfoldable pub closed : Outcome
  closed =
      let s = state_in room in
      with_state (cond (ltb s.taken s.sides.nz || not (eqb s.closed 0)) (refused closed_early) (closing_measured (closing_hands s)))
