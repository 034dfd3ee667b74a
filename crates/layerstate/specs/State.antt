-- The state of a run (document 02, request (v)), and how it stands in its room: the three sides, the grey value, the layers taken, 0 while the run is open, the points and the
-- triangles so far, then the kept layer, one sample a number.
use Rattle.std.specs.Prelude.{List, ◌∷◌, map, Bool, ◌&&◌, ℕ, ◌+◌, ◌*◌, ◌-◌, leb, get_or, take, drop, set, replicate}
use Rattle.std.proofs.lemmas.List.Edits.{sets}
use Rattle.grid.specs.Limits.{most_side, most_number}
use Rattle.grid.specs.Sides.{sides_fit}
use Rattle.grid.specs.Grid.{Size}
use Rattle.grid.specs.Work.{size, sample_of}

-- the places of the numbers that calls change
abbrev pub taken_at : ℕ
taken_at = 4

abbrev pub closed_at : ℕ
closed_at = 5

abbrev pub points_at : ℕ
points_at = 6

abbrev pub triangles_at : ℕ
triangles_at = 7

abbrev pub kept_at : ℕ
kept_at = 8

-- the samples of a layer and of the largest layer, and the numbers of a state
abbrev pub layer_size : Size → ℕ
layer_size n = n.nx * n.ny

abbrev pub most_layer : ℕ
most_layer = most_side * most_side

abbrev pub state_length : ℕ
state_length = kept_at + most_layer

pub record State : Type 0 where
  pub sides : Size
  pub grey : ℕ
  pub taken : ℕ
  pub closed : ℕ
  pub points : ℕ
  pub triangles : ℕ
  pub kept : List ℕ

-- the first samples of the kept layer, each by the lowest 16 bits of its number
unfoldable pub kept_in : ℕ → List ℕ → List ℕ
kept_in many room = map sample_of (take many (drop kept_at room))

-- the state that stands in a room
unfoldable pub state_in : List ℕ → State
state_in room =
    let sides = size (get_or room 0 0) (get_or room 1 0) (get_or room 2 0) in
    record {
      sides = sides;
      grey = get_or room 3 0;
      taken = get_or room taken_at 0;
      closed = get_or room closed_at 0;
      points = get_or room points_at 0;
      triangles = get_or room triangles_at 0;
      kept = kept_in (layer_size sides) room;
    }

-- its numbers are sides and a grey value
unfoldable pub is_state : State → Bool
is_state s = sides_fit s.sides.nx s.sides.ny s.sides.nz && leb s.grey most_number

-- the room after a granted opening: 0 in every number that says nothing yet
unfoldable pub opened_room : ℕ → ℕ → ℕ → ℕ → List ℕ
opened_room nx ny nz grey = nx ∷ ny ∷ nz ∷ grey ∷ replicate (state_length - taken_at) 0

-- the room after a granted layer that handed out so many points and triangles: the layers taken, both totals and the kept layer change
unfoldable pub layered_room : List ℕ → ℕ → ℕ → List ℕ → List ℕ
layered_room layer points triangles room =
    let taken = get_or room taken_at 0 + 1 in
    let allPoints = get_or room points_at 0 + points in
    let allTriangles = get_or room triangles_at 0 + triangles in
    sets (set (set (set room taken_at taken) points_at allPoints) triangles_at allTriangles) kept_at layer

-- the room after a granted closing that handed out so many points: the run is closed, and the points change
unfoldable pub closed_room : ℕ → List ℕ → List ℕ
closed_room points room = set (set room closed_at 1) points_at (get_or room points_at 0 + points)
