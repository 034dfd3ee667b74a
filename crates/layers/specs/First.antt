-- What the part of a call leaves that takes a first layer, which hands out nothing: 4 and 5 for the totals of the state.
use Rattle.std.specs.Prelude.{List, cond, ℕ, ltb}
use Rattle.grid.specs.Limits.{most_points, most_triangles}
use Rattle.layerstate.specs.State.{state_in, layered_room}
use Rattle.layers.specs.Outcome.{Opened}

unfoldable pub first_taken : List ℕ → List ℕ → Opened
first_taken layer room =
    let s = state_in room in
    cond (ltb most_points s.points) (record { number = 4; state = room })
    (cond (ltb most_triangles s.triangles) (record { number = 5; state = room }) (record { number = 0; state = layered_room layer 0 0 room }))
