-- What the parts of a call rely on, and what they leave. The lent layers are those from `below` on, of which the first is handed out.
use Rattle.std.specs.Prelude.{Bool, cond, not, ◌&&◌, ◌||◌, ℕ, ◌+◌, ◌*◌, ltb, length}
use mathlib.Core.List.{List, map, flat_map}
use Rattle.laws.specs.Room.{laid}
use Rattle.cube.specs.Answer.{most_case_triangles}
use Rattle.grid.specs.Limits.{most_points, most_triangles}
use Rattle.grid.specs.Grid.{axes, is_above_grey, mark}
use Rattle.grid.specs.Point.{place}
use Rattle.rows.specs.declared.Sides.{Sides}
use Rattle.rows.specs.Rows.{SidesOf, size_of, words_above, grid_samples}
use Rattle.edgepoints.specs.EdgePoint.{PointRooms, point_rooms}
use Rattle.layerstate.specs.declared.Head.{Head}
use Rattle.layerparts.specs.Layer.{layer_edges, layer_triangles}

-- with this call's, those of the run exceed the bound, or this call's exceed the room
abbrev pub too_many : ℕ → ℕ → ℕ → ℕ → Bool
too_many most so_far room count = ltb most (so_far + count) || ltb room count

-- the sides are a state's, with the words of their rows
abbrev pub Framed : Head → ℕ → Sides → Type 0
Framed head first sides = SidesOf head.nx head.ny head.nz first sides

-- is there room for whatever a layer can have: three points a sample, and five triangles a cube, of which there are fewer than samples
abbrev pub surely_fits : Head → Sides → ℕ → ℕ → Bool
surely_fits head sides room triangle_room =
    not (too_many most_points head.points room (3 * (sides.nx * sides.ny))) && not (too_many most_triangles head.triangles triangle_room (most_case_triangles * (sides.nx * sides.ny)))

-- the crossed edges of the first lent layer, by the words, and how many triangles the cubes over it have
unfoldable pub word_edges : Sides → List ℕ → List ℕ
word_edges sides masks = layer_edges (size_of sides) (words_above sides masks) sides.below

unfoldable pub triangle_count : Sides → List ℕ → ℕ
triangle_count sides masks = length (layer_triangles (size_of sides) (words_above sides masks) sides.below)

-- 4 for the points, then 5 for the triangles, or 0
unfoldable pub refusal_for : Head → ℕ → ℕ → ℕ → ℕ → ℕ
refusal_for head room triangle_room points triangles =
    cond (too_many most_points head.points room points) 4 (cond (too_many most_triangles head.triangles triangle_room triangles) 5 0)

-- the crossed edges of the first lent layer, by the samples, and its points laid in their rooms
unfoldable pub lent_edges : Sides → ℕ → List ℕ → List ℕ
lent_edges sides grey samples = layer_edges (size_of sides) (is_above_grey grey (grid_samples sides samples)) sides.below

unfoldable pub points_laid : Sides → ℕ → List ℕ → PointRooms → PointRooms
points_laid sides grey samples r =
    let found = lent_edges sides grey samples in
    point_rooms (laid (flat_map (place axes (size_of sides) grey (grid_samples sides samples)) found) r.points) (laid found r.edges) (laid (map (mark axes (size_of sides)) found) r.marks)
