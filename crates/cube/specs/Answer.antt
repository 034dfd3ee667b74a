-- The answer for a case (document 01, "One cube", last paragraph).
use mathlib.Core.List.{List, [], ◌∷◌, map, flat_map, flatten}
use Rattle.std.specs.Prelude.{ℕ, ◌*◌, length, get_or}
use Rattle.laws.specs.Range.{join_to}
use Rattle.laws.specs.Mesh.{Arrow, Triangle, triangle, corners_of}
use Rattle.cube.specs.Cube.{cases, is_above, edge_between, cube_edges}
use Rattle.cube.specs.Face.{go_round, segments_of}
use Rattle.cube.specs.Loop.{loops, from_start, fan}

-- the six faces as rings of corners, counterclockwise as seen from outside: x = 0, x = 1, y = 0, y = 1, z = 0, z = 1
abbrev pub cube_faces : List (List ℕ)
cube_faces =
    (0 ∷ 4 ∷ 6 ∷ 2 ∷ [])
    ∷ (1 ∷ 3 ∷ 7 ∷ 5 ∷ [])
    ∷ (0 ∷ 1 ∷ 5 ∷ 4 ∷ [])
    ∷ (2 ∷ 6 ∷ 7 ∷ 3 ∷ [])
    ∷ (0 ∷ 2 ∷ 3 ∷ 1 ∷ [])
    ∷ (4 ∷ 5 ∷ 7 ∷ 6 ∷ [])
    ∷ []

unfoldable pub segments : ℕ → List Arrow
segments k = segments_of (is_above k) edge_between cube_faces

-- the fan of a loop from its start, which the cube's faces decide, each as the list of its edges
unfoldable pub fan_of : List ℕ → List Triangle
unfolding fan from_start
fan_of loop = fan (from_start (map (go_round edge_between) cube_faces) cube_edges loop)

unfoldable pub triangles : ℕ → List Triangle
triangles k = flat_map fan_of (loops cube_edges (segments k))

unfoldable pub count : ℕ → ℕ
count k = length (triangles k)

-- the three edge numbers of the case's triangle n; zeros where it has none
unfoldable pub corners_at : ℕ → ℕ → List ℕ
corners_at k n = corners_of (get_or (triangles k) n (triangle 0 0 0))

-- no case has more triangles, and its answer has so many numbers
abbrev pub most_case_triangles : ℕ
most_case_triangles = 5

abbrev pub case_length : ℕ
case_length = 3 * most_case_triangles

-- five triangles of three edge numbers each, unused ones zero
unfoldable pub answer : ℕ → List (List ℕ)
answer k = corners_at k 0 ∷ corners_at k 1 ∷ corners_at k 2 ∷ corners_at k 3 ∷ corners_at k 4 ∷ []

-- the table: fifteen edge numbers for each of the cases
unfoldable pub row : ℕ → List ℕ
row k = flatten (answer k)

unfoldable pub table : List ℕ
table = join_to cases row

unfoldable pub count_table : List ℕ
count_table = join_to cases (λ k. count k ∷ [])
