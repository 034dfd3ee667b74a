-- A mesh in three lists: points, three coordinates each; triangles, three point numbers each; and marks. V is the length of the marks.
use Rattle.std.specs.Prelude.{List, [], ◌∷◌, ℕ, ◌+◌, ◌*◌, ◌/◌, length, get_or}
use Rattle.laws.specs.Range.{join_to}
use Rattle.laws.specs.Mesh.{Triangle, triangle}

-- how many triangles a list of numbers holds, and the i-th of them
abbrev pub triangle_count : List ℕ → ℕ
triangle_count ts = length ts / 3

abbrev pub triangle_at : List ℕ → ℕ → Triangle
triangle_at ts i = triangle (get_or ts (3 * i) 0) (get_or ts (3 * i + 1) 0) (get_or ts (3 * i + 2) 0)

-- all of them, in order
unfoldable pub triangles_of : List ℕ → List Triangle
triangles_of ts = join_to (triangle_count ts) (λ i. triangle_at ts i ∷ [])
