-- The lines of a mesh's points and triangles (document 01, "The program for small grids", output).
use Rattle.std.specs.Prelude.{List, [], ◌∷◌, ℕ, ◌+◌, ◌*◌, get_or}
use Rattle.laws.specs.Range.{join_to}
use Rattle.laws.specs.Threes.{three_at}
use Rattle.lines.specs.Line.{lettered}

-- the letters `V` and `T`
abbrev pub letter_v : ℕ
letter_v = 86

abbrev pub letter_t : ℕ
letter_t = 84

-- `V`: grid edge, smoothed x, y, z, mark
abbrev pub point_numbers : List ℕ → List ℕ → List ℕ → ℕ → List ℕ
point_numbers points edges marks i =
    get_or edges i 0 ∷ get_or points (3 * i) 0 ∷ get_or points (3 * i + 1) 0 ∷ get_or points (3 * i + 2) 0 ∷ get_or marks i 0 ∷ []

unfoldable pub points_text : List ℕ → List ℕ → List ℕ → ℕ → List ℕ
points_text points edges marks v = join_to v (λ i. lettered letter_v (point_numbers points edges marks i))

-- `T`: three points
abbrev pub triangle_numbers : List ℕ → ℕ → List ℕ
triangle_numbers triangles i = three_at triangles (3 * i)

unfoldable pub triangles_text : List ℕ → ℕ → List ℕ
triangles_text triangles t = join_to t (λ i. lettered letter_t (triangle_numbers triangles i))
