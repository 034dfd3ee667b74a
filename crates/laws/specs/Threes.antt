-- Lists of numbers in threes, as rooms hold triangles and points.
use Rattle.std.specs.Prelude.{List, [], ◌∷◌, ℕ, ◌+◌, get_or}

-- the three numbers that stand in a list from a place on
abbrev pub three_at : List ℕ → ℕ → List ℕ
three_at xs at = get_or xs at 0 ∷ get_or xs (at + 1) 0 ∷ get_or xs (at + 2) 0 ∷ []
