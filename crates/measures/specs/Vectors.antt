-- Numbers and vectors in binary64, each operation rounded once.
use Rattle.std.specs.Prelude.{List, [], ◌∷◌, ℕ, ◌+◌, get_or, set, ℤ, pos, Float, false}
use Rattle.std.specs.Float.{nan, fin, binary64}
use Rattle.std.specs.Float.Ieee.{of_int, add, mul, div}
use Rattle.measures.specs.declared.sides.Side.{Side}
use Rattle.measures.specs.declared.vectors.Vector.{Vector}

-- +0.0
abbrev pub plus_zero : Float
plus_zero = fin false 0 (pos 0)

-- a whole number as a binary64; those of a triangle are below 2^53, so nothing is rounded here
abbrev pub whole : ℤ → Float
whole z = of_int binary64 z

abbrev pub vector : Float → Float → Float → Vector
vector x y z = record { x = x; y = y; z = z }

abbrev pub no_vector : Vector
no_vector = vector plus_zero plus_zero plus_zero

-- a side's three coordinates
unfoldable pub of_side : Side → Vector
of_side u = vector (whole u.x) (whole u.y) (whole u.z)

unfoldable pub plus : Vector → Vector → Vector
plus v w = vector (add binary64 v.x w.x) (add binary64 v.y w.y) (add binary64 v.z w.z)

unfoldable pub times : Float → Vector → Vector
times k v = vector (mul binary64 k v.x) (mul binary64 k v.y) (mul binary64 k v.z)

unfoldable pub over : Vector → Float → Vector
over v k = vector (div binary64 v.x k) (div binary64 v.y k) (div binary64 v.z k)

-- a vector's three numbers in a list
abbrev pub numbers_of : Vector → List Float
numbers_of v = v.x ∷ v.y ∷ v.z ∷ []

-- the three numbers that stand in a room from a place on, and the room with three others put there
unfoldable pub vector_at : List Float → ℕ → Vector
vector_at room at = vector (get_or room at nan) (get_or room (at + 1) nan) (get_or room (at + 2) nan)

unfoldable pub put_vector : List Float → ℕ → Vector → List Float
put_vector room at v = set (set (set room at v.x) (at + 1) v.y) (at + 2) v.z
