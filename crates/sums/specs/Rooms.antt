-- The two rooms while the call runs: a point's area sum stands in the first, its running vector in the second.
use Rattle.std.specs.Prelude.{◌≡◌, true, List, ℕ, ◌*◌, length, get_or, Float}
use Rattle.std.specs.Float.{nan}
use Rattle.grid.specs.Limits.{most_coordinate}
use Rattle.mesh.specs.Check.{all_within}
use Rattle.measures.specs.Vectors.{vector_at}
use Rattle.sums.specs.Sums.{Sum, sums}

unfoldable pub sum_at : List Float → List Float → ℕ → Sum
sum_at areas vectors point = sums (get_or areas point nan) (vector_at vectors (3 * point))

-- each point has a place within the limit, a number in the first room and three in the second
pub record RoomsFit (points : List ℕ) (areas vectors : List Float) : Type 0 where
  pub points_fit : length points ≡ 3 * length areas
  pub vectors_fit : length vectors ≡ 3 * length areas
  pub coordinates_fit : all_within most_coordinate points ≡ true
