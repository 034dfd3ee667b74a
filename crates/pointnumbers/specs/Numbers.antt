-- The work room while the points are numbered.
use Rattle.std.specs.Prelude.{◌≡◌, List, true, ℕ, ◌+◌, ◌<◌, length, get_or, set}
use Rattle.grid.specs.Grid.{axes, edge_count}
use Rattle.grid.specs.Point.{number}
use Rattle.rows.specs.declared.Sides.{Sides}
use Rattle.rows.specs.declared.Cuts.{Cuts}
use Rattle.rows.specs.Rows.{size_of, words_above, cut, next_number}

-- the next number past the three edges that leave a sample, of which e is the first, and the room with a number written at each
pub record SampleNumbered (cuts : Cuts) (e n next : ℕ) (before after : List ℕ) : Type 0 where
  pub counted : next ≡ next_number cuts.z (next_number cuts.y (next_number cuts.x n))
  pub written : after ≡ set (set (set before e n) (e + 1) (next_number cuts.x n)) (e + 2) (next_number cuts.y (next_number cuts.x n))

-- the room holds the numbers of the points on the edges below e, and there are so many of them
pub record NumberedTo (sides : Sides) (masks : List ℕ) (e count : ℕ) (work : List ℕ) : Type 0 where
  pub whole : length work ≡ edge_count axes (size_of sides)
  pub counted : count ≡ number axes (size_of sides) (words_above sides masks) e
  pub ranks : (i : ℕ) → i < e → cut sides masks i ≡ true → get_or work i 0 ≡ number axes (size_of sides) (words_above sides masks) i
