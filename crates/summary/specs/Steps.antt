-- The steps of a query (document 02, (vi)): from the summary and the grey value, and no samples.
use Rattle.std.specs.Prelude.{Bool, cond, ◌&&◌, List, ℕ, zero, suc, ◌+◌, ◌-◌, ◌/◌, ◌^◌, leb, ltb, get_or}
use Rattle.laws.specs.Range.{sum_to}
use Rattle.grid.specs.Limits.{halvings}
use Rattle.summary.specs.Blocks.{half, place_of}

-- one step: is a block's least below the grey value, and its greatest not?
unfoldable pub finds : ℕ → ℕ → ℕ → Bool
finds grey least greatest = ltb least grey && leb grey greatest

-- the step at block (x, y, z), which can be halved j times, given its two numbers in the list
unfoldable pub step_at : List ℕ → ℕ → ℕ → ℕ → ℕ → ℕ → Bool
step_at summary grey j x y z = let p = place_of (halvings - j) x y z in finds grey (get_or summary p 0) (get_or summary (p + 1) 0)

-- `step` is what the step says of each block
module _ (step : ℕ → ℕ → ℕ → ℕ → Bool) where
  -- the blocks that are looked at from a block on: it, and if it is opened those from each of its eight halves on; a single cube is never opened
  unfoldable pub looked : ℕ → ℕ → ℕ → ℕ → ℕ
  looked zero x y z = 1
  looked (suc j) x y z = 1 + cond (step (suc j) x y z) (sum_to 8 (half (looked j) x y z)) 0

  -- those of them that are opened
  unfoldable pub opened : ℕ → ℕ → ℕ → ℕ → ℕ
  opened zero x y z = 0
  opened (suc j) x y z = cond (step (suc j) x y z) (1 + sum_to 8 (half (opened j) x y z)) 0

  -- is single cube (x, y, z) found, from its block that can be halved j times on: each block around it, which is opened, and itself
  unfoldable pub found : ℕ → ℕ → ℕ → ℕ → Bool
  found zero x y z = step zero x y z
  found (suc j) x y z = step (suc j) (x / 2 ^ suc j) (y / 2 ^ suc j) (z / 2 ^ suc j) && found j x y z
