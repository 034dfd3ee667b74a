-- The levels of a summary one by one, as it is built and compared.
use Rattle.std.specs.Prelude.{◌≡◌, List, ℕ, ◌+◌, ◌-◌, ◌^◌, ◌<◌, get_or}
use Rattle.grid.specs.Limits.{halvings}
use Rattle.grid.specs.Grid.{Size}
use Rattle.summary.specs.Blocks.{block_least, block_greatest, place_of}

-- both numbers of each block of level k stand at their places in a list
pub record LevelOf (n : Size) (samples list : List ℕ) (k : ℕ) : Type 0 where
  pub leasts : (x y z : ℕ) → x < 2 ^ k → y < 2 ^ k → z < 2 ^ k → get_or list (place_of k x y z) 0 ≡ block_least n samples (halvings - k) x y z
  pub greatests : (x y z : ℕ) → x < 2 ^ k → y < 2 ^ k → z < 2 ^ k → get_or list (place_of k x y z + 1) 0 ≡ block_greatest n samples (halvings - k) x y z
