-- One row of blocks along x, and one level of a list, as they are worked out and compared.
use Rattle.std.specs.Prelude.{◌≡◌, Bool, true, false, List, ℕ, ◌+◌, ◌^◌, ◌<◌, ◌≤◌, min, max, length, get_or}
use Rattle.laws.specs.Least.{gathered}
use Rattle.grid.specs.Limits.{halvings}
use Rattle.grid.specs.Grid.{Size, sample_count}
use Rattle.grid.specs.Work.{size, SidesFit}
use Rattle.summary.specs.Blocks.{eight, half, block_least, block_greatest, place_of, level_start, summary_length}
use Rattle.summary.specs.Levels.{LevelOf}

-- the first so many blocks of row (y, z), each of which can be halved j times: their leasts and their greatests
pub record RowOf (n : Size) (samples : List ℕ) (j y z many : ℕ) (least greatest : List ℕ) : Type 0 where
  pub leasts : (x : ℕ) → x < many → get_or least x 0 ≡ block_least n samples j x y z
  pub greatests : (x : ℕ) → x < many → get_or greatest x 0 ≡ block_greatest n samples j x y z

-- row (y, z) of level k, from its blocks' halves in a list
pub record HalvesOf (list : List ℕ) (k y z : ℕ) (least greatest : List ℕ) : Type 0 where
  pub leasts : (x : ℕ) → x < 2 ^ k → get_or least x 0 ≡ gathered min (half (λ a b c. get_or list (place_of (k + 1) a b c) 0) x y z) eight
  pub greatests : (x : ℕ) → x < 2 ^ k → get_or greatest x 0 ≡ gathered max (half (λ a b c. get_or list (place_of (k + 1) a b c + 1) 0) x y z) eight

-- a grid and its samples are as they have to be, a list is as long as a summary, and the level below level k is there if k has one
pub record LevelFits (nx ny nz k : ℕ) (samples list : List ℕ) : Type 0 where
  pub fits : SidesFit nx ny nz
  pub all : length samples ≡ sample_count (size nx ny nz)
  pub long : length list ≡ summary_length
  pub level : k ≤ halvings
  pub below : k < halvings → LevelOf (size nx ny nz) samples list (k + 1)

-- what is told of level k of a list: whether it differs
pub record Tells (n : Size) (samples list : List ℕ) (k : ℕ) (differs : Bool) : Type 0 where
  pub apart : differs ≡ true → LevelOf n samples list k → ⊥
  pub same : differs ≡ false → LevelOf n samples list k

-- level k is written, and what stands behind it is as it was
pub record Levelled (n : Size) (samples : List ℕ) (k : ℕ) (entry exit : List ℕ) : Type 0 where
  pub level : LevelOf n samples exit k
  pub behind : (p : ℕ) → level_start (k + 1) ≤ p → get_or exit p 0 ≡ get_or entry p 0
