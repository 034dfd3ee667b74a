-- What the parts that look rely on, and what they leave.
use Rattle.std.specs.Prelude.{◌≡◌, Bool, ◌&&◌, ◌||◌, List, ℕ, ◌+◌, ◌*◌, ◌-◌, ◌/◌, ◌^◌, ◌<◌, ◌≤◌, eqb}
use Rattle.laws.specs.Range.{sum_to, some_to}
use Rattle.cube.specs.Cube.{corner_x, corner_y, corner_z}
use Rattle.grid.specs.Limits.{halvings, most_side, most_rows}
use Rattle.grid.specs.Work.{is_found}
use Rattle.summary.specs.Blocks.{half, level_start}
use Rattle.summary.specs.Steps.{looked, found}
use Rattle.steps.specs.declared.Block.{Block}

-- a word for each row of cubes
abbrev pub found_words : ℕ
found_words = most_rows

-- a block of the whole block, with its level's start and side
pub record BlockFits (b : Block) : Type 0 where
  pub in_levels : b.halvings ≤ halvings
  pub start : b.start ≡ level_start (halvings - b.halvings)
  pub side : b.side ≡ 2 ^ (halvings - b.halvings)
  pub in_x : b.x < b.side
  pub in_y : b.y < b.side
  pub in_z : b.z < b.side

-- half h of a block
abbrev pub half_block : Block → ℕ → Block
half_block b h =
    record {
      halvings = b.halvings - 1;
      start = 8 * b.start + 2;
      side = 2 * b.side;
      x = 2 * b.x + corner_x h;
      y = 2 * b.y + corner_y h;
      z = 2 * b.z + corner_z h;
    }

-- cube (a, b, c) is one of block (x, y, z), which can be halved j times
abbrev pub is_in : ℕ → ℕ → ℕ → ℕ → ℕ → ℕ → ℕ → Bool
is_in j x y z a b c = eqb (a / 2 ^ j) x && (eqb (b / 2 ^ j) y && eqb (c / 2 ^ j) z)

-- and is found from that block on
unfoldable pub found_from : (ℕ → ℕ → ℕ → ℕ → Bool) → ℕ → ℕ → ℕ → ℕ → ℕ → ℕ → ℕ → Bool
found_from step j x y z a b c = is_in j x y z a b c && found step j a b c

-- the same from one of the first so many halves of block (x, y, z) on, each of which can be halved j times
unfoldable pub found_in : (ℕ → ℕ → ℕ → ℕ → Bool) → ℕ → ℕ → ℕ → ℕ → ℕ → ℕ → ℕ → ℕ → Bool
found_in step j x y z many a b c = some_to many (λ h. half (λ p q r. found_from step j p q r a b c) x y z h)

-- the blocks that are looked at from the halves of a block on
abbrev pub looked_in : (ℕ → ℕ → ℕ → ℕ → Bool) → Block → ℕ
looked_in step b = sum_to 8 (half (looked step (b.halvings - 1)) b.x b.y b.z)

-- the bits of some cubes are set besides those that were
abbrev pub Marks : List ℕ → List ℕ → (ℕ → ℕ → ℕ → Bool) → Type 0
Marks entry exit test = (a b c : ℕ) → b < most_side → c < most_side → is_found exit a b c ≡ (is_found entry a b c || test a b c)
