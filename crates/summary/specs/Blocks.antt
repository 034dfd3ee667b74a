-- The summary of the samples (document 02, (vi)): each block of cubes with the least and the greatest sample of its cubes' corners.
use Rattle.std.specs.Prelude.{Bool, true, false, cond, ◌&&◌, List, [], ◌∷◌, ℕ, zero, suc, ◌+◌, ◌*◌, ◌-◌, ◌^◌, min, max, eqb, ltb, get_or}
use Rattle.laws.specs.Range.{join_to, join_box}
use Rattle.laws.specs.Least.{gathered}
use Rattle.cube.specs.Cube.{corner_x, corner_y, corner_z}
use Rattle.grid.specs.Limits.{most_number, halvings}
use Rattle.grid.specs.Grid.{Size}
use Rattle.grid.specs.Mesh.{corner_site}

-- a cube is in the grid when there are samples at all its corners
unfoldable pub in_grid : Size → ℕ → ℕ → ℕ → Bool
in_grid n x y z = ltb (x + 1) n.nx && (ltb (y + 1) n.ny && ltb (z + 1) n.nz)

-- the corners of a cube, and the halves of a block along each axis, numbered alike: x + 2y + 4z with x, y, z in 0..1
abbrev pub eight : List ℕ
eight = 0 ∷ 1 ∷ 2 ∷ 3 ∷ 4 ∷ 5 ∷ 6 ∷ 7 ∷ []

-- what there is of half h of block (x, y, z)
abbrev pub half : {A : Type 0} → (ℕ → ℕ → ℕ → A) → ℕ → ℕ → ℕ → ℕ → A
half f x y z h = f (2 * x + corner_x h) (2 * y + corner_y h) (2 * z + corner_z h)

-- The least number of a block with `min` and 65,535, the greatest with `max` and 0.
module _ (op : ℕ → ℕ → ℕ) (outside : ℕ) (n : Size) (samples : List ℕ) where
  -- of a cube's corners, if it is in the grid
  unfoldable pub cube_number : ℕ → ℕ → ℕ → ℕ
  cube_number x y z = cond (in_grid n x y z) (gathered op (λ c. get_or samples (corner_site n x y z c) 0) eight) outside

  -- of block (x, y, z), where a block can be halved so many times: of its eight halves' numbers
  unfoldable pub block_number : ℕ → ℕ → ℕ → ℕ → ℕ
  block_number zero x y z = cube_number x y z
  block_number (suc j) x y z = gathered op (half (block_number j) x y z) eight

-- a block without a cube of the grid has 65,535 and 0
abbrev pub block_least : Size → List ℕ → ℕ → ℕ → ℕ → ℕ → ℕ
block_least = block_number min most_number

abbrev pub block_greatest : Size → List ℕ → ℕ → ℕ → ℕ → ℕ → ℕ
block_greatest = block_number max 0

-- level k has 2^k blocks a side, and begins where the level before it ends: at 0, 2, 18, 146, 1,170, 9,362 and 74,898
unfoldable pub level_start : ℕ → ℕ
level_start zero = 0
level_start (suc k) = level_start k + 2 * 8 ^ k

-- where the least of block (x, y, z) of level k stands; its greatest is next
unfoldable pub place_of : ℕ → ℕ → ℕ → ℕ → ℕ
place_of k x y z = level_start k + 2 * (x + 2 ^ k * (y + 2 ^ k * z))

module _ (n : Size) (samples : List ℕ) where
  -- the blocks of a level, x fastest, then y, then z: two numbers a block, the least first
  unfoldable pub level_numbers : ℕ → List ℕ
  level_numbers k =
      let j = halvings - k in
      join_box (2 ^ k) (2 ^ k) (2 ^ k) (λ x y z. block_least n samples j x y z ∷ block_greatest n samples j x y z ∷ [])

  -- from the whole block down to the single cubes
  unfoldable pub summary_of : List ℕ
  summary_of = join_to (halvings + 1) level_numbers

-- 599,186 numbers in all
unfoldable pub summary_length : ℕ
summary_length = level_start (halvings + 1)

-- are two lists the same, number by number
unfoldable pub same_numbers : List ℕ → List ℕ → Bool
same_numbers [] [] = true
same_numbers [] (y ∷ ys) = false
same_numbers (x ∷ xs) [] = false
same_numbers (x ∷ xs) (y ∷ ys) = eqb x y && same_numbers xs ys

-- is a list the summary of the samples: as long as it, and the same in each number
unfoldable pub is_summary : Size → List ℕ → List ℕ → Bool
is_summary n samples list = same_numbers list (summary_of n samples)
