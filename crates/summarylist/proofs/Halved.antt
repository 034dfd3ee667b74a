-- The numbers of a row of blocks, from the four rows of their halves in a list.
use mathlib.Core.Path.{◌≡◌, ap, ap₂, sym, ◌∙◌}
use mathlib.Core.List.{List}
use Prim.Native.Nat.{ℕ, suc, ◌+◌, ◌*◌, ◌-◌, ◌^◌, ◌<◌, ◌≤◌, min, max}
use native.Mathlib.Nat.{pow-suc}
use native.Mathlib.Numerals.{add-one}
use native.Mathlib.Omega.{arith}
use lib.ListN.{get_or}
use Rattle.laws.specs.Room.{laid}
use Rattle.laws.specs.Values.{list_to}
use Rattle.laws.specs.Least.{gathered}
use Rattle.laws.proofs.Digits.{low_lt}
use Rattle.laws.proofs.Values.{laid_at}
use Rattle.cube.specs.Cube.{corner_x, corner_y, corner_z}
use Rattle.grid.specs.Limits.{halvings, most_number, most_side}
use Rattle.grid.specs.Grid.{Size}
use Rattle.summary.specs.Blocks.{eight, half, block_number, level_start, place_of, summary_length}
use Rattle.summary.specs.Levels.{LevelOf}
use Rattle.blockrows.specs.Numbers.{four_of, halves_of}
use Rattle.summarylist.specs.Rows.{RowOf, HalvesOf}
use Rattle.summarylist.proofs.Eight.{AnyOrder, eight_there}
use Rattle.summarylist.proofs.Starts.{side_of, is_side_lem, side_most, row_ends, level_ends}

-- of a row of blocks: how far the next rows of halves are, along y and along z, and where the first of them starts, from where their level does
abbrev pub back_of : ℕ → ℕ
back_of side = 4 * side

abbrev pub up_of : ℕ → ℕ
up_of side = 2 * side * back_of side

abbrev pub first_of : ℕ → ℕ → ℕ → ℕ → ℕ
first_of start side y z = start + 2 * (back_of side * y + up_of side * z)

-- a level that has one below it
module _ (k : ℕ) (lk : k < halvings) where
  abbrev side : ℕ
  side = side_of k

  has_side : side ≡ 2 ^ k
  has_side = is_side_lem k (omega arith)

  halved_side : 2 ^ (k + 1) ≡ 2 * side
  halved_side = rw (add-one k, pow-suc 2 k, has_side) (omega arith)

  pub halves_most : 2 * side ≤ most_side
  halves_most = rw halved_side at (side_most (k + 1) (omega arith))

  module _ (y z : ℕ) where
    -- the four rows are in the list
    pub halves_end : y < 2 ^ k → z < 2 ^ k → first_of (level_start (k + 1)) side y z + up_of side + back_of side + back_of side ≤ summary_length
    halves_end ly lz =
        let row = low_lt (2 * y + 1) (2 * side) (2 * z + 1) (2 * side) (omega (arith, has_side)) (omega (arith, has_side)) in
        omega (arith, rw halved_side at (row_ends (k + 1) (2 * y + 1 + 2 * side * (2 * z + 1)) (rw halved_side row)), level_ends (k + 1) (omega arith))

    module _ (op : ℕ → ℕ → ℕ) (any : AnyOrder op) (list : List ℕ) where
      -- what the columns are made of
      abbrev column_of : ℕ → ℕ
      column_of = four_of op list (first_of (level_start (k + 1)) side y z) (back_of side) (up_of side)

      -- the number at a place, 0 or 1, of the two of each half
      block_of_halves : (x place : ℕ) → gathered op (half (λ a b c. get_or list (place_of (k + 1) a b c + place) 0) x y z) eight
          ≡ op (column_of (4 * x + place)) (column_of (4 * x + 2 + place))
      unfolding place_of
      block_of_halves x place =
          eight_there op any list (first_of (level_start (k + 1)) side y z) (back_of side) (up_of side) (4 * x + place) (4 * x + 2 + place)
          (λ a b c. get_or list (place_of (k + 1) (2 * x + a) (2 * y + b) (2 * z + c) + place) 0)
          (λ b c. ap (λ p. get_or list p 0) (rw halved_side (omega arith)))
          (λ b c. ap (λ p. get_or list p 0) (rw halved_side (omega arith)))

      pub halves_row : (had room : List ℕ) {numbers columns : List ℕ} (x place : ℕ) → x < 2 ^ k → place < 2
          → columns ≡ laid (list_to (back_of side) column_of) had → numbers ≡ laid (list_to side (halves_of op place columns)) room
          → get_or numbers x 0 ≡ gathered op (half (λ a b c. get_or list (place_of (k + 1) a b c + place) 0) x y z) eight
      halves_row had room {numbers} {columns} x place lx lp gathers is =
          let column : (i : ℕ) → i < back_of side → get_or columns i 0 ≡ column_of i = λ i li. ap (λ xs. get_or xs i 0) gathers ∙ laid_at (back_of side) i column_of had 0 li in
          ap (λ xs. get_or xs x 0) is
          ∙ laid_at side x (halves_of op place columns) room 0 (omega (arith, has_side))
          ∙ ap₂ op (column (4 * x + place) (omega (arith, has_side))) (column (4 * x + 2 + place) (omega (arith, has_side)))
          ∙ sym (block_of_halves x place)

-- from the level below: the halves' numbers there are those of the blocks
module _ (n : Size) (samples : List ℕ) (k x y z : ℕ) (lk : k < halvings) (lx : x < 2 ^ k) (ly : y < 2 ^ k) (lz : z < 2 ^ k) where
  block_halved : (op : ℕ → ℕ → ℕ) (outside : ℕ) (v : ℕ → ℕ → ℕ → ℕ)
      → ((a b c : ℕ) → a < 2 ^ (k + 1) → b < 2 ^ (k + 1) → c < 2 ^ (k + 1) → v a b c ≡ block_number op outside n samples (halvings - (k + 1)) a b c)
      → gathered op (half v x y z) eight ≡ block_number op outside n samples (halvings - k) x y z
  unfolding block_number
  block_halved op outside v there =
      let deeper : halvings - k ≡ suc (halvings - (k + 1)) = omega arith in
      let within : (p h : ℕ) → p < 2 ^ k → h < 2 → 2 * p + h < 2 ^ (k + 1) = λ p h lp lh. rw (add-one k, pow-suc 2 k) (omega arith) in
      rw deeper (ap (λ w. gathered op w eight) (λ i h. there (2 * x + corner_x h) (2 * y + corner_y h) (2 * z + corner_z h) (within x (corner_x h) lx (omega arith)) (within y (corner_y h) ly (omega arith)) (within z (corner_z h) lz (omega arith)) i))

pub halved_row : (n : Size) (samples list least greatest : List ℕ) (k y z : ℕ) → k < halvings → y < 2 ^ k → z < 2 ^ k → LevelOf n samples list (k + 1) → HalvesOf list k y z least greatest
    → RowOf n samples (halvings - k) y z (2 ^ k) least greatest
halved_row n samples list least greatest k y z lk ly lz below halves = record {
  leasts = λ x lx. halves.leasts x lx ∙ block_halved n samples k x y z lk lx ly lz min most_number (λ a b c. get_or list (place_of (k + 1) a b c) 0) below.leasts;
  greatests = λ x lx. halves.greatests x lx ∙ block_halved n samples k x y z lk lx ly lz max 0 (λ a b c. get_or list (place_of (k + 1) a b c + 1) 0) below.greatests;
}
