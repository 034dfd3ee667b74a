-- A level of a list row by row, at the places that the code reads and writes.
use mathlib.Core.Path.{◌≡◌, refl, ap, sym, ◌∙◌}
use mathlib.Core.Bool.{Bool, true, false, not, true≢false}
use mathlib.Core.List.{List, [], ◌∷◌}
use Prim.Native.Nat.{ℕ, ◌+◌, ◌*◌, ◌-◌, ◌/◌, ◌%◌, ◌^◌, ◌<◌, ◌≤◌}
use native.Mathlib.Nat.{mod-lt, mod-add-div, div-lt_iff_lt-mul, mul-le-mul}
use native.Mathlib.Omega.{arith}
use borrow.Author.Count.{below_more}
use borrow.Author.Tests.{eqb-true, eq-eqb, not-true, not-false}
use lib.ListN.{length, get_or}
use lib.Pow.{pow_pos}
use lib.Seq.{sets}
use Rattle.laws.proofs.Tests.{both, all_at, all_holds}
use Rattle.laws.proofs.Digits.{low_mod, low_div, low_lt}
use Rattle.laws.proofs.Rows.{length_rows, entry_at}
use Rattle.laws.proofs.Writes.{sets_before, sets_at, sets_behind}
use Rattle.grid.specs.Limits.{halvings, most_side, most_rows}
use Rattle.grid.specs.Grid.{Size}
use Rattle.grid.specs.Work.{size}
use Rattle.summary.specs.Blocks.{block_least, block_greatest, level_start, place_of, summary_length}
use Rattle.summary.specs.Levels.{LevelOf}
use Rattle.blockrows.specs.Numbers.{same_row, row_numbers}
use Rattle.summarylist.specs.Rows.{RowOf, LevelFits}
use Rattle.summarylist.proofs.Starts.{side_of, is_side_lem, side_most, row_ends, level_ends}

-- both numbers of each block of row (y, z) of level k stand at their places in a list
pub record RowThere (n : Size) (samples list : List ℕ) (k y z : ℕ) : Type 0 where
  pub leasts : (x : ℕ) → x < 2 ^ k → get_or list (place_of k x y z) 0 ≡ block_least n samples (halvings - k) x y z
  pub greatests : (x : ℕ) → x < 2 ^ k → get_or list (place_of k x y z + 1) 0 ≡ block_greatest n samples (halvings - k) x y z

-- row r of level k, and so many rows
abbrev pub RowAt : Size → List ℕ → List ℕ → ℕ → ℕ → Type 0
RowAt n samples list k r = RowThere n samples list k (r % 2 ^ k) (r / 2 ^ k)

abbrev pub RowsTo : Size → List ℕ → List ℕ → ℕ → ℕ → Type 0
RowsTo n samples list k many = (r : ℕ) → r < many → RowAt n samples list k r

-- the coordinates of row r
module _ (k r : ℕ) where
  y_small : r % 2 ^ k < 2 ^ k
  y_small = mod-lt r (pow_pos k)

  z_small : r < 2 ^ k * 2 ^ k → r / 2 ^ k < 2 ^ k
  z_small l = (div-lt_iff_lt-mul (pow_pos k)).1 l

-- a level that starts behind what was changed
pub level_kept : (n : Size) (samples list changed : List ℕ) (k : ℕ) → ((p : ℕ) → level_start k ≤ p → get_or changed p 0 ≡ get_or list p 0) → LevelOf n samples list k → LevelOf n samples changed k
unfolding place_of
level_kept n samples list changed k same level = record {
  leasts = λ x y z lx ly lz. same (place_of k x y z) (omega arith) ∙ level.leasts x y z lx ly lz;
  greatests = λ x y z lx ly lz. same (place_of k x y z + 1) (omega arith) ∙ level.greatests x y z lx ly lz;
}

-- all that a level is worked out from
pub fits_kept : (nx ny nz k : ℕ) (samples list changed : List ℕ) → length changed ≡ length list → ((p : ℕ) → level_start (k + 1) ≤ p → get_or changed p 0 ≡ get_or list p 0)
    → LevelFits nx ny nz k samples list → LevelFits nx ny nz k samples changed
fits_kept nx ny nz k samples list changed long same f = record {
  fits = f.fits;
  all = f.all;
  long = long ∙ f.long;
  level = f.level;
  below = λ l. level_kept (size nx ny nz) samples list changed (k + 1) same (f.below l);
}

-- a level of a summary
module _ (k : ℕ) (lk : k ≤ halvings) where
  abbrev side : ℕ
  side = side_of k

  has_side : side ≡ 2 ^ k
  has_side = is_side_lem k lk

  squared : side * side ≡ 2 ^ k * 2 ^ k
  squared = rw has_side

  -- each row of a level, and a level from its rows
  module _ (n : Size) (samples list : List ℕ) where
    pub row_of_level : LevelOf n samples list k → (r : ℕ) → r < side * side → RowAt n samples list k r
    row_of_level level r l =
        let in_z = z_small k r (omega (arith, squared)) in
        record {
          leasts = λ x lx. level.leasts x (r % 2 ^ k) (r / 2 ^ k) lx (y_small k r) in_z;
          greatests = λ x lx. level.greatests x (r % 2 ^ k) (r / 2 ^ k) lx (y_small k r) in_z;
        }

    pub level_of_rows : (many : ℕ) → side * side ≤ many → RowsTo n samples list k many → LevelOf n samples list k
    level_of_rows many all rows = record { leasts = λ x y z lx ly lz. (row y z ly lz).leasts x lx; greatests = λ x y z lx ly lz. (row y z ly lz).greatests x lx }
      where
        row : (y z : ℕ) → y < 2 ^ k → z < 2 ^ k → RowThere n samples list k y z
        row y z ly lz =
            let in-level : y + 2 ^ k * z < many = omega (arith, squared, low_lt y (2 ^ k) z (2 ^ k) ly lz) in
            rw (low_mod y (2 ^ k) z ly, low_div y (2 ^ k) z ly) at (rows (y + 2 ^ k * z) in-level)

  -- where row r starts, and its blocks
  abbrev row_start : ℕ → ℕ
  row_start r = level_start k + 2 * side * r

  place_in_row : (x r : ℕ) → place_of k x (r % 2 ^ k) (r / 2 ^ k) ≡ row_start r + 2 * x
  unfolding place_of
  place_in_row x r = rw (mod-add-div r (2 ^ k), has_side) (omega arith)

  row_inside : (r : ℕ) → r < side * side → row_start r + 2 * side ≤ level_start (k + 1)
  row_inside r l = rw has_side (row_ends k r (rw has_side at l))

  -- what the code works out of row r: all of it is small
  pub record RowSmall (r : ℕ) : Type 0 where
    pub few : r < most_rows
    pub before_y : side * (r / 2 ^ k) ≤ r
    pub is_y : r - side * (r / 2 ^ k) ≡ r % 2 ^ k
    pub in_y : r - side * (r / 2 ^ k) < 2 ^ k
    pub in_z : r / 2 ^ k < 2 ^ k
    pub in_list : row_start r + 2 * side ≤ summary_length

  pub rows_few : side * side ≤ most_rows
  rows_few = rw has_side (mul-le-mul {n₁ = 2 ^ k} {m₁ = 2 ^ k} {n₂ = most_side} {m₂ = most_side} (side_most k lk) (side_most k lk))

  pub row_small : (r : ℕ) → r < side * side → RowSmall r
  row_small r lr =
      let digits : r % 2 ^ k + side * (r / 2 ^ k) ≡ r = rw has_side (mod-add-div r (2 ^ k)) in
      record {
        few = omega (arith, rows_few);
        before_y = omega arith;
        is_y = omega arith;
        in_y = omega (arith, y_small k r);
        in_z = z_small k r (rw has_side at lr);
        in_list = omega (arith, row_inside r lr, level_ends k lk);
      }

  -- the numbers of row r of a list are those of a row that was worked out
  abbrev SameAt : List ℕ → ℕ → List ℕ → List ℕ → Type 0
  SameAt list r least greatest = (x : ℕ) → x < side → (get_or list (row_start r + 2 * x) 0 ≡ get_or least x 0) × (get_or list (row_start r + 2 * x + 1) 0 ≡ get_or greatest x 0)

  module _ (n : Size) (samples list least greatest : List ℕ) (r : ℕ) (row : RowOf n samples (halvings - k) (r % 2 ^ k) (r / 2 ^ k) (2 ^ k) least greatest) where
    row_there : SameAt list r least greatest → RowAt n samples list k r
    row_there same = record {
      leasts = λ x l. ap (λ p. get_or list p 0) (place_in_row x r) ∙ (same x (omega (arith, has_side))).0 ∙ row.leasts x l;
      greatests = λ x l. ap (λ p. get_or list (p + 1) 0) (place_in_row x r) ∙ (same x (omega (arith, has_side))).1 ∙ row.greatests x l;
    }

    -- compared: they are the same, or not
    abbrev is_same : Bool
    is_same = same_row list (row_start r) side least greatest

    module _ {differs : Bool} (told : differs ≡ not is_same) where
      pub row_same : differs ≡ false → RowAt n samples list k r
      row_same h =
          let all = not-false is_same (sym told ∙ h) in
          row_there (λ x l. let s = both _ _ (all_at side _ all x l) in (eqb-true _ _ s.0, eqb-true _ _ s.1))

      pub row_apart : differs ≡ true → RowAt n samples list k r → ⊥
      row_apart h there =
          let all : is_same ≡ true = all_holds side _ (λ x l.
          let lx : x < 2 ^ k = omega (arith, has_side) in
          let low = ap (λ p. get_or list p 0) (sym (place_in_row x r)) ∙ there.leasts x lx ∙ sym (row.leasts x lx) in
          let high = ap (λ p. get_or list (p + 1) 0) (sym (place_in_row x r)) ∙ there.greatests x lx ∙ sym (row.greatests x lx) in
          rw (eq-eqb _ _ low, eq-eqb _ _ high)) in
          true≢false (sym all ∙ not-true is_same (sym told ∙ h))

  -- row r of a list stored in it
  module _ (n : Size) (samples list changed least greatest : List ℕ) (r : ℕ) (row : RowOf n samples (halvings - k) (r % 2 ^ k) (r / 2 ^ k) (2 ^ k) least greatest)
      (is : changed ≡ sets list (row_start r) (row_numbers side least greatest)) where
    abbrev pair_at : ℕ → List ℕ
    pair_at x = get_or least x 0 ∷ get_or greatest x 0 ∷ []

    row_long : length (row_numbers side least greatest) ≡ side * 2
    row_long = length_rows 2 pair_at (λ x. refl) side

    -- its numbers stand there
    same_stored : row_start r + 2 * side ≤ length list → SameAt changed r least greatest
    same_stored inside x l = (number 0 (row_start r + 2 * x) (omega arith) (omega arith), number 1 (row_start r + 2 * x + 1) (omega arith) (omega arith))
      where
        number : (b p : ℕ) → b < 2 → p ≡ row_start r + (x * 2 + b) → get_or changed p 0 ≡ get_or (pair_at x) b 0
        number b p lb e =
            rw (is, e)
            (sets_at list (row_start r) (row_numbers side least greatest) (x * 2 + b) 0 (omega (arith, row_long)) (omega (arith, row_long))
            ∙ entry_at 2 pair_at (λ x. refl) side x b 0 l lb)

    -- the rows before it stay
    row_kept : (s : ℕ) → s < r → RowAt n samples list k s → RowAt n samples changed k s
    row_kept s ls there = record { leasts = λ x l. same _ (omega (arith, before x l)) ∙ there.leasts x l; greatests = λ x l. same _ (before x l) ∙ there.greatests x l }
      where
        before : (x : ℕ) → x < 2 ^ k → place_of k x (s % 2 ^ k) (s / 2 ^ k) + 1 < row_start r
        before x l = omega (arith, place_in_row x s, low_lt x side s r (omega (arith, has_side)) ls)

        same : (p : ℕ) → p < row_start r → get_or changed p 0 ≡ get_or list p 0
        same p l = rw is (sets_before list (row_start r) (row_numbers side least greatest) p 0 l)

    pub rows_more : row_start r + 2 * side ≤ length list → RowsTo n samples list k r → RowsTo n samples changed k (r + 1)
    rows_more inside rows = below_more _ r (λ s l. row_kept s l (rows s l)) (row_there n samples changed least greatest r row (same_stored inside))

    -- and so does what stands behind the level
    pub behind_kept : r < side * side → (p : ℕ) → level_start (k + 1) ≤ p → get_or changed p 0 ≡ get_or list p 0
    behind_kept lr p lp = rw is (sets_behind list (row_start r) (row_numbers side least greatest) p 0 (omega (arith, row_long, row_inside r lr)))
