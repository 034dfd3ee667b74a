-- The levels of a list from one on, as they are passed from the single cubes up.
use mathlib.Core.Path.{◌≡◌}
use mathlib.Core.List.{List}
use Prim.Native.Nat.{ℕ, ◌+◌, ◌-◌, ◌<◌, ◌≤◌}
use native.Mathlib.Decide.{dec_lt}
use native.Mathlib.Omega.{arith}
use lib.ListN.{length}
use Rattle.grid.specs.Limits.{halvings}
use Rattle.grid.specs.Grid.{Size, sample_count}
use Rattle.grid.specs.Work.{size, SidesFit}
use Rattle.summary.specs.Blocks.{summary_length}
use Rattle.summary.specs.Levels.{LevelOf}
use Rattle.summarylist.specs.Rows.{LevelFits, Levelled}
use Rattle.summarylist.proofs.Starts.{starts_rise}
use Rattle.summarylist.proofs.Levels.{level_kept}

-- level k and those below it are there
abbrev pub LevelsFrom : Size → List ℕ → List ℕ → ℕ → Type 0
LevelsFrom n samples list k = (i : ℕ) → k ≤ i → i ≤ halvings → LevelOf n samples list i

-- the level above those that are there: it can be worked out, and with it there is one more
module _ (left : ℕ) (some : 0 < left) where
  pub fits_above : (nx ny nz : ℕ) (samples list : List ℕ) → SidesFit nx ny nz → length samples ≡ sample_count (size nx ny nz) → length list ≡ summary_length
      → left ≤ halvings + 1 → LevelsFrom (size nx ny nz) samples list left → LevelFits nx ny nz (left - 1) samples list
  fits_above nx ny nz samples list fits all long few levels =
      let next : left - 1 + 1 ≡ left = omega arith in
      record { fits = fits; all = all; long = long; level = omega arith; below = λ l. rw next (levels left (omega arith) (omega arith)) }

  module _ (n : Size) (samples : List ℕ) where
    pub one_more : (list : List ℕ) → LevelsFrom n samples list left → LevelOf n samples list (left - 1) → LevelsFrom n samples list (left - 1)
    one_more list levels level i from to = go (dec_lt (left - 1) i)
      where
        go : Dec (left - 1 < i) → LevelOf n samples list i
        go (yes l) = levels i (omega arith) to
        go (no ge) = let e : i ≡ left - 1 = omega arith in rw e level

    -- written, and the others kept
    pub one_written : (entry exit : List ℕ) → LevelsFrom n samples entry left → Levelled n samples (left - 1) entry exit → LevelsFrom n samples exit (left - 1)
    one_written entry exit levels written =
        one_more exit (λ i from to. level_kept n samples entry exit i (λ p l. written.behind p (omega (arith, starts_rise (left - 1 + 1) i (omega arith)))) (levels i from to)) written.level
