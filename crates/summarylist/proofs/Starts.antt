-- Where the levels of a summary start: they rise, and each row of a level ends before the next one starts.
use mathlib.Core.Path.{◌≡◌, refl, ◌∙◌}
use Prim.Native.Nat.{ℕ, ◌+◌, ◌*◌, ◌%◌, ◌^◌, ◌<◌, ◌≤◌}
use native.Mathlib.Nat.{pow-le-pow_right, mod-eq_of_lt, one-mul}
use native.Mathlib.Numerals.{add-one}
use native.Mathlib.Omega.{arith}
use lib.Pow.{pow_mono}
use Rattle.laws.proofs.Digits.{block_end}
use Rattle.grid.specs.Limits.{halvings, most_side}
use Rattle.summary.specs.Blocks.{level_start, summary_length}
use Rattle.summary.proofs.Places.{cubed, level_start_lem}

pub starts_rise : (i k : ℕ) → i ≤ k → level_start i ≤ level_start k
starts_rise i k l = omega (arith, level_start_lem i, level_start_lem k, pow-le-pow_right {n = 8} (omega arith) {i = i} {j = k} l)

-- blocks a side
pub side_most : (k : ℕ) → k ≤ halvings → 2 ^ k ≤ most_side
side_most k l = pow_mono {i = k} {j = halvings} l

-- row r of a level, and the level, in a summary
pub row_ends : (k r : ℕ) → r < 2 ^ k * 2 ^ k → level_start k + 2 * 2 ^ k * r + 2 * 2 ^ k ≤ level_start (k + 1)
unfolding level_start
row_ends k r l = rw (add-one k) (omega (arith, cubed k, block_end (2 ^ k) r (2 ^ k * 2 ^ k) l))

pub level_ends : (k : ℕ) → k ≤ halvings → level_start (k + 1) ≤ summary_length
unfolding summary_length
level_ends k l = starts_rise (k + 1) (halvings + 1) (omega arith)

-- 599,186 numbers
pub summary_long : summary_length ≡ 599186
unfolding summary_length level_start
summary_long = refl

-- blocks a side as the code has them
abbrev pub side_of : ℕ → ℕ
side_of k = 1 * 2 ^ k % 2 ^ 64

pub is_side_lem : (k : ℕ) → k ≤ halvings → side_of k ≡ 2 ^ k
is_side_lem k l =
    let small : 1 * 2 ^ k < 2 ^ 64 = omega (arith, side_most k l) in
    mod-eq_of_lt small ∙ one-mul (2 ^ k)
