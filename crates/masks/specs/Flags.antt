-- Flags, from which masks are gathered: a byte a sample, 1 where the sample is above and 0 where it is below.
use Rattle.std.specs.Prelude.{◌≡◌, List, Bool, cond, ℕ, ◌+◌, ◌*◌, ◌/◌, ◌^◌, ◌<◌, ◌≤◌, eqb, leb, get_or}
use Rattle.laws.specs.Bits.{word_bits, bits, bit, values_from}
use Rattle.laws.specs.Range.{one_if}
use Rattle.laws.specs.Values.{list_to}
use Rattle.grid.specs.Grid.{is_above_grey}
use Rattle.masks.specs.Masks.{word_cubes, row_words}

-- samples that are flagged at a time, and the bytes of their flags: from each of them on a word can be gathered
abbrev pub most_flagged : ℕ
most_flagged = 1024

abbrev pub flag_bytes : ℕ
flag_bytes = most_flagged + word_bits

-- every byte is 0 or 1
abbrev pub AreFlags : List ℕ → Type 0
AreFlags flags = (i : ℕ) → get_or flags i 0 ≤ 1

-- the flags of so many samples from `start` on
unfoldable pub flags_from : ℕ → List ℕ → ℕ → ℕ → List ℕ
flags_from grey samples start many = list_to many (λ i. one_if (is_above_grey grey samples (start + i)))

-- four flags from `at` on as one number
abbrev pub four_bytes : List ℕ → ℕ → ℕ
four_bytes flags at = get_or flags at 0 + 2 ^ 8 * get_or flags (at + 1) 0 + 2 ^ 16 * (get_or flags (at + 2) 0 + 2 ^ 8 * get_or flags (at + 3) 0)

-- the mask of n flags from `at` on
unfoldable pub flag_set : List ℕ → ℕ → Bool
flag_set flags i = eqb (get_or flags i 0) 1

unfoldable pub flag_mask : List ℕ → ℕ → ℕ → ℕ
flag_mask flags at n = bits (values_from (flag_set flags) at n)

-- the mask of so many samples is that of a quarter of a word's flags, of half a word's where they are more, or of a word's
abbrev pub gathered : ℕ → ℕ
gathered many = cond (leb many (word_bits / 4)) (word_bits / 4) (cond (leb many (word_bits / 2)) (word_bits / 2) word_bits)

-- The words of so many rows of nx samples, whose flags stand one after the other from `at` on, are written from place `from` on, and those before it are as they were.
pub record Gathered (flags : List ℕ) (nx at rows from : ℕ) (entry exit : List ℕ) : Type 0 where
  pub words : (r w i : ℕ) → r < rows → w < row_words nx → i < word_bits → word_cubes * w + i < nx
      → bit (get_or exit (from + w + row_words nx * r) 0) i ≡ flag_set flags (at + (word_cubes * w + i + nx * r))
  pub before : (k : ℕ) → k < from → get_or exit k 0 ≡ get_or entry k 0
