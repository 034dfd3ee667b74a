-- Rows of samples in words. A word has 64 samples of its row, the last of which is the next word's first, so that every two neighbours along x stand in one word. The words of row y + ny z follow those
-- of the row before. Bits past a row's last sample say nothing.
use Rattle.std.specs.Prelude.{◌≡◌, List, Bool, ℕ, ◌+◌, ◌*◌, ◌-◌, ◌/◌, ◌%◌, ◌<◌, ltb, get_or}
use Rattle.laws.specs.Bits.{word_bits, bit}
use Rattle.grid.specs.Limits.{most_side, most_rows}
use Rattle.grid.specs.Grid.{is_above_grey}

-- cubes along x of a word
abbrev pub word_cubes : ℕ
word_cubes = word_bits - 1

-- words of a row of nx samples, and the samples of the last of them: two to 64
abbrev pub row_words : ℕ → ℕ
row_words nx = (nx - 2) / word_cubes + 1

abbrev pub last_samples : ℕ → ℕ
last_samples nx = nx - word_cubes * ((nx - 2) / word_cubes)

-- the words of a grid with the largest sides
abbrev pub most_words : ℕ
most_words = row_words most_side * most_rows

-- bit i of word w of row r is sample 63 w + i of the row, for each that there is in the first rows
abbrev pub Told : ℕ → ℕ → (ℕ → Bool) → List ℕ → Type 0
Told nx rows above masks = (r w i : ℕ) → r < rows → w < row_words nx → i < word_bits → word_cubes * w + i < nx
    → bit (get_or masks (w + row_words nx * r) 0) i ≡ above (word_cubes * w + i + nx * r)

-- the words say of each sample whether it is above
abbrev pub Masked : ℕ → ℕ → ℕ → List ℕ → List ℕ → Type 0
Masked nx rows grey samples masks = Told nx rows (is_above_grey grey samples) masks

-- is sample s above, by its row's words: the row's first sample is a bit 0, each other sample one of the bits 1 to 63 of its word
abbrev pub word_with : ℕ → ℕ
word_with x = (x - 1) / word_cubes

unfoldable pub mask_above : ℕ → List ℕ → ℕ → Bool
mask_above nx masks s = let x = s % nx in bit (get_or masks (word_with x + row_words nx * (s / nx)) 0) (x - word_cubes * word_with x)

-- neighbouring words agree on the sample that both have
abbrev pub Agreeing : ℕ → ℕ → List ℕ → Type 0
Agreeing nx rows masks = Told nx rows (mask_above nx masks) masks

-- the bits below n are set, and no others
abbrev pub AllSet : ℕ → ℕ → Type 0
AllSet n mask = (x : ℕ) → bit mask x ≡ ltb x n
