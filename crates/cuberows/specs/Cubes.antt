-- Cubes by the words of the four rows of samples around them, and their triangles, counted.
use Rattle.std.specs.Prelude.{◌≡◌, Bool, true, false, cond, List, ℕ, ◌+◌, ◌*◌, ◌-◌, ◌/◌, ◌%◌, ◌^◌, ◌<◌, length, get_or}
use Rattle.laws.specs.Bits.{word_bits, bit}
use Rattle.laws.specs.Range.{sum_to}
use Rattle.cube.specs.Answer.{count}
use Rattle.grid.specs.Grid.{Size}
use Rattle.grid.specs.Mesh.{case_at}
use Rattle.grid.specs.Work.{found_row, is_found}
use Rattle.rows.specs.declared.Sides.{Sides}
use Rattle.rows.specs.Rows.{size_of, words_above}
use Rattle.cuberows.specs.declared.Corners.{Corners}

-- the words around the cubes whose first corners' word is at a place, where a row has so many words and a layer so many rows
abbrev pub corners_at : List ℕ → ℕ → ℕ → ℕ → Corners
corners_at masks words ny word = record {
  m00 = get_or masks word 0;
  m10 = get_or masks (word + words) 0;
  m01 = get_or masks (word + words * ny) 0;
  m11 = get_or masks (word + words * ny + words) 0;
}

-- the case of cube i: bits i and i + 1 of a word are two neighbouring corners along x
abbrev pub read_case : Corners → ℕ → ℕ
read_case m i = m.m00 / 2 ^ i % 4 + 4 * (m.m10 / 2 ^ i % 4) + 2 ^ 4 * (m.m01 / 2 ^ i % 4 + 4 * (m.m11 / 2 ^ i % 4))

-- the same, opened only where its bits matter
unfoldable pub word_case : Corners → ℕ → ℕ
word_case m i = read_case m i

-- a word has a bit set for some of the cubes alone, among them all that have a triangle
pub record BusyCubes (m : Corners) (cubes busy : ℕ) : Type 0 where
  pub inside : (i : ℕ) → bit busy i ≡ true → bit cubes i ≡ true
  pub quiet : (i : ℕ) → bit cubes i ≡ true → bit busy i ≡ false → count (word_case m i) ≡ 0

-- what words of found cubes, which a query hands in, owe of layer z of cubes: each row of the grid has its word, in which only cubes of the row are found, and a cube that is not found has no triangle
pub record LayerFound (n : Size) (above : ℕ → Bool) (found : List ℕ) (z : ℕ) : Type 0 where
  pub listed : (y : ℕ) → y + 1 < n.ny → found_row y z < length found
  pub inside : (x y : ℕ) → y + 1 < n.ny → is_found found x y z ≡ true → x + 1 < n.nx
  pub quiet : (x y : ℕ) → x + 1 < n.nx → y + 1 < n.ny → is_found found x y z ≡ false → count (case_at n above x y z) ≡ 0

-- such words for a layer of cubes, or none at all; and the same for every layer
abbrev pub FoundIn : Size → (ℕ → Bool) → List ℕ → ℕ → Type 0
FoundIn n above found z = (length found ≡ 0 → ⊥) → LayerFound n above found z

abbrev pub FoundCubes : Size → (ℕ → Bool) → List ℕ → Type 0
FoundCubes n above found = (z : ℕ) → z + 1 < n.nz → FoundIn n above found z

-- what a stretch takes of them: the word of its row, which has the busy ones of its cubes
pub record RowFound (found : List ℕ) (row : ℕ) (m : Corners) (cubes : ℕ) : Type 0 where
  pub listed : row < length found
  pub busy : BusyCubes m cubes (get_or found row 0)

-- how many triangles the cubes of a stretch have whose bits are set
abbrev pub busy_count : Corners → ℕ → ℕ → ℕ
busy_count m cubes i = cond (bit cubes i) (count (word_case m i)) 0

unfoldable pub stretch_count : Corners → ℕ → ℕ
stretch_count m cubes = sum_to word_bits (busy_count m cubes)

-- the case of a cube of the grid, by the words, and how many triangles the cubes of a layer have
abbrev pub cube_case : Sides → List ℕ → ℕ → ℕ → ℕ → ℕ
cube_case sides masks z x y = case_at (size_of sides) (words_above sides masks) x y z

unfoldable pub layer_count : Sides → List ℕ → ℕ → ℕ
layer_count sides masks z = sum_to (sides.ny - 1) (λ y. sum_to (sides.nx - 1) (λ x. count (cube_case sides masks z x y)))
