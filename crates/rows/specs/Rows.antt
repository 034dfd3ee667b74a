-- The rows of a grid in words, while a walk goes from word to word.
use Rattle.std.specs.Prelude.{◌≡◌, List, ◌++◌, Bool, cond, ◌&&◌, ℕ, zero, suc, ◌+◌, ◌*◌, ◌-◌, ◌/◌, ◌^◌, ◌<◌, ◌≤◌, leb, ltb, length, replicate}
use Rattle.laws.specs.Bits.{word_bits, bit}
use Rattle.laws.specs.Range.{one_if}
use Rattle.grid.specs.Grid.{Size, axes, crossed}
use Rattle.grid.specs.Work.{size, SidesFit}
use Rattle.masks.specs.Masks.{word_cubes, row_words, last_samples, mask_above, Agreeing, AllSet}
use Rattle.rows.specs.declared.Sides.{Sides}
use Rattle.rows.specs.declared.Stretch.{Stretch}
use Rattle.rows.specs.declared.Crossed.{Crossed}
use Rattle.rows.specs.declared.Cuts.{Cuts}

abbrev pub size_of : Sides → Size
size_of sides = size sides.nx sides.ny sides.nz

-- A list with so many numbers a layer of a grid, where those of the first layers are not lent: zeros are laid in their places.
abbrev pub zeros_below : ℕ → ℕ → List ℕ → List ℕ
zeros_below each zero list = list
zeros_below each (suc layers) list = replicate (each * suc layers) 0 ++ list

-- is sample s of the grid above, by the words of the layers from `below` on
abbrev pub words_above : Sides → List ℕ → ℕ → Bool
words_above sides masks = mask_above sides.nx (zeros_below (row_words sides.nx * sides.ny) sides.below masks)

-- the samples of the grid, by those of the layers from `below` on
abbrev pub grid_samples : Sides → List ℕ → List ℕ
grid_samples sides samples = zeros_below (sides.nx * sides.ny) sides.below samples

-- is a grid edge crossed, by the words
abbrev pub cut : Sides → List ℕ → ℕ → Bool
cut sides masks = crossed axes (size_of sides) (words_above sides masks)

-- the sides of a grid whose layers from `first` on are lent, with the words of their rows
pub record SidesOf (x y z first : ℕ) (sides : Sides) : Type 0 where
  pub nx : sides.nx ≡ x
  pub ny : sides.ny ≡ y
  pub nz : sides.nz ≡ z
  pub words : sides.words ≡ row_words sides.nx
  pub last : AllSet (last_samples sides.nx) sides.last
  pub below : sides.below ≡ first

-- The sides are within the limits, and the words of a row and the mask of its last are theirs. All layers of the grid have their words.
pub record Whole (sides : Sides) (masks : List ℕ) : Type 0 where
  pub fit : SidesFit sides.nx sides.ny sides.nz
  pub words : sides.words ≡ row_words sides.nx
  pub last : AllSet (last_samples sides.nx) sides.last
  pub none : sides.below ≡ 0
  pub rows : row_words sides.nx * (sides.ny * sides.nz) ≤ length masks
  pub agree : Agreeing sides.nx (sides.ny * sides.nz) masks

-- The sides are within the limits, and the words of a row and the mask of its last are theirs. So many layers from `below` on have their words,
-- among them layer z and, where there is one, the layer over it.
pub record Ready (sides : Sides) (z : ℕ) (masks : List ℕ) : Type 0 where
  pub fit : SidesFit sides.nx sides.ny sides.nz
  pub words : sides.words ≡ row_words sides.nx
  pub last : AllSet (last_samples sides.nx) sides.last
  pub layers : ℕ
  pub from : sides.below ≤ z
  pub here : z < sides.below + layers
  pub over : z + 1 < sides.nz → z + 1 < sides.below + layers
  pub rows : row_words sides.nx * (sides.ny * layers) ≤ length masks
  pub agree : Agreeing sides.nx (sides.ny * layers) masks

-- the number of the first sample of layer z
abbrev pub layer_first : Sides → ℕ → ℕ
layer_first sides z = sides.nx * (sides.ny * z)

-- the x of a stretch's first sample
abbrev pub first_x : Sides → Stretch → ℕ
first_x sides at = sides.nx - at.left

-- A stretch of layer z, which is so many layers up from the first that is lent: so many words of its row are past, it has a cube at least, and it begins at its sample of the grid
-- and its word of those lent. Past the last row the next one's first would be.
pub record Stands (sides : Sides) (z : ℕ) (at : Stretch) : Type 0 where
  pub up : ℕ
  pub layer : z ≡ sides.below + up
  pub past : ℕ
  pub each : sides.words ≡ row_words sides.nx
  pub along : sides.nx ≡ word_cubes * past + at.left
  pub some : 2 ≤ at.left
  pub row : at.y ≤ sides.ny
  pub site : at.s ≡ word_cubes * past + sides.nx * (at.y + sides.ny * z)
  pub word : at.word ≡ past + sides.words * (at.y + sides.ny * up)
  pub last : at.y ≡ sides.ny → past ≡ 0

-- a stretch's numbers are small enough to be added to
pub record Addable (at : Stretch) : Type 0 where
  pub left : at.left < 2 ^ 32
  pub y : at.y < 2 ^ 32
  pub s : at.s < 2 ^ 32
  pub word : at.word < 2 ^ 32

-- a stretch's own samples: up to the next word's first, or to the row's end
abbrev pub own_samples : ℕ → ℕ
own_samples left = cond (leb left word_bits) left word_cubes

-- its cubes: up to the next word's first sample, or to the row's last
abbrev pub own_cubes : ℕ → ℕ
own_cubes left = cond (leb left word_bits) (left - 1) word_cubes

-- the masks of both: the bits of a row's last word, or of all cubes of a word
abbrev pub stretch_mask : ℕ → ℕ → ℕ
stretch_mask last left = cond (leb left word_bits) last (2 ^ word_cubes - 1)

abbrev pub samples_mask : Sides → ℕ → ℕ
samples_mask sides left = stretch_mask sides.last left

abbrev pub cubes_mask : Sides → ℕ → ℕ
cubes_mask sides left = stretch_mask (sides.last / 2) left

-- the first stretch of a layer, and the stretch after one
abbrev pub first_stretch : Sides → ℕ → Stretch
first_stretch sides z = record { left = sides.nx; y = 0; s = layer_first sides z; word = sides.words * (sides.ny * (z - sides.below)) }

abbrev pub next_stretch : Sides → Stretch → Stretch
next_stretch sides at = record {
  left = cond (leb at.left word_bits) sides.nx (at.left - word_cubes);
  y = cond (leb at.left word_bits) (at.y + 1) at.y;
  s = at.s + own_samples at.left;
  word = at.word + 1;
}

-- bit i of each word says whether the edge that leaves sample s + i along its axis is crossed, for so many samples, and no other bit is set
pub record CutWords (sides : Sides) (masks : List ℕ) (s many : ℕ) (c : Crossed) : Type 0 where
  pub along_x : (i : ℕ) → bit c.x i ≡ (ltb i many && cut sides masks (3 * (s + i)))
  pub along_y : (i : ℕ) → bit c.y i ≡ (ltb i many && cut sides masks (3 * (s + i) + 1))
  pub along_z : (i : ℕ) → bit c.z i ≡ (ltb i many && cut sides masks (3 * (s + i) + 2))

-- the crossed edges of sample i
abbrev pub cuts_at : Crossed → ℕ → Cuts
cuts_at c i = record { x = bit c.x i; y = bit c.y i; z = bit c.z i }

-- the next number past an edge, which counts where the edge is crossed
abbrev pub next_number : Bool → ℕ → ℕ
next_number cut n = n + one_if cut
