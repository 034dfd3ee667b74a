-- Where stretches stand: the first of a layer, the next one, their words, samples and masks.
use mathlib.Core.Path.{◌≡◌, refl, ap, sym, ◌∙◌}
use mathlib.Core.List.{List}
use mathlib.Core.Bool.{Bool, true, false, cond}
use Prim.Native.Nat.{ℕ, ◌+◌, ◌*◌, ◌-◌, ◌/◌, ◌^◌, ◌<◌, ◌≤◌}
use native.Mathlib.Nat.{mul-add, mul-one, mul-zero, mul-le-mul, mul-le-mul_left}
use native.Mathlib.Omega.{arith}
use lib.Dec.{ltb}
use lib.ListN.{length}
use borrow.Author.Tests.{lt-ltb, le-ltb, ltb-true, ltb-false}
use Rattle.laws.specs.Bits.{word_bits, bit}
use Rattle.laws.proofs.Digits.{low_lt}
use Rattle.laws.proofs.Halves.{bit_of_ones}
use Rattle.laws.proofs.Tests.{leb_cases}
use Rattle.laws.proofs.Words.{bit_half}
use Rattle.grid.specs.Limits.{most_side, most_rows, most_edges}
use Rattle.grid.specs.Grid.{Size, site, axes, sample_count, edge_count}
use Rattle.grid.specs.Work.{size, SidesFit}
use Rattle.grid.proofs.Sides.{rows_most, samples_most}
use Rattle.grid.proofs.Sites.{site_small}
use Rattle.masks.specs.Masks.{word_cubes, row_words, last_samples, mask_above, most_words, Agreeing, AllSet}
use Rattle.rows.specs.declared.Sides.{Sides}
use Rattle.rows.specs.declared.Stretch.{Stretch}
use Rattle.rows.specs.Rows.{SidesOf, Whole, Ready, words_above, grid_samples, Stands, size_of, layer_first, first_x, own_samples, own_cubes, samples_mask, cubes_mask, first_stretch, next_stretch}

-- a grid within the limits has few edges, and few words
pub edges_few : (sides : Sides) → SidesFit sides.nx sides.ny sides.nz → edge_count axes (size_of sides) ≤ most_edges
edges_few sides fit = omega (arith, samples_most sides.nx sides.ny sides.nz fit)

pub words_most : (nx ny nz : ℕ) → SidesFit nx ny nz → row_words nx * (ny * nz) ≤ most_words
words_most nx ny nz fit =
    mul-le-mul {n₁ = row_words nx} {m₁ = ny * nz} {n₂ = row_words most_side} {m₂ = most_rows} (omega (arith, fit.most_x)) (rows_most nx ny nz fit)

-- where the words of all layers are lent, every layer is ready
abbrev pub whole_ready : (sides : Sides) (masks : List ℕ) → Whole sides masks → (z : ℕ) → z < sides.nz → Ready sides z masks
whole_ready sides masks whole z h = record {
  fit = whole.fit;
  words = whole.words;
  last = whole.last;
  layers = sides.nz;
  from = omega (arith, whole.none);
  here = omega arith;
  over = λ u. omega arith;
  rows = whole.rows;
  agree = whole.agree;
}

-- their words say of the whole grid what is above, and the samples lent are the grid's
pub above_whole : (sides : Sides) (masks : List ℕ) → sides.below ≡ 0 → words_above sides masks ≡ mask_above sides.nx masks
above_whole sides masks none = rw none

pub samples_whole : (sides : Sides) (samples : List ℕ) → sides.below ≡ 0 → grid_samples sides samples ≡ samples
samples_whole sides samples none = rw none

module _ (x y z : ℕ) (sides : Sides) (is : SidesOf x y z 0 sides) (masks : List ℕ) where
  -- sides as they are made for a whole grid
  pub whole_of : SidesFit x y z → row_words x * (y * z) ≤ length masks → Agreeing x (y * z) masks → Whole sides masks
  whole_of fit rows agree = record {
    fit = rw (is.nx, is.ny, is.nz) fit;
    words = is.words;
    last = is.last;
    none = is.below;
    rows = rw (is.nx, is.ny, is.nz) rows;
    agree = rw (is.nx, is.ny, is.nz) agree;
  }

  sizes : size_of sides ≡ size x y z
  sizes = rw (is.nx, is.ny, is.nz)

  words : words_above sides masks ≡ mask_above x masks
  words = above_whole sides masks is.below ∙ ap (λ nx. mask_above nx masks) is.nx

  -- what holds of the sides and their words holds of the numbers that they were made of, and the other way round
  pub of_whole : (P : Size → (ℕ → Bool) → Type 0) → P (size_of sides) (words_above sides masks) → P (size x y z) (mask_above x masks)
  of_whole P holds = rw (← sizes, ← words) holds

  pub for_whole : (P : Size → (ℕ → Bool) → Type 0) → P (size x y z) (mask_above x masks) → P (size_of sides) (words_above sides masks)
  for_whole P holds = rw (sizes, words) holds

-- the first layer begins at the first sample, and the first stretch where its layer does
pub layer_first_lem : (sides : Sides) → layer_first sides 0 ≡ 0
layer_first_lem sides = simp mul-zero

-- the edges before a higher layer are more
pub layers_rise : (sides : Sides) (a b : ℕ) → a ≤ b → 3 * layer_first sides a ≤ 3 * layer_first sides b
layers_rise sides a b h = omega (arith, mul-le-mul_left sides.nx (mul-le-mul_left sides.ny h))

pub stands_first : (sides : Sides) → SidesFit sides.nx sides.ny sides.nz → sides.words ≡ row_words sides.nx → (z : ℕ) → sides.below ≤ z
    → Stands sides z (first_stretch sides z)
stands_first sides fit each z h =
    let q : sides.ny * z ≡ 0 + sides.ny * z = omega arith in
    let u : sides.ny * (z - sides.below) ≡ 0 + sides.ny * (z - sides.below) = omega arith in
    record {
      up = z - sides.below;
      layer = omega arith;
      past = 0;
      each = each;
      along = omega arith;
      some = omega (arith, fit.least_x);
      row = omega arith;
      site = ap (λ r. sides.nx * r) q ∙ omega arith;
      word = ap (λ r. sides.words * r) u ∙ omega arith;
      last = λ e. refl;
    }

module _ (sides : Sides) (z : ℕ) (at : Stretch) (stands : Stands sides z at) where
  -- its row of the grid, and of those lent
  abbrev row : ℕ
  row = at.y + sides.ny * z

  abbrev lent : ℕ
  lent = at.y + sides.ny * stands.up

  -- the stretch after one that is in the layer, and past the layer's last row the next layer begins
  pub stands_next : at.y < sides.ny → Stands sides z (next_stretch sides at)
  stands_next hy = leb_cases at.left word_bits (λ t. Stands sides z (on t)) short long
    where
      on : Bool → Stretch
      on t = record {
        left = cond t sides.nx (at.left - word_cubes);
        y = cond t (at.y + 1) at.y;
        s = at.s + cond t at.left word_cubes;
        word = at.word + 1;
      }

      short : at.left ≤ word_bits → Stands sides z (on true)
      short l =
          let last : stands.past + 1 ≡ sides.words = omega (arith, stands.each, stands.along, stands.some) in
          let next : at.y + 1 + sides.ny * z ≡ row + 1 = omega arith in
          let next-lent : at.y + 1 + sides.ny * stands.up ≡ lent + 1 = omega arith in
          record {
            up = stands.up;
            layer = stands.layer;
            past = 0;
            each = stands.each;
            along = omega arith;
            some = omega (arith, stands.along, stands.some);
            row = omega arith;
            site = rw next (omega (arith, stands.site, stands.along, mul-add sides.nx row 1, mul-one sides.nx));
            word = rw next-lent (omega (arith, stands.word, last, mul-add sides.words lent 1, mul-one sides.words));
            last = λ q. refl;
          }

      long : word_bits < at.left → Stands sides z (on false)
      long l = record {
        up = stands.up;
        layer = stands.layer;
        past = stands.past + 1;
        each = stands.each;
        along = omega (arith, stands.along);
        some = omega arith;
        row = stands.row;
        site = omega (arith, stands.site);
        word = omega (arith, stands.word);
        last = λ q. absurd (omega arith);
      }

  pub layer_end : sides.ny ≤ at.y → at.s ≡ layer_first sides (z + 1)
  layer_end h =
      let q : row ≡ sides.ny * (z + 1) = omega (arith, stands.row, mul-add sides.ny z 1, mul-one sides.ny) in
      omega (arith, stands.site, stands.last (omega (arith, stands.row)), ap (λ r. sides.nx * r) q)

  -- the samples below those lent are before it
  pub below_before : layer_first sides sides.below ≤ at.s
  below_before =
      let rows : sides.ny * sides.below ≤ row = omega (arith, ap (λ z. sides.ny * z) stands.layer, mul-add sides.ny sides.below stands.up) in
      omega (arith, stands.site, mul-le-mul_left sides.nx rows)

  -- how far along x it begins
  pub first_x_lem : first_x sides at ≡ word_cubes * stands.past
  first_x_lem = omega (arith, stands.along)

  -- its own samples and its cubes are in the word and in the row, and of its own samples the row's last alone has no cube
  pub own_most : (own_samples at.left ≤ at.left) × (own_samples at.left ≤ word_bits)
  own_most = leb_cases at.left word_bits (λ t. (cond t at.left word_cubes ≤ at.left) × (cond t at.left word_cubes ≤ word_bits)) (λ l. (omega arith, l)) (λ l. (omega arith, omega arith))

  -- the layer goes on to its end
  pub stretch_end : at.y < sides.ny → at.s + own_samples at.left ≤ layer_first sides (z + 1)
  stretch_end hy =
      let rows : row + 1 ≤ sides.ny * (z + 1) = omega (arith, mul-add sides.ny z 1, mul-one sides.ny) in
      omega (arith, stands.site, stands.along, own_most.0, mul-add sides.nx row 1, mul-one sides.nx, mul-le-mul_left sides.nx rows)

  pub cubes_most : (own_cubes at.left ≤ word_cubes) × (own_cubes at.left < at.left) × (own_cubes at.left ≤ own_samples at.left)
  cubes_most =
      leb_cases at.left word_bits
      (λ t. (cond t (at.left - 1) word_cubes ≤ word_cubes) × (cond t (at.left - 1) word_cubes < at.left) × (cond t (at.left - 1) word_cubes ≤ cond t at.left word_cubes))
      (λ l. (omega arith, omega (arith, stands.some), omega arith))
      (λ l. (omega arith, omega arith, omega arith))

  pub own_last : (i : ℕ) → own_cubes at.left ≤ i → i < own_samples at.left → i + 1 ≡ at.left
  own_last i =
      leb_cases at.left word_bits (λ t. cond t (at.left - 1) word_cubes ≤ i → i < cond t at.left word_cubes → i + 1 ≡ at.left) (λ l a b. omega arith) (λ l a b. absurd (omega arith))

  -- its sample i
  pub sample_is : (i : ℕ) → at.s + i ≡ word_cubes * stands.past + i + sides.nx * row
  sample_is i = omega (arith, stands.site)

  -- the words of the row behind it, of the one over it and of the one behind that
  pub behind_is : at.word + sides.words ≡ stands.past + sides.words * (lent + 1)
  behind_is = omega (arith, stands.word, mul-add sides.words lent 1, mul-one sides.words)

  pub over_is : at.word + sides.words * sides.ny ≡ stands.past + sides.words * (lent + sides.ny)
  over_is = omega (arith, stands.word, mul-add sides.words lent sides.ny)

  pub both_is : at.word + sides.words * sides.ny + sides.words ≡ stands.past + sides.words * (lent + sides.ny + 1)
  both_is = omega (arith, over_is, mul-add sides.words (lent + sides.ny) 1, mul-one sides.words)

  -- its word in a row of some layers is one of their words
  word_in : (layers r : ℕ) → r < sides.ny * layers → stands.past + sides.words * r < row_words sides.nx * (sides.ny * layers)
  word_in layers r there =
      rw (← stands.each) (low_lt stands.past sides.words r (sides.ny * layers) (omega (arith, stands.each, stands.along, stands.some)) there)

  module _ (hy : at.y < sides.ny) (hz : z < sides.nz) where
    pub sample_there : (i : ℕ) → i < at.left → at.s + i < sample_count (size_of sides)
    unfolding site
    sample_there i l = omega (arith, sample_is i, site_small (size_of sides) (word_cubes * stands.past + i) at.y z (omega (arith, stands.along)) hy hz)

module _ (sides : Sides) (masks : List ℕ) (z : ℕ) (ready : Ready sides z masks) (at : Stretch) (stands : Stands sides z at) where
  -- a stretch's word in a row whose words are lent is among them; its own row is such a row, and so are those behind it, over it and behind that
  pub among : (r : ℕ) → r < sides.ny * ready.layers → {word : ℕ} → word ≡ stands.past + sides.words * r → word < length masks
  among r there is = omega (arith, is, ready.rows, word_in sides z at stands ready.layers r there)

  row_in : (y layer : ℕ) → y < sides.ny → layer < ready.layers → y + sides.ny * layer < sides.ny * ready.layers
  row_in y layer hy h = low_lt y sides.ny layer ready.layers hy h

  pub row_there : at.y < sides.ny → lent sides z at stands < sides.ny * ready.layers
  row_there hy = row_in at.y stands.up hy (omega (arith, stands.layer, ready.here))

  pub behind_there : at.y + 1 < sides.ny → lent sides z at stands + 1 < sides.ny * ready.layers
  behind_there hy = omega (arith, row_in (at.y + 1) stands.up hy (omega (arith, stands.layer, ready.here)))

  pub over_there : at.y < sides.ny → z + 1 < sides.nz → lent sides z at stands + sides.ny < sides.ny * ready.layers
  over_there hy hz =
      omega (arith, row_in at.y (stands.up + 1) hy (omega (arith, stands.layer, ready.over hz)), mul-add sides.ny stands.up 1, mul-one sides.ny)

  pub both_there : at.y + 1 < sides.ny → z + 1 < sides.nz → lent sides z at stands + sides.ny + 1 < sides.ny * ready.layers
  both_there hy hz =
      omega (arith, row_in (at.y + 1) (stands.up + 1) hy (omega (arith, stands.layer, ready.over hz)), mul-add sides.ny stands.up 1, mul-one sides.ny)

  pub word_there : at.y < sides.ny → at.word < length masks
  word_there hy = among (lent sides z at stands) (row_there hy) stands.word

  -- the masks of its own samples and of its cubes
  last_is : at.left ≤ word_bits → last_samples sides.nx ≡ at.left
  last_is h = omega (arith, stands.along, stands.some)

  pub samples_set : AllSet (own_samples at.left) (samples_mask sides at.left)
  samples_set x =
      leb_cases at.left word_bits (λ t. bit (cond t sides.last (2 ^ word_cubes - 1)) x ≡ ltb x (cond t at.left word_cubes))
      (λ l. rw (← (last_is l)) (ready.last x))
      (λ l. bit_of_ones word_cubes (2 ^ word_cubes - 1) x refl)

  pub cubes_set : AllSet (own_cubes at.left) (cubes_mask sides at.left)
  cubes_set x =
      leb_cases at.left word_bits (λ t. bit (cond t (sides.last / 2) (2 ^ word_cubes - 1)) x ≡ ltb x (cond t (at.left - 1) word_cubes))
      (λ l. bit_half sides.last x ∙ ready.last (x + 1) ∙ ap (ltb (x + 1)) (last_is l) ∙ same (ltb (x + 1) at.left) refl)
      (λ l. bit_of_ones word_cubes (2 ^ word_cubes - 1) x refl)
    where
      same : (t : Bool) → ltb (x + 1) at.left ≡ t → t ≡ ltb x (at.left - 1)
      same true e = sym (lt-ltb x (at.left - 1) (omega (arith, ltb-true (x + 1) at.left e)))
      same false e = sym (le-ltb x (at.left - 1) (omega (arith, ltb-false (x + 1) at.left e)))
