-- The words of a row, one after the other; of row after row; and of all rows, batch after batch.
use mathlib.Core.Path.{◌≡◌, ap, sym, subst, ◌∙◌}
use mathlib.Core.List.{List}
use mathlib.Core.Bool.{Bool, cond}
use Prim.Native.Nat.{ℕ, ◌+◌, ◌*◌, ◌-◌, ◌/◌, ◌<◌, ◌≤◌}
use native.Mathlib.Decide.{dec_lt}
use native.Mathlib.Nat.{mul_comm, mul-add, mul-zero, one-mul, zero-add, le-div_iff_mul-le}
use native.Mathlib.Omega.{arith}
use lib.Dec.{leb}
use lib.ListN.{length, get_or, set}
use lib.Seq.{get_or-set_same, get_or-set_other}
use Rattle.laws.specs.Bits.{word_bits, bit}
use Rattle.laws.specs.Room.{laid}
use Rattle.laws.proofs.Digits.{low_lt}
use Rattle.laws.proofs.Tests.{leb_cases}
use Rattle.grid.specs.Grid.{is_above_grey}
use Rattle.masks.specs.Masks.{word_cubes, row_words, Masked}
use Rattle.masks.specs.Flags.{flags_from, flag_set, flag_mask, gathered, Gathered}
use Rattle.masks.proofs.Flags.{flag_is}
use Rattle.masks.proofs.Gather.{mask_bit}

-- samples are among the flags that they are gathered from
pub samples_within : (many : ℕ) → many ≤ word_bits → many ≤ gathered many
samples_within many l =
    leb_cases many (word_bits / 4) (λ t. many ≤ cond t (word_bits / 4) (cond (leb many (word_bits / 2)) (word_bits / 2) word_bits)) (λ few. few)
    (λ more. leb_cases many (word_bits / 2) (λ t. many ≤ cond t (word_bits / 2) word_bits) (λ short. short) (λ long. l))

-- the first words of a row, whose flags stand from `at` on, are written from place `from` to place `to`, and those before them are as they were
pub record WordsTo (flags : List ℕ) (nx at from to : ℕ) (entry exit : List ℕ) : Type 0 where
  pub words : (w i : ℕ) → from + w < to → i < word_bits → word_cubes * w + i < nx → bit (get_or exit (from + w) 0) i ≡ flag_set flags (at + (word_cubes * w + i))
  pub before : (k : ℕ) → k < from → get_or exit k 0 ≡ get_or entry k 0

module _ {flags : List ℕ} {nx at from : ℕ} {entry : List ℕ} where
  -- one word more, with all samples that are left or as many as a word has
  pub words_next : {exit : List ℕ} {to mask : ℕ} (left many : ℕ) → from ≤ to → nx ≡ word_cubes * (to - from) + left → to < length exit
      → ((i : ℕ) → i < word_bits → i < left → i < gathered many) → mask ≡ flag_mask flags (at + (nx - left)) (gathered many)
      → WordsTo flags nx at from to entry exit → WordsTo flags nx at from (to + 1) entry (set exit to mask)
  words_next {exit} {to} {mask} left many after whole fits within is so_far = record { words = words; before = before }
    where
      words : (w i : ℕ) → from + w < to + 1 → i < word_bits → word_cubes * w + i < nx → bit (get_or (set exit to mask) (from + w) 0) i ≡ flag_set flags (at + (word_cubes * w + i))
      words w i l li lx = go (dec_lt (from + w) to)
        where
          go : Dec (from + w < to) → bit (get_or (set exit to mask) (from + w) 0) i ≡ flag_set flags (at + (word_cubes * w + i))
          go (yes old) = rw (get_or-set_other exit to (from + w) mask 0 (λ e. absurd (omega arith))) (so_far.words w i old li lx)
          go (no new) =
              let here : from + w ≡ to = omega arith in
              let place : at + (nx - left) + i ≡ at + (word_cubes * w + i) = omega arith in
              rw (here, get_or-set_same exit to mask 0 fits, is, mask_bit flags (at + (nx - left)) (gathered many) i (within i li (omega arith)))
              (ap (flag_set flags) place)

      before : (k : ℕ) → k < from → get_or (set exit to mask) k 0 ≡ get_or entry k 0
      before k l = get_or-set_other exit to k mask 0 (λ e. absurd (omega arith)) ∙ so_far.before k l

  -- all words
  pub words_all : {exit : List ℕ} {to : ℕ} → to ≡ from + row_words nx → WordsTo flags nx at from to entry exit → Gathered flags nx at 1 from entry exit
  words_all {exit} is all = record { words = words; before = all.before }
    where
      words : (r w i : ℕ) → r < 1 → w < row_words nx → i < word_bits → word_cubes * w + i < nx
          → bit (get_or exit (from + w + row_words nx * r) 0) i ≡ flag_set flags (at + (word_cubes * w + i + nx * r))
      words r w i l lw li lx =
          let first : r ≡ 0 = omega arith in
          let place : from + w + row_words nx * 0 ≡ from + w = omega arith in
          let sample : at + (word_cubes * w + i + nx * 0) ≡ at + (word_cubes * w + i) = omega (arith, mul-zero nx) in
          rw (first, place, sample) (all.words w i (omega arith) li lx)

-- the words of so many rows of nx samples from place `from` on say of each sample whether it is above
abbrev ToldFrom : ℕ → ℕ → ℕ → (ℕ → Bool) → List ℕ → Type 0
ToldFrom nx from rows above masks = (r w i : ℕ) → r < rows → w < row_words nx → i < word_bits → word_cubes * w + i < nx
    → bit (get_or masks (from + w + row_words nx * r) 0) i ≡ above (word_cubes * w + i + nx * r)

module _ (nx : ℕ) where
  -- more rows
  rows_more : (from r many : ℕ) (above : ℕ → Bool) (entry exit : List ℕ) → ToldFrom nx from r above entry
      → ToldFrom nx (from + row_words nx * r) many (λ s. above (nx * r + s)) exit → ((k : ℕ) → k < from + row_words nx * r → get_or exit k 0 ≡ get_or entry k 0)
      → ToldFrom nx from (r + many) above exit
  rows_more from r many above entry exit old new before q w i l lw li lx = go (dec_lt q r)
    where
      go : Dec (q < r) → bit (get_or exit (from + w + row_words nx * q) 0) i ≡ above (word_cubes * w + i + nx * q)
      go (yes lq) = rw (before (from + w + row_words nx * q) (omega (arith, low_lt w (row_words nx) q r lw lq))) (old q w i lq lw li lx)
      go (no past) =
          let k = q - r in
          let e : q ≡ r + k = omega arith in
          let place : from + w + row_words nx * (r + k) ≡ from + row_words nx * r + w + row_words nx * k = omega (arith, mul-add (row_words nx) r k) in
          let sample : word_cubes * w + i + nx * (r + k) ≡ nx * r + (word_cubes * w + i + nx * k) = omega (arith, mul-add nx r k) in
          subst (λ q. bit (get_or exit (from + w + row_words nx * q) 0) i ≡ above (word_cubes * w + i + nx * q)) (sym e) (rw (place, sample) (new k w i (omega arith) lw li lx))

  -- one row more of a batch
  pub row_next : {flags : List ℕ} {r from at to : ℕ} {entry room exit : List ℕ} → at ≡ nx * r → to ≡ from + row_words nx * r → Gathered flags nx 0 r from entry room
      → Gathered flags nx at 1 to room exit → Gathered flags nx 0 (r + 1) from entry exit
  row_next {flags} {r} {from} {at} {to} {entry} {room} {exit} is_at is-to old row =
      let new : Gathered flags nx (nx * r) 1 (from + row_words nx * r) room exit = rw (is_at, is-to) at row in
      record {
        words = rows_more from r 1 (λ s. flag_set flags (0 + s)) room exit old.words (simp zero-add new.words) new.before;
        before = λ k l. new.before k (omega arith) ∙ old.before k l;
      }

  -- one batch more
  pub batch_next : (grey : ℕ) (samples room : List ℕ) (r : ℕ) {flags entry exit : List ℕ} {many to : ℕ} → flags ≡ laid (flags_from grey samples (nx * r) (nx * many)) room
      → to ≡ row_words nx * r → Masked nx r grey samples entry → Gathered flags nx 0 many to entry exit → Masked nx (r + many) grey samples exit
  batch_next grey samples room r {flags} {entry} {exit} {many} {to} flagged is-to old batch =
      simp zero-add at (rows_more 0 r many (is_above_grey grey samples) entry exit (simp zero-add old) (simp zero-add told) (simp zero-add new.before))
    where
      new : Gathered flags nx 0 many (row_words nx * r) entry exit
      new = rw is-to at batch

      told : ToldFrom nx (row_words nx * r) many (λ s. is_above_grey grey samples (nx * r + s)) exit
      told q w i l lw li lx =
          simp zero-add at (new.words q w i l lw li lx)
          ∙ ap (λ f. flag_set f (word_cubes * w + i + nx * q)) flagged
          ∙ flag_is grey samples (nx * r) (nx * many) room (word_cubes * w + i + nx * q) (low_lt (word_cubes * w + i) nx q many lx l)

  -- a batch has a row, and no more samples than can be flagged
  pub some_row : 0 < nx → (most : ℕ) → nx ≤ most → 0 < most / nx
  some_row some most l = (le-div_iff_mul-le some).1 (rw (one-mul nx) l)

  pub batch_fits : 0 < nx → (most many : ℕ) → many ≤ most / nx → nx * many ≤ most
  batch_fits some most many l = rw (mul_comm nx many) ((le-div_iff_mul-le some).0 l)
