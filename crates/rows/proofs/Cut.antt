-- The crossed edges of a stretch's own samples, by its word and those of its neighbours.
use mathlib.Core.Path.{◌≡◌, refl, ap, ap₂, sym, ◌∙◌}
use mathlib.Core.List.{List}
use mathlib.Core.Bool.{Bool, true, false, cond, ◌&&◌, xor, and-true, and-false}
use Prim.Native.Nat.{ℕ, ◌+◌, ◌*◌, ◌/◌, ◌<◌}
use native.Mathlib.Decide.{dec_lt}
use native.Mathlib.Nat.{mul-add, mul-one}
use native.Mathlib.Omega.{arith}
use lib.Bits.{bit_and, bit_xor}
use lib.Dec.{ltb}
use lib.ListN.{get_or}
use borrow.Author.Tests.{ltb-true, lt-ltb, le-ltb}
use Rattle.laws.specs.Bits.{word_bits, bit}
use Rattle.laws.proofs.Tests.{same_ends}
use Rattle.laws.proofs.Words.{bit_and_lem, bit_xor_lem, bit_half}
use Rattle.grid.specs.Grid.{site}
use Rattle.grid.proofs.Crossings.{crossed_x, crossed_y, crossed_z}
use Rattle.masks.specs.Masks.{word_cubes}
use Rattle.rows.specs.declared.Sides.{Sides}
use Rattle.rows.specs.declared.Stretch.{Stretch}
use Rattle.rows.specs.Rows.{size_of, words_above, cut, layer_first, Ready, Stands, own_samples, own_cubes, samples_mask, cubes_mask, CutWords}
use Rattle.rows.proofs.Window.{above_lent}
use Rattle.rows.proofs.Stretches.{row_there, own_most, own_last, cubes_most, sample_is, behind_is, over_is, behind_there, over_there, samples_set, cubes_set}

module _ (sides : Sides) (masks : List ℕ) (z : ℕ) (ready : Ready sides z masks) (at : Stretch) (stands : Stands sides z at) (hy : at.y < sides.ny) (hz : z < sides.nz) where
  abbrev above : ℕ → Bool
  above = words_above sides masks

  -- the stretch's row of the grid, and of those lent
  abbrev row : ℕ
  row = at.y + sides.ny * z

  abbrev lent : ℕ
  lent = at.y + sides.ny * stands.up

  pub row_is : row ≡ lent + sides.ny * sides.below
  row_is = omega (arith, ap (λ z. sides.ny * z) stands.layer, mul-add sides.ny sides.below stands.up)

  -- the x of sample i
  abbrev x : ℕ → ℕ
  x i = word_cubes * stands.past + i

  -- bit i of the stretch's word in a row of those lent, which is row r of the grid
  pub bit_is : (l r i : ℕ) → l < sides.ny * ready.layers → r ≡ l + sides.ny * sides.below → i < word_bits → i < at.left
      → bit (get_or masks (stands.past + sides.words * l) 0) i ≡ above (x i + sides.nx * r)
  bit_is l r i there is small inside =
      let all : layer_first sides sides.below + (x i + sides.nx * l) ≡ x i + sides.nx * r = omega (arith, ap (λ r. sides.nx * r) is, mul-add sides.nx l (sides.ny * sides.below)) in
      rw (stands.each, ← all)
      (ready.agree l stands.past i there (omega (arith, stands.along, stands.some)) small (omega (arith, stands.along))
      ∙ sym (above_lent sides masks (omega (arith, ready.fit.least_x)) (x i + sides.nx * l)))

  abbrev here : ℕ
  here = get_or masks at.word 0

  abbrev behind : ℕ
  behind = cond (ltb (at.y + 1) sides.ny) (get_or masks (at.word + sides.words) 0) here

  abbrev over : ℕ
  over = cond (ltb (z + 1) sides.nz) (get_or masks (at.word + sides.words * sides.ny) 0) here

  module _ (i : ℕ) (small : i < word_bits) (inside : i < at.left) where
    abbrev s : ℕ
    s = at.s + i

    s_is : s ≡ x i + sides.nx * row
    s_is = sample_is sides z at stands i

    here_is : bit here i ≡ above s
    here_is = ap (λ k. bit (get_or masks k 0) i) stands.word ∙ bit_is lent row i (row_there sides masks z ready at stands hy) row_is small inside ∙ ap above (sym s_is)

    hx : x i < sides.nx
    hx = omega (arith, stands.along)

    cut_x : cut sides masks (3 * s) ≡ (ltb (x i + 1) sides.nx && xor (above s) (above (s + 1)))
    unfolding site
    cut_x = rw s_is (crossed_x (size_of sides) above (x i) at.y z hx hy hz)

    -- where there is no row further on the word is the row's own
    cut_y : cut sides masks (3 * s + 1) ≡ xor (bit here i) (bit behind i)
    unfolding site
    cut_y = rw (← s_is) at (crossed_y (size_of sides) above (x i) at.y z hx hy hz) ∙ go (ltb (at.y + 1) sides.ny) refl
      where
        go : (t : Bool) → ltb (at.y + 1) sides.ny ≡ t
            → (t && xor (above s) (above (s + sides.nx))) ≡ xor (bit here i) (bit (cond t (get_or masks (at.word + sides.words) 0) here) i)
        go true e =
            let q : s + sides.nx ≡ x i + sides.nx * (row + 1) = omega (arith, s_is, mul-add sides.nx row 1, mul-one sides.nx) in
            rw (here_is, behind_is sides z at stands, bit_is (lent + 1) (row + 1) i (behind_there sides masks z ready at stands (ltb-true _ _ e)) (omega (arith, row_is)) small inside, q)
        go false e = sym (same_ends (bit here i))

    cut_z : cut sides masks (3 * s + 2) ≡ xor (bit here i) (bit over i)
    unfolding site
    cut_z = rw (← s_is) at (crossed_z (size_of sides) above (x i) at.y z hx hy hz) ∙ go (ltb (z + 1) sides.nz) refl
      where
        go : (t : Bool) → ltb (z + 1) sides.nz ≡ t
            → (t && xor (above s) (above (s + sides.nx * sides.ny))) ≡ xor (bit here i) (bit (cond t (get_or masks (at.word + sides.words * sides.ny) 0) here) i)
        go true e =
            let q : s + sides.nx * sides.ny ≡ x i + sides.nx * (row + sides.ny) = omega (arith, s_is, mul-add sides.nx row sides.ny) in
            rw (here_is, over_is sides z at stands, bit_is (lent + sides.ny) (row + sides.ny) i (over_there sides masks z ready at stands hy (ltb-true _ _ e)) (omega (arith, row_is)) small inside, q)
        go false e = sym (same_ends (bit here i))

  abbrev own : ℕ
  own = own_samples at.left

  -- a word with the bits of a stretch's own samples alone
  masked : (f : ℕ → Bool) (word : ℕ) → ((i : ℕ) → i < own → bit word i ≡ f i) → (i : ℕ) → bit (bit_and word (samples_mask sides at.left)) i ≡ (ltb i own && f i)
  masked f word is i = bit_and_lem word (samples_mask sides at.left) i ∙ ap (λ t. bit word i && t) (samples_set sides masks z ready at stands i) ∙ go (dec_lt i own)
    where
      go : Dec (i < own) → (bit word i && ltb i own) ≡ (ltb i own && f i)
      go (yes l) = rw (lt-ltb i own l, and-true (bit word i)) (is i l)
      go (no u) = rw (le-ltb i own (omega arith)) (and-false (bit word i))

  pub cut_words : CutWords sides masks at.s own
      (record {
        x = bit_and (bit_xor here (here / 2)) (cubes_mask sides at.left);
        y = bit_and (bit_xor here behind) (samples_mask sides at.left);
        z = bit_and (bit_xor here over) (samples_mask sides at.left);
      })
  cut_words = record {
    along_x = λ i. bit_and_lem (bit_xor here (here / 2)) (cubes_mask sides at.left) i
        ∙ ap₂ ◌&&◌ (bit_xor_lem here (here / 2) i ∙ ap (xor (bit here i)) (bit_half here i)) (cubes_set sides masks z ready at stands i)
        ∙ along i (dec_lt i (own_cubes at.left)) (dec_lt i own);
    along_y = masked (λ i. cut sides masks (3 * (at.s + i) + 1)) (bit_xor here behind) (λ i l. bit_xor_lem here behind i ∙ sym (cut_y i (short i l) (within i l)));
    along_z = masked (λ i. cut sides masks (3 * (at.s + i) + 2)) (bit_xor here over) (λ i l. bit_xor_lem here over i ∙ sym (cut_z i (short i l) (within i l)));
  }
    where
      within : (i : ℕ) → i < own → i < at.left
      within i l = omega (arith, (own_most sides z at stands).0)

      short : (i : ℕ) → i < own → i < word_bits
      short i l = omega (arith, (own_most sides z at stands).1)

      -- the row's last sample has no edge along x
      along : (i : ℕ) → Dec (i < own_cubes at.left) → Dec (i < own)
          → (xor (bit here i) (bit here (i + 1)) && ltb i (own_cubes at.left)) ≡ (ltb i own && cut sides masks (3 * (at.s + i)))
      along i (yes l) mine =
          let most = cubes_most sides z at stands in
          let q : at.s + (i + 1) ≡ at.s + i + 1 = omega arith in
          rw (
            here_is i (omega (arith, most)) (omega (arith, most)),
            here_is (i + 1) (omega (arith, most)) (omega (arith, most)),
            q,
            cut_x i (omega (arith, most)) (omega (arith, most)),
            lt-ltb i (own_cubes at.left) l,
            lt-ltb i own (omega (arith, most)),
            lt-ltb (x i + 1) sides.nx (omega (arith, most, stands.along)),
          )
          (and-true (xor (above (at.s + i)) (above (at.s + i + 1))))
      along i (no u) (yes l) =
          let last = own_last sides z at stands i (omega arith) l in
          rw (
            le-ltb i (own_cubes at.left) (omega arith),
            lt-ltb i own l,
            cut_x i (short i l) (within i l),
            le-ltb (x i + 1) sides.nx (omega (arith, last, stands.along)),
          )
          (and-false (xor (bit here i) (bit here (i + 1))))
      along i (no u) (no v) = rw (le-ltb i (own_cubes at.left) (omega arith), le-ltb i own (omega arith)) (and-false (xor (bit here i) (bit here (i + 1))))
