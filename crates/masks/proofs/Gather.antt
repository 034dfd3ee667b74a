-- Flags gathered to masks: eight by one product, and masks joined to longer ones.
use mathlib.Core.Path.{◌≡◌, refl, sym}
use mathlib.Core.List.{List, [], ◌∷◌, map}
use mathlib.Core.Bool.{Bool, true}
use Prim.Native.Nat.{ℕ, ◌+◌, ◌*◌, ◌/◌, ◌%◌, ◌^◌, ◌<◌}
use native.Mathlib.Nat.{add_assoc}
use lib.Dec.{eqb}
use borrow.Author.Tests.{eqb-true}
use Rattle.laws.specs.Range.{one_if}
use Rattle.laws.specs.Bits.{all_rows, bits, bit, values_from}
use Rattle.laws.proofs.Halves.{length_values, bit_of_values, values_append, bits_append}
use Rattle.laws.proofs.Tests.{row_at}
use Rattle.masks.proofs.Flags.{flag_byte}
use Rattle.masks.specs.Flags.{AreFlags, four_bytes, flag_set, flag_mask}

-- eight flags by the product
abbrev product : ℕ → ℕ
product n = n * (2 ^ 24 + 2 ^ 17 + 2 ^ 10 + 2 ^ 3) / 2 ^ 24 % 2 ^ 8

abbrev gathers : List Bool → Bool
gathers bs = let flags = map one_if bs in eqb (product (four_bytes flags 0 + 2 ^ 4 * four_bytes flags 4)) (bits bs)

every_row_gathers : all_rows 8 gathers ≡ true
unfolding all_rows bits
every_row_gathers = refl

module _ (flags : List ℕ) where
  pub eight_gathered : AreFlags flags → (at : ℕ) → product (four_bytes flags at + 2 ^ 4 * four_bytes flags (at + 4)) ≡ flag_mask flags at 8
  unfolding flag_mask values_from
  eight_gathered are at =
      let f : ℕ → Bool = flag_set flags in
      let row : List Bool = f at ∷ f (at + 1) ∷ f (at + 2) ∷ f (at + 3) ∷ f (at + 4) ∷ f (at + 5) ∷ f (at + 6) ∷ f (at + 7) ∷ [] in
      simp (add_assoc at, flag_byte flags are) (eqb-true _ _ (row_at 8 gathers every_row_gathers row refl))

  -- a mask's bits, and a longer mask
  pub mask_bit : (at n x : ℕ) → x < n → bit (flag_mask flags at n) x ≡ flag_set flags (at + x)
  unfolding flag_mask
  mask_bit at n x l = bit_of_values (flag_set flags) at n x l

  pub mask_join : (at m n : ℕ) → flag_mask flags at m + 2 ^ m * flag_mask flags (at + m) n ≡ flag_mask flags at (m + n)
  unfolding flag_mask
  mask_join at m n =
      sym (rw (values_append (flag_set flags) at m n, bits_append (values_from (flag_set flags) at m) (values_from (flag_set flags) (at + m) n), length_values (flag_set flags) at m))
