-- Whole numbers as binary64 numbers: as words, and as literals.
use mathlib.Core.Path.{◌≡◌, refl, ◌∙◌}
use Prim.Native.Nat.{◌^◌, ◌≤◌}
use native.Mathlib.Omega.{arith}
use lib.Count.{count_trailing_zeros}
use lib.Dec.{T, le→leb, lt→ltb}
use lib.Ieee.{Float, binary64, in_float, of_bits, of_fields, odd, of_int, round, units, size, span, climb}
use lib.IntN.{ℤ, pos, negsuc, nat_abs}
use mir.Syntax.{w64}
use mir.Val.{to_z, of_z}
use Rattle.measures.specs.Vectors.{plus_zero, whole}
use Rattle.laws.proofs.Sizes.{held, read_back}

-- the literals 0.0, 4.0 and 8.0
pub zero_is : of_bits binary64 0 ≡ plus_zero
unfolding of_bits of_fields odd
zero_is = refl

pub four_is : of_bits binary64 0x4010_0000_0000_0000 ≡ whole (pos 4)
unfolding of_bits of_fields odd of_int round units size span climb count_trailing_zeros
four_is = refl

pub eight_is : of_bits binary64 0x4020_0000_0000_0000 ≡ whole (pos 8)
unfolding of_bits of_fields odd of_int round units size span climb count_trailing_zeros
eight_is = refl

-- up to 2^53 every whole number is a binary64
pub exact : (a : ℤ) → nat_abs a ≤ 2 ^ 53 → T (in_float binary64 a)
unfolding in_float
exact (pos n) h = le→leb n (2 ^ 53) h
exact (negsuc n) h = lt→ltb n (2 ^ 53) (omega arith)

-- a word made a float
module _ (a : ℤ) (h : nat_abs a ≤ 2 ^ 53) where
  read_a : to_z w64 (of_z w64 a) ≡ a
  read_a = read_back a (held a (omega arith))

  pub float_asked : nat_abs (to_z w64 (of_z w64 a)) ≤ 2 ^ 53
  float_asked = rw read_a h

  pub float_learnt : {f : Float} → f ≡ whole (to_z w64 (of_z w64 a)) → f ≡ whole a
  float_learnt e = e ∙ rw read_a
