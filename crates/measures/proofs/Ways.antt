-- The shares, by the corner whose d is negative.
use mathlib.Core.Bool.{true, false}
use mathlib.Core.Path.{◌≡◌}
use lib.Ieee.{Float, binary64, div, of_bits}
use Rattle.measures.specs.declared.corners.Dots.{Dots}
use Rattle.measures.specs.declared.corners.Corners.{Corners}
use Rattle.laws.specs.Signed.{negative}
use Rattle.measures.specs.Corners.{corners, acute_shares, shares}
use Rattle.measures.proofs.Floats.{four_is, eight_is}

module _ (d : Dots) (l cot : Corners) (double : Float) where
  abbrev quarter : Float
  quarter = div binary64 double (of_bits binary64 0x4010_0000_0000_0000)

  abbrev eighth : Float
  eighth = div binary64 double (of_bits binary64 0x4020_0000_0000_0000)

  pub first_negative : negative d.one ≡ true → corners quarter eighth eighth ≡ shares d l cot double
  unfolding shares
  first_negative h = rw (four_is, eight_is, h)

  pub second_negative : negative d.one ≡ false → negative d.two ≡ true → corners eighth quarter eighth ≡ shares d l cot double
  unfolding shares
  second_negative h k = rw (four_is, eight_is, h, k)

  pub third_negative : negative d.one ≡ false → negative d.two ≡ false → negative d.three ≡ true → corners eighth eighth quarter ≡ shares d l cot double
  unfolding shares
  third_negative h k m = rw (four_is, eight_is, h, k, m)

  pub none_negative : negative d.one ≡ false → negative d.two ≡ false → negative d.three ≡ false → acute_shares l cot ≡ shares d l cot double
  unfolding shares
  none_negative h k m = rw (h, k, m)
