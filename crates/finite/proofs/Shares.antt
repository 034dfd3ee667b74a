-- How large the shares of a triangle's corners are.
use mathlib.Core.Bool.{Bool, true, false, cond}
use mathlib.Core.Path.{◌≡◌, refl}
use Prim.Native.Nat.{ℕ, ◌+◌, ◌^◌, ◌≤◌}
use native.Mathlib.Omega.{arith}
use lib.IntN.{pos}
use lib.Ieee.{Float, binary64, add, mul, div}
use Rattle.laws.specs.Signed.{negative}
use Rattle.grid.specs.Limits.{root_digits}
use Rattle.measures.specs.declared.corners.Dots.{Dots}
use Rattle.measures.specs.declared.corners.Corners.{Corners}
use Rattle.measures.specs.Vectors.{whole}
use Rattle.measures.specs.Corners.{corners, acute_share, acute_shares, shares}
use Rattle.finite.proofs.AtMost.{AtMost, at_most_more, add_at_most, mul_at_most}
use Rattle.finite.proofs.AtLeast.{AtLeast, Grain, at_least_grain, grain_more, add_grain, mul_grain}
use Rattle.finite.proofs.Quotient.{div_at_most, div_grain}
use Rattle.finite.proofs.Cotangents.{Each, power_most, power_least}

-- a share is at most twice a square times a cotangent, and 0 or at least an eighth of the least cotangent
abbrev pub share_digits : ℕ
share_digits = root_digits + root_digits

abbrev pub share_grain : ℕ
share_grain = root_digits + 3

pub record Share (x : Float) : Type 0 where
  pub most : AtMost 2 share_digits x
  pub grain : Grain share_grain x

-- where it is worked out from two squares and two cotangents
module _ (lj cotj lk cotk : Float) (lj-most : AtMost 1 root_digits lj) (cotj-most : AtMost 1 root_digits cotj) (lk-most : AtMost 1 root_digits lk) (cotk-most : AtMost 1 root_digits cotk)
    (lj-grain : Grain 0 lj) (cotj-grain : Grain root_digits cotj) (lk-grain : Grain 0 lk) (cotk-grain : Grain root_digits cotk) where
  abbrev both_sides : Float
  both_sides = add binary64 (mul binary64 lj cotj) (mul binary64 lk cotk)

  both_most : AtMost 2 share_digits both_sides
  both_most = add_at_most 1 1 share_digits (mul binary64 lj cotj) (mul binary64 lk cotk) (omega arith) (omega arith) (mul_at_most root_digits root_digits lj cotj (omega arith) lj-most cotj-most) (mul_at_most root_digits root_digits lk cotk (omega arith) lk-most cotk-most)

  both_grain : Grain root_digits both_sides
  both_grain =
      add_grain root_digits 2 share_digits (mul binary64 lj cotj) (mul binary64 lk cotk) (omega arith)
      (mul_grain 0 root_digits 1 share_digits lj cotj (omega arith) lj-grain cotj-grain (mul_at_most root_digits root_digits lj cotj (omega arith) lj-most cotj-most))
      (mul_grain 0 root_digits 1 share_digits lk cotk (omega arith) lk-grain cotk-grain (mul_at_most root_digits root_digits lk cotk (omega arith) lk-most cotk-most))
      both_most

  pub acute_share_lem : Share (acute_share lj cotj lk cotk)
  unfolding acute_share
  acute_share_lem =
      let m = div_at_most 2 share_digits 0 both_sides (whole (pos 8)) (omega arith) (omega arith) both_most (power_least 3 (omega arith)) in
      record { most = m; grain = div_grain root_digits 3 0 2 share_digits both_sides (whole (pos 8)) (omega arith) both_grain (power_most 3 (omega arith)) (power_least 3 (omega arith)) m }

pub acute_each : (l cot : Corners) → Each (AtMost 1 root_digits) l → Each (Grain 0) l → Each (AtMost 1 root_digits) cot → Each (Grain root_digits) cot → Each Share (acute_shares l cot)
unfolding acute_shares
acute_each l cot lm lg cm cg =
    record {
      one = acute_share_lem l.two cot.two l.three cot.three lm.two cm.two lm.three cm.three lg.two cg.two lg.three cg.three;
      two = acute_share_lem l.three cot.three l.one cot.one lm.three cm.three lm.one cm.one lg.three cg.three lg.one cg.one;
      three = acute_share_lem l.one cot.one l.two cot.two lm.one cm.one lm.two cm.two lg.one cg.one lg.two cg.two;
    }

-- a part of D: D / 4 and D / 8
part_share : (s : ℕ) (double : Float) → s ≤ root_digits → AtMost 1 root_digits double → AtLeast 0 double → Share (div binary64 double (whole (pos (2 ^ s))))
part_share s double h most least =
    let part = div binary64 double (whole (pos (2 ^ s))) in
    let m : AtMost 1 root_digits part = div_at_most 1 root_digits 0 double (whole (pos (2 ^ s))) (omega arith) (omega arith) most (power_least s h) in
    let g : Grain (0 + s) part = div_grain 0 s 0 1 root_digits double (whole (pos (2 ^ s))) (omega arith) (at_least_grain 0 double least) (power_most s h) (power_least s h) m in
    record { most = at_most_more 1 root_digits 2 share_digits part (omega arith) m; grain = grain_more (0 + s) share_grain part (omega arith) g }

-- the shares, by the corner whose d is negative
module _ (d : Dots) (l cot : Corners) (double : Float) (most : AtMost 1 root_digits double) (least : AtLeast 0 double)
    (acute : negative d.one ≡ false → negative d.two ≡ false → negative d.three ≡ false → Each Share (acute_shares l cot)) where
  abbrev quarter : Float
  quarter = div binary64 double (whole (pos 4))

  abbrev eighth : Float
  eighth = div binary64 double (whole (pos 8))

  quarter_share : Share quarter
  quarter_share = part_share 2 double (omega arith) most least

  eighth_share : Share eighth
  eighth_share = part_share 3 double (omega arith) most least

  shares_by : (a b c : Bool) → negative d.one ≡ a → negative d.two ≡ b → negative d.three ≡ c
      → Each Share (cond a (corners quarter eighth eighth) (cond b (corners eighth quarter eighth) (cond c (corners eighth eighth quarter) (acute_shares l cot))))
  shares_by true b c ea eb ec = record { one = quarter_share; two = eighth_share; three = eighth_share }
  shares_by false true c ea eb ec = record { one = eighth_share; two = quarter_share; three = eighth_share }
  shares_by false false true ea eb ec = record { one = eighth_share; two = eighth_share; three = quarter_share }
  shares_by false false false ea eb ec = acute ea eb ec

  pub shares_each : Each Share (shares d l cot double)
  unfolding shares
  shares_each = shares_by (negative d.one) (negative d.two) (negative d.three) refl refl refl
