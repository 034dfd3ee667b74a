-- How large a triangle's twice the area is, D, and its squares L and its cotangents, each as a binary64 number: D is at least 1, and none has more than the root's digits before the point.
use mathlib.Core.Bool.{false, true≢false}
use mathlib.Core.Path.{◌≡◌, ◌∙◌}
use Prim.Native.Nat.{ℕ, ◌+◌, ◌*◌, ◌^◌, ◌≤◌, ◌<◌}
use native.Mathlib.Nat.{mul-le-mul, mul-le-mul_right, lt_of_not-le, one-mul}
use native.Mathlib.Omega.{arith}
use lib.IntN.{ℤ, pos, negsuc, nat_abs}
use lib.Pow.{pow-add, pow_mono, pow_pos}
use lib.Ieee.{Float, binary64, of_int, div}
use lib.Ieee.Exact.{HasValue}
use lib.Ieee.Back.{round_whole}
use Rattle.laws.proofs.Digits.{pow_pow}
use Rattle.laws.specs.Signed.{negative}
use Rattle.grid.specs.Limits.{window_to, root_digits}
use Rattle.root.specs.Root.{scale_of, root_of}
use Rattle.root.specs.Promise.{Rooted}
use Rattle.root.proofs.Window.{scale_most}
use Rattle.root.proofs.OneRoot.{root_of_lem, root_most}
use Rattle.mesh.specs.declared.Place.{Place}
use Rattle.mesh.specs.Place.{Near}
use Rattle.measures.specs.declared.corners.Dots.{Dots}
use Rattle.measures.specs.declared.corners.Corners.{Corners}
use Rattle.measures.specs.Sides.{opposite_at}
use Rattle.measures.specs.Sizes.{SmallDots, most_products}
use Rattle.measures.specs.Vectors.{whole}
use Rattle.measures.specs.Corners.{squares_of, double_area, cotangents}
use Rattle.measures.proofs.Bounds.{opposite_at_small}
use Rattle.finite.proofs.AtMost.{AtMost, whole_at_most}
use Rattle.finite.proofs.AtLeast.{AtLeast, Grain, whole_at_least, whole_grain}
use Rattle.finite.proofs.Quotient.{div_at_most, div_grain, div_at_least_one}

-- of the number at each corner
pub record Each (P : Float → Type 0) (c : Corners) : Type 0 where
  pub one : P c.one
  pub two : P c.two
  pub three : P c.three

-- a whole number up to 2^53
whole_value : (n : ℕ) → n ≤ 2 ^ 53 → HasValue (whole (pos n)) false n 1
unfolding of_int
whole_value n h = round_whole binary64 false n h

-- a power of two, as the divisors 2^s, 4 and 8 are
pub power_most : (s : ℕ) → s ≤ root_digits → AtMost 1 s (whole (pos (2 ^ s)))
power_most s h = whole_at_most 1 s (pos (2 ^ s)) (omega arith) (omega arith) (omega (arith, one-mul (2 ^ s)))

pub power_least : (s : ℕ) → s ≤ root_digits → AtLeast 0 (whole (pos (2 ^ s)))
power_least s h = whole_at_least 1 s (2 ^ s) (pow_pos s) (power_most s h)

-- twice the area: r / 2^s is at least 1, since 4^s is at most N·4^s
module _ (n : ℕ) (positive : 0 < n) (small : n < 2 ^ window_to) where
  rooted : Rooted n (scale_of n) (root_of n)
  rooted = root_of_lem n positive small

  scale_small : scale_of n < root_digits
  scale_small = scale_most n (scale_of n) positive rooted.window

  root_small : root_of n < 2 ^ root_digits
  root_small = root_most n (scale_of n) (root_of n) rooted

  not_less : root_of n < 2 ^ scale_of n → ⊥
  not_less h =
      let s = scale_of n in
      let r = root_of n in
      let squares : (r + 1) * (r + 1) ≤ 2 ^ s * 2 ^ s = mul-le-mul {n₁ = r + 1} {m₁ = r + 1} {n₂ = 2 ^ s} {m₂ = 2 ^ s} (omega arith) (omega arith) in
      let twice : 2 * s ≡ s + s = omega arith in
      let power : 4 ^ s ≡ 2 ^ s * 2 ^ s = pow_pow 2 2 s ∙ rw (twice, pow-add 2 s s) in
      let least : 1 * 4 ^ s ≤ n * 4 ^ s = mul-le-mul_right {m = 1} {n = n} (4 ^ s) positive in
      omega (arith, squares, power, least, one-mul (4 ^ s), rooted.root.next_above)

  pub double_most : AtMost 1 root_digits (double_area n)
  unfolding double_area
  double_most =
      div_at_most 1 root_digits 0 (whole (pos (root_of n))) (whole (pos (2 ^ scale_of n))) (omega arith) (omega arith)
      (whole_at_most 1 root_digits (pos (root_of n)) (omega arith) (omega arith) (omega (arith, root_small))) (power_least (scale_of n) (omega (arith, scale_small)))

  pub double_least : AtLeast 0 (double_area n)
  unfolding double_area
  double_least =
      let s = scale_of n in
      let power_small : 2 ^ s ≤ 2 ^ root_digits = pow_mono {i = s} {j = root_digits} (omega (arith, scale_small)) in
      div_at_least_one (2 ^ s) (root_of n) 1 root_digits (whole (pos (root_of n))) (whole (pos (2 ^ s))) (pow_pos s) (omega (arith, lt_of_not-le not_less))
      (whole_value (root_of n) (omega (arith, root_small))) (whole_value (2 ^ s) (omega (arith, power_small))) double_most

-- L, from a triangle whose places are within the limit
module _ (p q r : Place) (hp : Near p) (hq : Near q) (hr : Near r) where
  square_most : AtMost 1 root_digits (whole (pos (opposite_at p q r)))
  square_most = whole_at_most 1 root_digits (pos (opposite_at p q r)) (omega arith) (omega arith) (omega (arith, opposite_at_small p q r hp hq hr))

pub squares_most : (p q r : Place) → Near p → Near q → Near r → Each (AtMost 1 root_digits) (squares_of p q r)
unfolding squares_of
squares_most p q r hp hq hr = record { one = square_most p q r hp hq hr; two = square_most q r p hq hr hp; three = square_most r p q hr hp hq }

pub squares_grain : (p q r : Place) → Near p → Near q → Near r → Each (Grain 0) (squares_of p q r)
unfolding squares_of
squares_grain p q r hp hq hr =
    record {
      one = whole_grain 1 root_digits (opposite_at p q r) (square_most p q r hp hq hr);
      two = whole_grain 1 root_digits (opposite_at q r p) (square_most q r p hq hr hp);
      three = whole_grain 1 root_digits (opposite_at r p q) (square_most r p q hr hp hq);
    }

-- d / D, for a D of at least 1
module _ (double : Float) (most : AtMost 1 root_digits double) (least : AtLeast 0 double) where
  dot_most : (z : ℤ) → nat_abs z ≤ most_products 3 → AtMost 1 root_digits (whole z)
  dot_most z h = whole_at_most 1 root_digits z (omega arith) (omega arith) (omega arith)

  cotangent_most : (z : ℤ) → nat_abs z ≤ most_products 3 → AtMost 1 root_digits (div binary64 (whole z) double)
  cotangent_most z h = div_at_most 1 root_digits 0 (whole z) double (omega arith) (omega arith) (dot_most z h) least

  cotangent_grain : (z : ℤ) → nat_abs z ≤ most_products 3 → negative z ≡ false → Grain root_digits (div binary64 (whole z) double)
  unfolding negative
  cotangent_grain (pos n) h s =
      div_grain 0 root_digits 0 1 root_digits (whole (pos n)) double (omega arith) (whole_grain 1 root_digits n (dot_most (pos n) h)) most least (cotangent_most (pos n) h)
  cotangent_grain (negsuc n) h s = absurd (true≢false s)

  module _ (d : Dots) (small : SmallDots d) where
    pub cotangents_most : Each (AtMost 1 root_digits) (cotangents d double)
    unfolding cotangents
    cotangents_most = record { one = cotangent_most d.one small.one; two = cotangent_most d.two small.two; three = cotangent_most d.three small.three }

    pub cotangents_grain : negative d.one ≡ false → negative d.two ≡ false → negative d.three ≡ false → Each (Grain root_digits) (cotangents d double)
    unfolding cotangents
    cotangents_grain a b c =
        record {
          one = cotangent_grain d.one small.one a;
          two = cotangent_grain d.two small.two b;
          three = cotangent_grain d.three small.three c;
        }
