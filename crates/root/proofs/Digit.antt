-- One binary digit of a whole root more, and what the search for it keeps from turn to turn.
use mathlib.Core.Path.{◌≡◌, refl, sym, ap}
use Prim.Native.Nat.{ℕ, ◌+◌, ◌*◌, ◌-◌, ◌/◌, ◌^◌, ◌≤◌, ◌<◌}
use native.Mathlib.Nat.{mul-add, add-mul, mul_comm, mul_left_comm, mul-le-mul, mul-one, lt_of_not-le}
use native.Mathlib.Omega.{arith}
use lib.Pow.{pow_pos}
use Rattle.grid.specs.Limits.{window_to, window_from, root_digits}
use Rattle.root.specs.Promise.{WholeRoot}
use Rattle.root.proofs.Window.{half_power, four_squares}

-- the root of m is q or more, and below q + b
pub record Between (m q b : ℕ) : Type 0 where
  pub not_above : q * q ≤ m
  pub next_above : m < (q + b) * (q + b)

-- the law of one digit, whose place value is b: it is 1 if (q + b)·(q + b) is not above m, and 0 if it is
module _ {m q b : ℕ} (h : Between m q (2 * b)) where
  pub digit_one : (q + b) * (q + b) ≤ m → Between m (q + b) b
  digit_one fits =
      let e : q + b + b ≡ q + 2 * b = omega arith in
      record { not_above = fits; next_above = rw e h.next_above }

  pub digit_none : m < (q + b) * (q + b) → Between m q b
  digit_none above = record { not_above = h.not_above; next_above = above }

-- that square, by what is kept
squares : (q b : ℕ) → (q + b) * (q + b) ≡ q * q + 2 * (q * b) + b * b
squares q b = rw (mul-add (q + b) q b, add-mul q b q, add-mul q b b, mul_comm b q) (omega arith)

-- what the search keeps: the digits found make q, the last of them has the place value 2^left, and the next one half of that
pub record Found (m square doubled place : ℕ) : Type 0 where
  pub q : ℕ
  pub left : ℕ
  pub squared : square ≡ q * q
  pub doubles : doubled ≡ q * 2 ^ left
  pub placed : place ≡ 2 ^ left * 2 ^ left / 4
  pub between : Between m q (2 ^ left)
  pub most : q + 2 ^ left ≤ 2 ^ root_digits

pub none_found : (m : ℕ) → m < 2 ^ window_to → Found m 0 0 (2 ^ window_from)
none_found m small =
    record {
      q = 0;
      left = root_digits;
      squared = refl;
      doubles = refl;
      placed = refl;
      between = record { not_above = omega arith; next_above = omega arith };
      most = omega arith;
    }

-- one turn, with b for the place value of its digit
module _ {m square doubled place : ℕ} (h : Found m square doubled place) (some : 0 < place) where
  abbrev b : ℕ
  b = 2 ^ (h.left - 1)

  twice : 2 ^ h.left ≡ 2 * b
  twice =
      half_power h.left
      (lt_of_not-le (λ few. absurd (omega (arith, h.placed, mul-le-mul {n₁ = 2 ^ h.left} {m₁ = 2 ^ h.left} {n₂ = 1} {m₂ = 1} few few))))

  place_squared : place ≡ b * b
  place_squared = omega (arith, four_squares b, rw twice at h.placed)

  doubles_b : doubled ≡ 2 * (h.q * b)
  doubles_b = omega (arith, mul_left_comm h.q 2 b, rw twice at h.doubles)

  tried : square + (doubled + place) ≡ (h.q + b) * (h.q + b)
  tried = omega (arith, squares h.q b, h.squared, doubles_b, place_squared)

  pub tried_small : square + (doubled + place) < 2 ^ window_to
  tried_small =
      let most : h.q + b ≤ 2 ^ root_digits - 1 = omega (arith, h.most, twice, pow_pos (h.left - 1)) in
      omega (arith, tried, mul-le-mul {n₁ = h.q + b} {m₁ = h.q + b} {n₂ = 2 ^ root_digits - 1} {m₂ = 2 ^ root_digits - 1} most most)

  pub found_one : square + (doubled + place) ≤ m → Found m (square + (doubled + place)) ((doubled + place + place) / 2) (place / 4)
  found_one fits =
      record {
        q = h.q + b;
        left = h.left - 1;
        squared = tried;
        doubles = omega (arith, add-mul h.q b b, doubles_b, place_squared);
        placed = ap (λ p. p / 4) place_squared;
        between = digit_one (rw twice at h.between) (rw (sym tried) fits);
        most = omega (arith, h.most, twice);
      }

  pub found_none : m < square + (doubled + place) → Found m square (doubled / 2) (place / 4)
  found_none above =
      record {
        q = h.q;
        left = h.left - 1;
        squared = h.squared;
        doubles = omega (arith, doubles_b);
        placed = ap (λ p. p / 4) place_squared;
        between = digit_none (rw twice at h.between) (rw (sym tried) above);
        most = omega (arith, h.most, twice);
      }

pub found_all : {m square doubled : ℕ} → Found m square doubled 0 → WholeRoot m doubled
found_all {m} {square} {doubled} h =
    let below : 2 ^ h.left < 2 = lt_of_not-le (λ two. absurd (omega (arith, h.placed, mul-le-mul {n₁ = 2} {m₁ = 2} two two))) in
    let one : 2 ^ h.left ≡ 1 = omega (arith, below, pow_pos h.left) in
    let e : doubled ≡ h.q = rw (one, mul-one) at h.doubles in
    let ends = rw one at h.between in
    rw e (record { not_above = ends.not_above; next_above = ends.next_above })
