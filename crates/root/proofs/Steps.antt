-- The steps of the scaling: shifts that scale, and what the search for s keeps from turn to turn.
use mathlib.Core.Path.{◌≡◌, refl, sym, ap}
use Prim.Native.Nat.{ℕ, ◌+◌, ◌*◌, ◌-◌, ◌/◌, ◌%◌, ◌^◌, ◌≤◌, ◌<◌}
use native.Mathlib.Nat.{mul_assoc, mul_right_comm, mul-one, mul-le-mul_left, mul-le-mul_right, mul-lt-mul_of_pos_right, mod-eq_of_lt, one-le-pow}
use native.Mathlib.Omega.{arith}
use lib.Pow.{pow-add, pow_pos, shr-shr, shl-shr, shr_le}
use Rattle.laws.proofs.Digits.{pow_pow}
use Rattle.grid.specs.Limits.{window_to, window_from, root_digits}
use Rattle.root.specs.Root.{scaled}
use Rattle.root.specs.Promise.{InWindow}
use Rattle.root.proofs.Window.{half_power, scaled_add, scaled_next}

four_twice : (w : ℕ) → 4 ^ w ≡ 2 ^ (w + w)
four_twice w =
    let e : 2 * w ≡ w + w = omega arith in
    rw (pow_pow 2 2 w, e)

-- a number moved up by w binary digits twice is scaled by w, where that is below the window's end
pub moved_up : (n w : ℕ) → scaled n w < 2 ^ window_to → (n * 2 ^ w % 2 ^ 64 * 2 ^ w) % 2 ^ 64 ≡ scaled n w
moved_up n w small =
    let e : n * 2 ^ w * 2 ^ w ≡ scaled n w = rw (mul_assoc n (2 ^ w) (2 ^ w), four_twice w, pow-add 2 w w) in
    let first : n * 2 ^ w % 2 ^ 64 ≡ n * 2 ^ w = mod-eq_of_lt (omega (arith, e, small, mul-le-mul_left (n * 2 ^ w) (pow_pos w))) in
    rw (first, e) (mod-eq_of_lt (omega (arith, small)))

-- a power of four moved down so
moved_down : (k w : ℕ) → 4 ^ (k + w) / 2 ^ w / 2 ^ w ≡ 4 ^ k
moved_down k w = rw (shr-shr (4 ^ (k + w)) w w, pow-add 4 k w, four_twice w) (shl-shr (4 ^ k) (w + w))

-- what w scalings bring to the window's end: its start moved down so, and four times as much
abbrev limit : ℕ → ℕ
limit w = 2 ^ window_from / 2 ^ w / 2 ^ w * 4

limit_scaled : (w : ℕ) → w < root_digits → scaled (limit w) w ≡ 2 ^ window_to
limit_scaled w h =
    let k = root_digits - 1 - w in
    let e : k + w ≡ root_digits - 1 = omega arith in
    let down : 2 ^ window_from / 2 ^ w / 2 ^ w ≡ 4 ^ k = rw e at (moved_down k w) in
    let whole : 4 ^ (root_digits - 1) ≡ 4 ^ k * 4 ^ w = rw e at (pow-add 4 k w) in
    rw down (omega (arith, mul_right_comm (4 ^ k) 4 (4 ^ w), whole))

pub limit_fits : (w : ℕ) → limit w % 2 ^ 64 ≡ limit w
limit_fits w = mod-eq_of_lt (omega (arith, shr_le (2 ^ window_from) w, shr_le (2 ^ window_from / 2 ^ w) w))

-- what the search keeps: the number is n scaled so far, and the steps that are left, 2^left less one in all, bring it to the window
pub record Reaches (n scale number step : ℕ) : Type 0 where
  pub left : ℕ
  pub halves : step ≡ 2 ^ left / 2
  pub few : step < root_digits
  pub is_scaled : number ≡ scaled n scale
  pub below : number < 2 ^ window_to
  pub reach : 2 ^ window_from ≤ scaled number (2 ^ left - 1)

pub all_steps : (n : ℕ) → 0 < n → n < 2 ^ window_to → Reaches n 0 n 16
all_steps n positive small =
    record { left = 5; halves = refl; few = omega arith; is_scaled = sym (mul-one n); below = small; reach = omega arith }

module _ {n scale number step : ℕ} (h : Reaches n scale number step) (some : 0 < step) where
  twice : 2 ^ h.left ≡ 2 * 2 ^ (h.left - 1)
  twice = half_power h.left (omega (arith, h.halves))

  step_is : step ≡ 2 ^ (h.left - 1)
  step_is = omega (arith, h.halves, twice)

  -- the steps that are left after this one
  abbrev rest : ℕ
  rest = 2 ^ (h.left - 1) - 1

  next : rest + 1 ≡ step
  next = omega (arith, step_is, pow_pos (h.left - 1))

  both : 2 ^ h.left - 1 ≡ step + rest
  both = omega (arith, twice, step_is, next)

  pub moved_below : number < limit step → scaled number step < 2 ^ window_to
  moved_below small = omega (arith, limit_scaled step h.few, mul-lt-mul_of_pos_right small (one-le-pow step 4 (omega arith)))

  pub step_taken : number < limit step → Reaches n (scale + step) (scaled number step) (step / 2)
  step_taken small =
      record {
        left = h.left - 1;
        halves = ap (λ k. k / 2) step_is;
        few = omega (arith, h.few);
        is_scaled = rw h.is_scaled (sym (scaled_add n scale step));
        below = moved_below small;
        reach = rw (sym (scaled_add number step rest), sym both) h.reach;
      }

  pub step_left : limit step ≤ number → Reaches n scale number (step / 2)
  step_left large =
      record {
        left = h.left - 1;
        halves = ap (λ k. k / 2) step_is;
        few = omega (arith, h.few);
        is_scaled = h.is_scaled;
        below = h.below;
        reach = omega (arith, limit_scaled step h.few, mul-le-mul_right (4 ^ step) large, rw next at (scaled_next number rest));
      }

pub reached : {n scale number : ℕ} → Reaches n scale number 0 → InWindow n scale
reached {n} {scale} {number} h =
    let one : 2 ^ h.left ≡ 1 = omega (arith, h.halves, pow_pos h.left) in
    let least : 2 ^ window_from ≤ scaled number 0 = rw one at h.reach in
    record { least = omega (arith, least, h.is_scaled); most = omega (arith, h.below, h.is_scaled) }
