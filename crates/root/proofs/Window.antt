-- Scaling: how far a number is scaled to be brought into the window.
use mathlib.Core.Path.{◌≡◌, sym, ◌∙◌}
use Prim.Native.Nat.{ℕ, zero, suc, ◌+◌, ◌*◌, ◌-◌, ◌^◌, ◌<◌}
use native.Mathlib.Nat.{pow-suc, mul_assoc, mul_comm, mul_left_comm, mul-le-mul_right, lt_of_not-le, pow-le-pow_right}
use native.Mathlib.Omega.{arith}
use lib.Pow.{pow-add}
use Rattle.grid.specs.Limits.{window_to, root_digits}
use Rattle.root.specs.Root.{scaled}
use Rattle.root.specs.Promise.{InWindow}

pub four_squares : (r : ℕ) → (2 * r) * (2 * r) ≡ 4 * (r * r)
four_squares r = omega (arith, mul_assoc 2 r (2 * r), mul_left_comm r 2 r)

pub half_power : (k : ℕ) → 1 < 2 ^ k → 2 ^ k ≡ 2 * 2 ^ (k - 1)
half_power zero h = absurd (omega arith)
half_power (suc k) h =
    let e : suc k - 1 ≡ k = omega arith in
    rw (e, pow-suc 2 k) (mul_comm (2 ^ k) 2)

-- one scaling after another
pub scaled_add : (n s t : ℕ) → scaled n (s + t) ≡ scaled (scaled n s) t
scaled_add n s t = rw (pow-add 4 s t) (sym (mul_assoc n (4 ^ s) (4 ^ t)))

pub scaled_next : (n s : ℕ) → scaled n (s + 1) ≡ 4 * scaled n s
scaled_next n s = scaled_add n s 1 ∙ mul_comm (scaled n s) 4

-- no number stays below the window's end for more scalings
pub scale_below : (n s : ℕ) → 0 < n → scaled n s < 2 ^ window_to → s < root_digits
scale_below n s positive small =
    lt_of_not-le
    (λ large. absurd (omega (arith, pow-le-pow_right {n = 4} (omega arith) {i = root_digits} {j = s} large, mul-le-mul_right {m = 1} {n = n} (4 ^ s) positive, small)))

pub scale_most : (n s : ℕ) → 0 < n → InWindow n s → s < root_digits
scale_most n s positive h = scale_below n s positive h.most
