-- Division to the nearest.
use Prim.Native.Nat.{ℕ, ◌+◌, ◌*◌, ◌/◌, ◌<◌, ◌≤◌}
use native.Mathlib.Nat.{div-lt_iff_lt-mul}
use native.Mathlib.Omega.{arith}
use Rattle.laws.specs.Nearest.{nearest}

-- what is at most m times the divisor is at most m
pub nearest_most : (a b m : ℕ) → 0 < b → a ≤ m * b → nearest a b ≤ m
unfolding nearest
nearest_most a b m l h =
    let k : 0 < 2 * b = omega arith in
    let s : (2 * a + b) / (2 * b) < m + 1 = (div-lt_iff_lt-mul k).1 (omega (arith, h)) in
    omega arith
