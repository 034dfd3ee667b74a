-- A number r + m q with r below m: its remainder and quotient by m, and its bound; and where the m numbers with one quotient end. A power of a power.
use mathlib.Core.Path.{◌≡◌}
use Prim.Native.Nat.{ℕ, zero, suc, ◌+◌, ◌*◌, ◌/◌, ◌%◌, ◌^◌, ◌<◌, ◌≤◌}
use native.Mathlib.Nat.{mul_comm, mul-suc, mul-zero, mul-le-mul_left, pow-zero, pow-suc}
use native.Mathlib.Omega.{arith}
use lib.Arith.{digits_div, digits_mod, digits_lt}
use lib.Pow.{pow-add}

swapped : (r m q : ℕ) → r + m * q ≡ q * m + r
swapped r m q = omega (arith, mul_comm m q)

pub low_mod : (r m q : ℕ) → r < m → (r + m * q) % m ≡ r
low_mod r m q h = rw (swapped r m q) (digits_mod q h)

pub low_div : (r m q : ℕ) → r < m → (r + m * q) / m ≡ q
low_div r m q h = rw (swapped r m q) (digits_div q h)

pub low_lt : (r m q n : ℕ) → r < m → q < n → r + m * q < m * n
low_lt r m q n h k = omega (arith, mul_comm m q, mul_comm m n, digits_lt k h)

pub block_end : (m q n : ℕ) → q < n → m * q + m ≤ m * n
block_end m q n k = rw (← (mul-suc m q)) (mul-le-mul_left m k)

pub pow_pow : (n i k : ℕ) → (n ^ i) ^ k ≡ n ^ (i * k)
pow_pow n i zero = rw (mul-zero i, pow-zero n) (pow-zero (n ^ i))
pow_pow n i (suc k) = rw (pow-suc (n ^ i) k, mul-suc i k, pow-add n (i * k) i, pow_pow n i k)
