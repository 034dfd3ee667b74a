-- Quotients of binary64 numbers by a number that is not 0.
use mathlib.Core.Bool.{true, false, true≢false}
use mathlib.Core.Logic.{inl, inr}
use mathlib.Core.Path.{◌≡◌}
use Prim.Native.Nat.{ℕ, ◌+◌, ◌*◌, ◌^◌, ◌≤◌, ◌<◌}
use native.Mathlib.Nat.{one-mul, zero-mul, mul_comm, mul_assoc, mul_left_comm, mul-le-mul, mul-pos, lt_of_lt_of_le}
use native.Mathlib.Omega.{arith}
use lib.IntN.{ℤ}
use lib.Dec.{eqb}
use lib.Pow.{pow-add}
use lib.Ieee.{Float, nan, inf, fin, binary64, low, up, down, div}
use lib.Ieee.Fits.{up_pos, down_pos}
use lib.Ieee.Exact.{HasValue}
use lib.Ieee.Order.{transfer}
use lib.Ieee.Positive.{first_pos}
use borrow.Author.Tests.{ne_eqb}
use Rattle.finite.proofs.AtMost.{furthest, AtMost, round_at_most}
use Rattle.finite.proofs.AtLeast.{AtLeast, Grained, Grain, round_at_least, round_grain}

-- a number of that size is not 0
above_zero : (l n : ℕ) (d : ℤ) → down d ≤ n * up d * 2 ^ l → 0 < n
above_zero l n d h = first_pos n (up d) (first_pos (n * up d) (2 ^ l) (lt_of_lt_of_le (down_pos d) h))

not_zero : (n : ℕ) → 0 < n → eqb n 0 ≡ false
not_zero n h = ne_eqb n 0 (λ e. absurd (omega arith))

-- so dividing by it gives at most 2^l times as much
quotient_most : (q j l u v d e : ℕ) → u ≤ q * 2 ^ j * d → e ≤ v * 2 ^ l → u * e ≤ q * 2 ^ (j + l) * (v * d)
quotient_most q j l u v d e h g =
    let same : q * 2 ^ j * d * (v * 2 ^ l) ≡ q * 2 ^ (j + l) * (v * d) = simp (pow-add, mul_assoc, mul_comm, mul_left_comm) in
    rw same at (mul-le-mul {n₁ = u} {m₁ = e} {n₂ = q * 2 ^ j * d} {m₂ = v * 2 ^ l} h g)

pub div_at_most : (q j l : ℕ) (x y : Float) → q < 2 ^ 53 → j + l ≤ furthest → AtMost q j x → AtLeast l y → AtMost q (j + l) (div binary64 x y)
unfolding div
div_at_most q j l nan y hq hj h g = absurd h
div_at_most q j l (inf s) y hq hj h g = absurd h
div_at_most q j l (fin s m e) nan hq hj h g = absurd g
div_at_most q j l (fin s m e) (inf t) hq hj h g = absurd g
div_at_most q j l (fin s m e) (fin t n d) hq hj h g =
    let n-above : 0 < n = above_zero l n d g.1 in
    rw (not_zero n n-above)
    (round_at_most _ q (j + l) (m * up e * down d) (n * up d * down e) hq hj (mul-pos (mul-pos n-above (up_pos d)) (down_pos e)) (quotient_most q j l (m * up e) (n * up d) (down e) (down d) h g.1))

-- and a divisor of at most 2^j gives 0 or at least 2^-j times as much
grained_quotient : (l j u v d e : ℕ) → Grained l u d → v ≤ 1 * 2 ^ j * e → Grained (l + j) (u * e) (v * d)
grained_quotient l j u v d e (inl h) g = inl (rw (h, zero-mul))
grained_quotient l j u v d e (inr h) g =
    let same : 1 * 2 ^ j * e * (u * 2 ^ l) ≡ u * e * 2 ^ (l + j) = rw one-mul (simp (pow-add, mul_assoc, mul_comm, mul_left_comm)) in
    inr (rw same at (mul-le-mul {n₁ = v} {m₁ = d} {n₂ = 1 * 2 ^ j * e} {m₂ = u * 2 ^ l} g h))

pub div_grain : (l j k q i : ℕ) (x y : Float) → l + j ≤ low binary64 → Grain l x → AtMost 1 j y → AtLeast k y → AtMost q i (div binary64 x y) → Grain (l + j) (div binary64 x y)
unfolding div
div_grain l j k q i nan y hl h g a f = absurd h
div_grain l j k q i (inf s) y hl h g a f = absurd h
div_grain l j k q i (fin true m e) y hl h g a f = absurd (true≢false h.0)
div_grain l j k q i (fin false m e) nan hl h g a f = absurd g
div_grain l j k q i (fin false m e) (inf t) hl h g a f = absurd g
div_grain l j k q i (fin false m e) (fin true n d) hl h g a f = absurd (true≢false a.0)
div_grain l j k q i (fin false m e) (fin false n d) hl h g a f =
    let n-above : 0 < n = above_zero k n d a.1 in
    rw (not_zero n n-above)
    (round_grain (l + j) q i (m * up e * down d) (n * up d * down e) hl (mul-pos (mul-pos n-above (up_pos d)) (down_pos e)) (grained_quotient l j (m * up e) (n * up d) (down e) (down d) h.1 g)
    (rw (not_zero n n-above) at f))

-- a whole number divided by one that is not larger
pub div_at_least_one : (a b q j : ℕ) (x y : Float) → 0 < a → a ≤ b → HasValue x false b 1 → HasValue y false a 1 → AtMost q j (div binary64 x y) → AtLeast 0 (div binary64 x y)
unfolding div
div_at_least_one a b q j nan y ha h vx vy f = absurd vx
div_at_least_one a b q j (inf s) y ha h vx vy f = absurd vx
div_at_least_one a b q j (fin true m e) y ha h vx vy f = absurd (true≢false vx.0)
div_at_least_one a b q j (fin false m e) nan ha h vx vy f = absurd vy
div_at_least_one a b q j (fin false m e) (inf t) ha h vx vy f = absurd vy
div_at_least_one a b q j (fin false m e) (fin true n d) ha h vx vy f = absurd (true≢false vy.0)
div_at_least_one a b q j (fin false m e) (fin false n d) ha h vx vy f =
    let n-above : 0 < n = first_pos n (up d) (first_pos (n * up d) 1 (rw vy.1 (mul-pos ha (down_pos d)))) in
    let crossed : n * up d * down e ≤ m * up e * down d = transfer (n * up d) (m * up e) (down d) (down e) a b 1 1 (omega arith) (omega arith) vy.1 vx.1 (omega arith) in
    rw (not_zero n n-above)
    (round_at_least 0 q j (m * up e * down d) (n * up d * down e) (omega arith) (mul-pos (mul-pos n-above (up_pos d)) (down_pos e)) (omega (arith, crossed)) (rw (not_zero n n-above) at f))
