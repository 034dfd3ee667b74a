-- Binary64 numbers that are finite and at most q·2^j in size, and what each operation makes of them. Such a bound is a binary64 number itself, so rounding does not pass it.
use mathlib.Core.Bool.{Bool, true, false, ◌&&◌, ◌||◌, beq, cond, true≢false}
use mathlib.Core.Path.{◌≡◌, refl, sym, subst}
use Prim.Native.Nat.{ℕ, zero, suc, ◌+◌, ◌-◌, ◌*◌, ◌^◌, ◌≤◌, ◌<◌}
use native.Mathlib.Nat.{le_trans, le_of_eq, mul-one, one-mul, mul_comm, mul_assoc, add-mul, mul-le-mul, mul-le-mul_right, mul-mul-mul_comm, mul-pos}
use native.Mathlib.Omega.{arith}
use lib.IntN.{ℤ, pos, negsuc, nat_abs}
use lib.Dec.{T, ltb, eqb, ltb→lt, eqb→eq}
use lib.Pow.{pow-add, pow_mono, shl_lt}
use lib.Ieee.{Float, nan, inf, fin, binary64, prec, emax, low, up, down, odd, units, round, sum, add, mul, le, of_int}
use lib.Ieee.Fits.{round_is, down_pos}
use lib.Ieee.Exact.{HasValue, odd_sign, round_exact}
use lib.Ieee.Order.{round_mono}
use lib.Ieee.Positive.{through}
use Rattle.measures.specs.Vectors.{whole}

-- no bound here goes further than this power of two times a whole number, far below what binary64 holds
abbrev pub furthest : ℕ
furthest = 900

-- neither a NaN nor an infinity, and no larger in size than q·2^j
abbrev pub AtMost : ℕ → ℕ → Float → Type 0
AtMost q j nan = ⊥
AtMost q j (inf s) = ⊥
AtMost q j (fin s m e) = m * up e ≤ q * 2 ^ j * down e

-- no NaN, and of that sign
abbrev pub HasSign : Bool → Float → Type 0
HasSign s nan = ⊥
HasSign s (inf t) = t ≡ s
HasSign s (fin t m e) = t ≡ s

value_sign : (x : Float) (s : Bool) (a c : ℕ) → HasValue x s a c → HasSign s x
value_sign nan s a c h = h
value_sign (inf t) s a c h = absurd h
value_sign (fin t m e) s a c h = h.0

either : (P : Float → Type 0) (b : Bool) (x y : Float) → P x → P y → P (cond b x y)
either P true x y p q = p
either P false x y p q = q

-- rounding gives the sign that it is handed
units_sign : (s : Bool) (q k : ℕ) → HasSign s (units binary64 s q k)
unfolding units
units_sign s q k =
    either (HasSign s) (ltb (q * 2 ^ k) (2 ^ (low binary64 + suc (emax binary64)))) (odd (suc (prec binary64)) s q k (low binary64)) (inf s)
    (value_sign (odd (suc (prec binary64)) s q k (low binary64)) s (q * 2 ^ k) (2 ^ low binary64) (odd_sign (suc (prec binary64)) s q k (low binary64))) refl

pub round_sign : (s : Bool) (a c : ℕ) → HasSign s (round binary64 s a c)
round_sign s a c = subst (HasSign s) (sym (round_is binary64 s a c)) (units_sign s _ _)

-- and the sign does not change the size
odd_unsigned : (s : Bool) (q j d n k l : ℕ) → AtMost q j (odd d false n k l) → AtMost q j (odd d s n k l)
unfolding odd
odd_unsigned s q j d zero k l h = h
odd_unsigned s q j d (suc n) k l h = h

units_unsigned : (s : Bool) (q j n k : ℕ) → AtMost q j (units binary64 false n k) → AtMost q j (units binary64 s n k)
unfolding units
units_unsigned s q j n k = go (ltb (n * 2 ^ k) (2 ^ (low binary64 + suc (emax binary64))))
  where
    go : (b : Bool) → AtMost q j (cond b (odd (suc (prec binary64)) false n k (low binary64)) (inf false)) → AtMost q j (cond b (odd (suc (prec binary64)) s n k (low binary64)) (inf s))
    go true h = odd_unsigned s q j (suc (prec binary64)) n k (low binary64) h
    go false h = h

round_unsigned : (s : Bool) (q j a c : ℕ) → AtMost q j (round binary64 false a c) → AtMost q j (round binary64 s a c)
round_unsigned s q j a c h =
    subst (AtMost q j) (sym (round_is binary64 s a c)) (units_unsigned s q j _ _ (subst (AtMost q j) (round_is binary64 false a c) h))

-- the order of two numbers that are not negative
less_or_equal : (a b : ℕ) (s t : Bool) → (T s → a < b) → (T t → a ≡ b) → T (s || (t && true)) → a ≤ b
less_or_equal a b true t f g h = omega (arith, f tt)
less_or_equal a b false true f g h = le_of_eq (g tt)
less_or_equal a b false false f g h = absurd h

pub ordered : (m n : ℕ) (e d : ℤ) → T (le (fin false m e) (fin false n d)) → m * up e * down d ≤ n * up d * down e
unfolding le
ordered m n e d h =
    less_or_equal (m * up e * down d) (n * up d * down e) (ltb (m * up e * down d) (n * up d * down e)) (eqb (m * up e * down d) (n * up d * down e)) (ltb→lt _ _) (eqb→eq _ _) h

under : (q j : ℕ) (x y : Float) → HasSign false x → HasValue y false (q * 2 ^ j) 1 → T (le x y) → AtMost q j x
unfolding le
under q j nan y s v h = absurd s
under q j (inf true) y s v h = absurd (true≢false s)
under q j (inf false) nan s v h = absurd v
under q j (inf false) (inf t) s v h = absurd v
under q j (inf false) (fin t n d) s v h = absurd h
under q j (fin true m e) y s v h = absurd (true≢false s)
under q j (fin false m e) nan s v h = absurd v
under q j (fin false m e) (inf t) s v h = absurd v
under q j (fin false m e) (fin true n d) s v h = absurd (true≢false v.0)
under q j (fin false m e) (fin false n d) s v h =
    rw (mul-one (m * up e)) at (through (m * up e) (n * up d) (q * 2 ^ j) (down e) (down d) 1 (down_pos d) (ordered m n e d h) (le_of_eq v.1))

-- a bound is a binary64 number, of 53 digits at most and far below 2^1024
bound_value : (q j : ℕ) → q < 2 ^ 53 → j ≤ furthest → HasValue (round binary64 false (q * 2 ^ j) 1) false (q * 2 ^ j) 1
bound_value q j hq hj =
    round_exact binary64 false (q * 2 ^ j) 1 q (j + low binary64) (omega arith) hq
    (le_trans (shl_lt {a = q} (prec binary64) (j + low binary64) hq) (pow_mono {i = prec binary64 + (j + low binary64)} {j = low binary64 + suc (emax binary64)} (omega arith)))
    (rw (pow-add 2 j (low binary64), mul-one, mul_assoc))

pub round_at_most : (s : Bool) (q j a c : ℕ) → q < 2 ^ 53 → j ≤ furthest → 0 < c → a ≤ q * 2 ^ j * c → AtMost q j (round binary64 s a c)
round_at_most s q j a c hq hj hc h =
    round_unsigned s q j a c
    (under q j (round binary64 false a c) (round binary64 false (q * 2 ^ j) 1) (round_sign false a c) (bound_value q j hq hj)
    (round_mono binary64 a c (q * 2 ^ j) 1 hc (omega arith) (rw (mul-one a) h)))

pub at_most_more : (q j r k : ℕ) (x : Float) → q * 2 ^ j ≤ r * 2 ^ k → AtMost q j x → AtMost r k x
at_most_more q j r k nan l h = absurd h
at_most_more q j r k (inf s) l h = absurd h
at_most_more q j r k (fin s m e) l h = le_trans h (mul-le-mul_right (down e) l)

-- a whole number
pub whole_at_most : (q j : ℕ) (z : ℤ) → q < 2 ^ 53 → j ≤ furthest → nat_abs z ≤ q * 2 ^ j → AtMost q j (whole z)
unfolding of_int
whole_at_most q j (pos n) hq hj h = round_at_most false q j n 1 hq hj (omega arith) (rw (mul-one (q * 2 ^ j)) h)
whole_at_most q j (negsuc n) hq hj h = round_at_most true q j (suc n) 1 hq hj (omega arith) (rw (mul-one (q * 2 ^ j)) h)

-- a sum, of any signs
sum_at_most : (s t : Bool) (q j a b c : ℕ) → q < 2 ^ 53 → j ≤ furthest → 0 < c → a + b ≤ q * 2 ^ j * c → AtMost q j (sum binary64 s a t b c)
unfolding sum
sum_at_most s t q j a b c hq hj hc h =
    either (AtMost q j) (beq s t) (round binary64 s (a + b) c) (cond (ltb a b) (round binary64 t (b - a) c) (round binary64 (s && ltb b a) (a - b) c))
    (round_at_most s q j (a + b) c hq hj hc h)
    (either (AtMost q j) (ltb a b) (round binary64 t (b - a) c) (round binary64 (s && ltb b a) (a - b) c)
    (round_at_most t q j (b - a) c hq hj hc (omega arith))
    (round_at_most (s && ltb b a) q j (a - b) c hq hj hc (omega arith)))

-- u / d + v / e is at most Q + R if u / d is at most Q and v / e at most R
cross_sum : (u v d e Q R : ℕ) → u ≤ Q * d → v ≤ R * e → u * e + v * d ≤ (Q + R) * (d * e)
cross_sum u v d e Q R h k =
    let a : u * e ≤ Q * (d * e) = rw (mul_assoc Q d e) at (mul-le-mul_right e h) in
    let b : v * d ≤ R * (d * e) = rw (mul_assoc R e d, mul_comm e d) at (mul-le-mul_right d k) in
    omega (arith, a, b, add-mul Q R (d * e))

pub add_at_most : (q r j : ℕ) (x y : Float) → q + r < 2 ^ 53 → j ≤ furthest → AtMost q j x → AtMost r j y → AtMost (q + r) j (add binary64 x y)
unfolding add
add_at_most q r j nan y hq hj h k = absurd h
add_at_most q r j (inf s) y hq hj h k = absurd h
add_at_most q r j (fin s m e) nan hq hj h k = absurd k
add_at_most q r j (fin s m e) (inf t) hq hj h k = absurd k
add_at_most q r j (fin s m e) (fin t n d) hq hj h k =
    sum_at_most s t (q + r) j (m * up e * down d) (n * up d * down e) (down e * down d) hq hj (mul-pos (down_pos e) (down_pos d))
    (rw (add-mul q r (2 ^ j)) (cross_sum (m * up e) (n * up d) (down e) (down d) (q * 2 ^ j) (r * 2 ^ j) h k))

cross_product : (u v d e i j : ℕ) → u ≤ 1 * 2 ^ i * d → v ≤ 1 * 2 ^ j * e → u * v ≤ 1 * 2 ^ (i + j) * (d * e)
cross_product u v d e i j h k =
    let powers : 1 * 2 ^ i * d * (1 * 2 ^ j * e) ≡ 1 * 2 ^ (i + j) * (d * e) = rw (one-mul (2 ^ i), one-mul (2 ^ j), one-mul (2 ^ (i + j)), pow-add 2 i j) (mul-mul-mul_comm (2 ^ i) d (2 ^ j) e) in
    rw powers at (mul-le-mul {n₁ = u} {m₁ = v} {n₂ = 1 * 2 ^ i * d} {m₂ = 1 * 2 ^ j * e} h k)

pub mul_at_most : (i j : ℕ) (x y : Float) → i + j ≤ furthest → AtMost 1 i x → AtMost 1 j y → AtMost 1 (i + j) (mul binary64 x y)
unfolding mul
mul_at_most i j nan y l h k = absurd h
mul_at_most i j (inf s) y l h k = absurd h
mul_at_most i j (fin s m e) nan l h k = absurd k
mul_at_most i j (fin s m e) (inf t) l h k = absurd k
mul_at_most i j (fin s m e) (fin t n d) l h k =
    round_at_most _ 1 (i + j) (m * up e * (n * up d)) (down e * down d) (omega arith) l (mul-pos (down_pos e) (down_pos d))
    (cross_product (m * up e) (n * up d) (down e) (down d) i j h k)
