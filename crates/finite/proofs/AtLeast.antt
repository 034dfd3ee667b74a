-- Binary64 numbers that are finite, not negative, and at least 2^-l, or else 0; and what each operation makes of them. Where such numbers divide, nothing becomes infinite.
use mathlib.Core.Bool.{true, false, true≢false}
use mathlib.Core.Logic.{◌⊎◌, inl, inr}
use mathlib.Core.Path.{◌≡◌, refl, sym, ap, subst, ◌∙◌}
use Prim.Native.Nat.{ℕ, suc, ◌+◌, ◌-◌, ◌*◌, ◌^◌, ◌≤◌, ◌<◌}
use native.Mathlib.Nat.{le_trans, le_of_eq, one-mul, zero-mul, mul-zero, mul_comm, mul_assoc, mul_right_comm, add-mul, mul-le-mul, mul-le-mul_left, mul-le-mul_right, mul-mul-mul_comm, mul-pos, eq-zero-or-pos}
use native.Mathlib.Omega.{arith}
use lib.IntN.{pos}
use lib.Dec.{T}
use lib.Pow.{pow-add, pow_mono, pow_pos, pow-lt}
use lib.Ieee.{Float, nan, inf, fin, binary64, low, emax, up, down, round, sum, add, mul, le, of_int}
use lib.Ieee.Fits.{down_pos}
use lib.Ieee.Exact.{HasValue, round_exact}
use lib.Ieee.Order.{round_mono}
use lib.Ieee.Positive.{through}
use Rattle.measures.specs.Vectors.{whole}
use Rattle.finite.proofs.AtMost.{AtMost, HasSign, round_sign, ordered}

-- at least 2^-l
abbrev pub AtLeast : ℕ → Float → Type 0
AtLeast l nan = ⊥
AtLeast l (inf s) = ⊥
AtLeast l (fin s m e) = (s ≡ false) × (down e ≤ m * up e * 2 ^ l)

-- 0 or at least 2^-l: a fraction, and a number
abbrev pub Grained : ℕ → ℕ → ℕ → Type 0
Grained l a c = (a ≡ 0) ⊎ (c ≤ a * 2 ^ l)

abbrev pub Grain : ℕ → Float → Type 0
Grain l nan = ⊥
Grain l (inf s) = ⊥
Grain l (fin s m e) = (s ≡ false) × Grained l (m * up e) (down e)

pub at_least_grain : (l : ℕ) (x : Float) → AtLeast l x → Grain l x
at_least_grain l nan h = h
at_least_grain l (inf s) h = h
at_least_grain l (fin s m e) h = (h.0, inr h.1)

more_digits : (l k a c : ℕ) → l ≤ k → c ≤ a * 2 ^ l → c ≤ a * 2 ^ k
more_digits l k a c h g = le_trans g (mul-le-mul_left a (pow_mono h))

pub grain_more : (l k : ℕ) (x : Float) → l ≤ k → Grain l x → Grain k x
grain_more l k nan h g = g
grain_more l k (inf s) h g = g
grain_more l k (fin s m e) h g = (g.0, elim g.1 [ inl z ↦ inl z | inr a ↦ inr (more_digits l k (m * up e) (down e) h a) ])

-- rounding
least_value : (l : ℕ) → l ≤ low binary64 → HasValue (round binary64 false 1 (2 ^ l)) false 1 (2 ^ l)
least_value l h =
    let whole-power : low binary64 - l + l ≡ low binary64 = omega arith in
    round_exact binary64 false 1 (2 ^ l) 1 (low binary64 - l) (pow_pos l) (omega arith)
    (rw (one-mul (2 ^ (low binary64 - l))) (pow-lt {i = low binary64 - l} {j = low binary64 + suc (emax binary64)} (omega arith)))
    (ap (λ k. 1 * 2 ^ k) (sym whole-power) ∙ ap (λ k. 1 * k) (pow-add 2 (low binary64 - l) l) ∙ sym (mul_assoc 1 (2 ^ (low binary64 - l)) (2 ^ l)))

over_least : (l q j : ℕ) (x y : Float) → HasValue x false 1 (2 ^ l) → HasSign false y → AtMost q j y → T (le x y) → AtLeast l y
over_least l q j nan y v s f h = absurd v
over_least l q j (inf t) y v s f h = absurd v
over_least l q j (fin true n d) y v s f h = absurd (true≢false v.0)
over_least l q j (fin false n d) nan v s f h = absurd f
over_least l q j (fin false n d) (inf t) v s f h = absurd f
over_least l q j (fin false n d) (fin true m e) v s f h = absurd (true≢false s)
over_least l q j (fin false n d) (fin false m e) v s f h =
    (refl, rw (one-mul (down e)) at (through 1 (n * up d) (m * up e) (2 ^ l) (down d) (down e) (down_pos d) (le_of_eq (sym v.1)) (ordered n m d e h)))

pub round_at_least : (l q j a c : ℕ) → l ≤ low binary64 → 0 < c → c ≤ a * 2 ^ l → AtMost q j (round binary64 false a c) → AtLeast l (round binary64 false a c)
round_at_least l q j a c hl hc h f =
    over_least l q j (round binary64 false 1 (2 ^ l)) (round binary64 false a c) (least_value l hl) (round_sign false a c) f
    (round_mono binary64 1 (2 ^ l) a c (pow_pos l) hc (rw (one-mul c) h))

no_part : (a c d : ℕ) → 0 < c → a * c ≡ 0 * d → a ≡ 0
no_part a c d hc e =
    elim (eq-zero-or-pos a) [ inl z ↦ z | inr p ↦ absurd (omega (arith, mul-pos p hc, e, zero-mul d)) ]

zero_value : (l c : ℕ) (x : Float) → 0 < c → HasValue x false 0 c → Grain l x
zero_value l c nan hc h = h
zero_value l c (inf s) hc h = absurd h
zero_value l c (fin s m e) hc h = (h.0, inl (no_part (m * up e) c (down e) hc h.1))

round_zero : (l c : ℕ) → 0 < c → Grain l (round binary64 false 0 c)
round_zero l c hc = zero_value l c (round binary64 false 0 c) hc (round_exact binary64 false 0 c 0 0 hc (omega arith) (pow_pos (low binary64 + suc (emax binary64))) (sym (zero-mul c)))

pub round_grain : (l q j a c : ℕ) → l ≤ low binary64 → 0 < c → Grained l a c → AtMost q j (round binary64 false a c) → Grain l (round binary64 false a c)
round_grain l q j a c hl hc (inl z) f = subst (λ k. Grain l (round binary64 false k c)) (sym z) (round_zero l c hc)
round_grain l q j a c hl hc (inr h) f = at_least_grain l (round binary64 false a c) (round_at_least l q j a c hl hc h f)

-- a whole number
pub whole_at_least : (q j n : ℕ) → 0 < n → AtMost q j (whole (pos n)) → AtLeast 0 (whole (pos n))
unfolding of_int
whole_at_least q j n h f = round_at_least 0 q j n 1 (omega arith) (omega arith) (omega arith) f

pub whole_grain : (q j n : ℕ) → AtMost q j (whole (pos n)) → Grain 0 (whole (pos n))
unfolding of_int
whole_grain q j n f = round_grain 0 q j n 1 (omega arith) (omega arith) (elim (eq-zero-or-pos n) [ inl z ↦ inl z | inr p ↦ inr (omega arith) ]) f

-- a sum
cross_more : (l u d e : ℕ) → d ≤ u * 2 ^ l → d * e ≤ u * e * 2 ^ l
cross_more l u d e h = rw (mul_right_comm u (2 ^ l) e) at (mul-le-mul_right e h)

grained_sum : (l u v d e : ℕ) → Grained l u d → Grained l v e → Grained l (u * e + v * d) (d * e)
grained_sum l u v d e (inl h) (inl k) = inl (rw (h, k, zero-mul e, zero-mul d))
grained_sum l u v d e (inr h) k = inr (omega (arith, cross_more l u d e h, add-mul (u * e) (v * d) (2 ^ l)))
grained_sum l u v d e (inl h) (inr k) = inr (omega (arith, cross_more l v e d k, add-mul (u * e) (v * d) (2 ^ l), mul_comm d e))

pub add_grain : (l q j : ℕ) (x y : Float) → l ≤ low binary64 → Grain l x → Grain l y → AtMost q j (add binary64 x y) → Grain l (add binary64 x y)
unfolding add sum
add_grain l q j nan y hl h k f = absurd h
add_grain l q j (inf s) y hl h k f = absurd h
add_grain l q j (fin true m e) y hl h k f = absurd (true≢false h.0)
add_grain l q j (fin false m e) nan hl h k f = absurd k
add_grain l q j (fin false m e) (inf t) hl h k f = absurd k
add_grain l q j (fin false m e) (fin true n d) hl h k f = absurd (true≢false k.0)
add_grain l q j (fin false m e) (fin false n d) hl h k f =
    round_grain l q j (m * up e * down d + n * up d * down e) (down e * down d) hl (mul-pos (down_pos e) (down_pos d)) (grained_sum l (m * up e) (n * up d) (down e) (down d) h.1 k.1) f

-- a product
product_least : (k l u v d e : ℕ) → d ≤ u * 2 ^ k → e ≤ v * 2 ^ l → d * e ≤ u * v * 2 ^ (k + l)
product_least k l u v d e h g = rw (mul-mul-mul_comm u (2 ^ k) v (2 ^ l), ← (pow-add 2 k l)) at (mul-le-mul {n₁ = d} {m₁ = e} {n₂ = u * 2 ^ k} {m₂ = v * 2 ^ l} h g)

grained_product : (k l u v d e : ℕ) → Grained k u d → Grained l v e → Grained (k + l) (u * v) (d * e)
grained_product k l u v d e (inl h) g = inl (rw (h, zero-mul))
grained_product k l u v d e (inr h) (inl g) = inl (rw (g, mul-zero))
grained_product k l u v d e (inr h) (inr g) = inr (product_least k l u v d e h g)

pub mul_grain : (k l q j : ℕ) (x y : Float) → k + l ≤ low binary64 → Grain k x → Grain l y → AtMost q j (mul binary64 x y) → Grain (k + l) (mul binary64 x y)
unfolding mul
mul_grain k l q j nan y hl h g f = absurd h
mul_grain k l q j (inf s) y hl h g f = absurd h
mul_grain k l q j (fin true m e) y hl h g f = absurd (true≢false h.0)
mul_grain k l q j (fin false m e) nan hl h g f = absurd g
mul_grain k l q j (fin false m e) (inf t) hl h g f = absurd g
mul_grain k l q j (fin false m e) (fin true n d) hl h g f = absurd (true≢false g.0)
mul_grain k l q j (fin false m e) (fin false n d) hl h g f =
    round_grain (k + l) q j (m * up e * (n * up d)) (down e * down d) hl (mul-pos (down_pos e) (down_pos d)) (grained_product k l (m * up e) (n * up d) (down e) (down d) h.1 g.1) f

pub mul_at_least : (k l q j : ℕ) (x y : Float) → k + l ≤ low binary64 → AtLeast k x → AtLeast l y → AtMost q j (mul binary64 x y) → AtLeast (k + l) (mul binary64 x y)
unfolding mul
mul_at_least k l q j nan y hl h g f = absurd h
mul_at_least k l q j (inf s) y hl h g f = absurd h
mul_at_least k l q j (fin true m e) y hl h g f = absurd (true≢false h.0)
mul_at_least k l q j (fin false m e) nan hl h g f = absurd g
mul_at_least k l q j (fin false m e) (inf t) hl h g f = absurd g
mul_at_least k l q j (fin false m e) (fin true n d) hl h g f = absurd (true≢false g.0)
mul_at_least k l q j (fin false m e) (fin false n d) hl h g f =
    round_at_least (k + l) q j (m * up e * (n * up d)) (down e * down d) hl (mul-pos (down_pos e) (down_pos d)) (product_least k l (m * up e) (n * up d) (down e) (down d) h.1 g.1) f
