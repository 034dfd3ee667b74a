-- The facts promised fix s and r, and the definitions work out the s and the r that have them.
use mathlib.Core.Bool.{Bool, true, false, cond}
use mathlib.Core.Path.{◌≡◌, refl, sym, ap}
use Prim.Native.Nat.{ℕ, zero, suc, ◌+◌, ◌*◌, ◌/◌, ◌^◌, ◌≤◌, ◌<◌}
use native.Mathlib.Nat.{pow-suc, add-zero, pow-le-pow_right, mul-one, mul-le-mul, mul-le-mul_left, lt_of_not-le}
use native.Mathlib.Omega.{arith}
use lib.Dec.{leb}
use borrow.Author.Tests.{leb-true, leb-false}
use Rattle.grid.specs.Limits.{window_to, window_from, root_digits}
use Rattle.root.specs.Root.{scaled, first_scale, scale_of, next_root, root_below, root_of}
use Rattle.root.specs.Promise.{InWindow, WholeRoot, Rooted}
use Rattle.root.proofs.Window.{scaled_next, four_squares}

scaled_more : (n s t : ℕ) → s < t → 4 * scaled n s ≤ scaled n t
scaled_more n s t h = omega (arith, scaled_next n s, mul-le-mul_left n (pow-le-pow_right {n = 4} (omega arith) {i = s + 1} {j = t} (omega arith)))

not_less : (n s t : ℕ) → InWindow n s → InWindow n t → s < t → ⊥
not_less n s t a b h = omega (arith, scaled_more n s t h, a.least, b.most)

pub one_scale : (n s t : ℕ) → InWindow n s → InWindow n t → s ≡ t
one_scale n s t a b = omega (arith, lt_of_not-le (not_less n s t a b), lt_of_not-le (not_less n t s b a))

not_lower : (m r q : ℕ) → WholeRoot m r → WholeRoot m q → r < q → ⊥
not_lower m r q a b h =
    let squares : (r + 1) * (r + 1) ≤ q * q = mul-le-mul {n₁ = r + 1} {m₁ = r + 1} {n₂ = q} {m₂ = q} (omega arith) (omega arith) in
    omega (arith, squares, a.next_above, b.not_above)

pub one_whole_root : (m r q : ℕ) → WholeRoot m r → WholeRoot m q → r ≡ q
one_whole_root m r q a b = omega (arith, lt_of_not-le (not_lower m r q a b), lt_of_not-le (not_lower m q r b a))

pub one_root : (n s t r q : ℕ) → Rooted n s r → Rooted n t q → (s ≡ t) × (r ≡ q)
one_root n s t r q a b =
    let e : s ≡ t = one_scale n s t a.window b.window in
    (e, one_whole_root (scaled n t) r q (rw (sym e) a.root) b.root)

-- the search for s stops in the window
found : (left at n : ℕ) (b : Bool) → leb (2 ^ window_from) (scaled n at) ≡ b → scaled n at < 2 ^ window_to → 2 ^ window_from ≤ scaled n (at + left) → InWindow n (first_scale left b at n)
unfolding first_scale
found zero at n b e small large = record { least = rw (add-zero) at large; most = small }
found (suc left) at n true e small large = record { least = leb-true _ _ e; most = small }
found (suc left) at n false e small large =
    let unscaled : at + 1 + left ≡ at + suc left = omega arith in
    found left (at + 1) n (leb (2 ^ window_from) (scaled n (at + 1))) refl (omega (arith, scaled_next n at, leb-false (2 ^ window_from) (scaled n at) e)) (rw unscaled large)

pub scale_in_window : (n : ℕ) → 0 < n → n < 2 ^ window_to → InWindow n (scale_of n)
unfolding scale_of
scale_in_window n positive small =
    found (window_from / 2) 0 n (leb (2 ^ window_from) n) (ap (λ k. leb (2 ^ window_from) k) (mul-one n)) (omega arith) (omega arith)

-- one digit more of the root
next_digit : (m r : ℕ) (b : Bool) → leb ((2 * r + 1) * (2 * r + 1)) m ≡ b → WholeRoot (m / 4) r → WholeRoot m (cond b (2 * r + 1) (2 * r))
next_digit m r true e h =
    let twice : 2 * r + 1 + 1 ≡ 2 * (r + 1) = omega arith in
    record { not_above = leb-true _ _ e; next_above = rw (twice, four_squares) (omega (arith, h.next_above)) }
next_digit m r false e h =
    record { not_above = rw four_squares (omega (arith, h.not_above)); next_above = leb-false ((2 * r + 1) * (2 * r + 1)) m e }

pub root_below_lem : (k m : ℕ) → m < 4 ^ k → WholeRoot m (root_below k m)
unfolding root_below next_root
root_below_lem zero m h = record { not_above = omega arith; next_above = omega arith }
root_below_lem (suc k) m h =
    next_digit m (root_below k (m / 4)) (leb ((2 * root_below k (m / 4) + 1) * (2 * root_below k (m / 4) + 1)) m) refl
    (root_below_lem k (m / 4) (omega (arith, pow-suc 4 k)))

-- so the definitions have what is promised, and what has it is what they work out
pub root_of_lem : (n : ℕ) → 0 < n → n < 2 ^ window_to → Rooted n (scale_of n) (root_of n)
unfolding root_of
root_of_lem n positive small =
    let w = scale_in_window n positive small in
    record { window = w; root = root_below_lem root_digits (scaled n (scale_of n)) (omega (arith, w.most)) }

pub is_root_of : (n s r : ℕ) → 0 < n → n < 2 ^ window_to → Rooted n s r → (s ≡ scale_of n) × (r ≡ root_of n)
is_root_of n s r positive small h = one_root n s (scale_of n) r (root_of n) h (root_of_lem n positive small)

-- and the root has so many digits
pub root_most : (n s r : ℕ) → Rooted n s r → r < 2 ^ root_digits
root_most n s r h =
    lt_of_not-le
    (λ large. absurd (omega (arith, mul-le-mul {n₁ = 2 ^ root_digits} {m₁ = 2 ^ root_digits} {n₂ = r} {m₂ = r} large large, h.root.not_above, h.window.most)))
