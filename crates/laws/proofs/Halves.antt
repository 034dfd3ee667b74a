-- A number's bits, read off as it is shifted, and the numbers whose bits are given.
use mathlib.Core.Path.{◌≡◌, refl, ap, sym, ◌∙◌}
use mathlib.Core.List.{List, [], ◌∷◌, ◌++◌}
use mathlib.Core.Bool.{Bool, false}
use Prim.Native.Nat.{ℕ, zero, suc, ◌+◌, ◌*◌, ◌/◌, ◌%◌, ◌^◌, ◌<◌}
use native.Mathlib.Numerals.{add-one}
use native.Mathlib.Nat.{add-zero, zero-add, suc-add, one-mul, mul_assoc, mul_comm, pow-suc, pow-zero, div-one, div-div-eq-div-mul}
use native.Mathlib.Omega.{arith}
use lib.Dec.{eqb, ltb, leb-suc-suc}
use lib.Pow.{pow_pos}
use borrow.Author.Tests.{eq-eqb, lt-ltb, le-ltb}
use lib.ListN.{length, get_or}
use Rattle.laws.specs.Range.{one_if}
use Rattle.laws.specs.Bits.{bits, bit, values_from}
use Rattle.laws.proofs.Binary.{bit_of_bits, number_back}

-- bit i is the lowest bit of the number shifted by i
pub bit_shifted : (n i : ℕ) → bit n i ≡ eqb (n / 2 ^ i % 2) 1
unfolding bit
bit_shifted n zero = rw (pow-zero 2, div-one n)
bit_shifted n (suc i) = bit_shifted (n / 2) i ∙ ap (λ k. eqb (k % 2) 1) (div-div-eq-div-mul n 2 (2 ^ i) ∙ ap (λ k. n / k) (mul_comm 2 (2 ^ i) ∙ sym (pow-suc 2 i)))

pub length_values : (f : ℕ → Bool) (x n : ℕ) → length (values_from f x n) ≡ n
unfolding values_from
length_values f x zero = refl
length_values f x (suc n) = ap suc (length_values f (x + 1) n)

value_at : (f : ℕ → Bool) (x n i : ℕ) → i < n → get_or (values_from f x n) i false ≡ f (x + i)
unfolding values_from
value_at f x zero i l = absurd (omega arith)
value_at f x (suc n) zero l = ap f (sym (add-zero x))
value_at f x (suc n) (suc i) l = value_at f (x + 1) n i (omega arith) ∙ ap f (omega arith)

-- the mask of n values has them for its bits
pub bit_of_values : (f : ℕ → Bool) (x n i : ℕ) → i < n → bit (bits (values_from f x n)) i ≡ f (x + i)
bit_of_values f x n i l = bit_of_bits (values_from f x n) i (omega (arith, length_values f x n)) ∙ value_at f x n i l

-- nothing set
pub bit_of_zero : (i : ℕ) → bit 0 i ≡ false
unfolding bit
bit_of_zero zero = refl
bit_of_zero (suc i) = bit_of_zero i

-- values in two parts, and the mask of two parts
pub values_append : (f : ℕ → Bool) (x m n : ℕ) → values_from f x (m + n) ≡ values_from f x m ++ values_from f (x + m) n
unfolding values_from
values_append f x zero n = rw (zero-add n, add-zero x)
values_append f x (suc m) n =
    let e : x + 1 + m ≡ x + suc m = omega arith in
    rw (suc-add m n) (ap (λ bs. f x ∷ bs) (rw (← e) (values_append f (x + 1) m n)))

pub bits_append : (bs cs : List Bool) → bits (bs ++ cs) ≡ bits bs + 2 ^ length bs * bits cs
unfolding bits
bits_append [] cs = omega (arith, one-mul (bits cs))
bits_append (b ∷ bs) cs =
    let twice : 2 ^ suc (length bs) * bits cs ≡ 2 * (2 ^ length bs * bits cs)
    = rw (pow-suc 2 (length bs), mul_comm (2 ^ length bs) 2) (mul_assoc 2 (2 ^ length bs) (bits cs)) in
    omega (arith, bits_append bs cs)

-- the bits of 2 ^ k - 1 that are set are those below bit k
pub bit_of_ones : (k n x : ℕ) → n + 1 ≡ 2 ^ k → bit n x ≡ ltb x k
unfolding bit
bit_of_ones zero n x e = let z : n ≡ 0 = omega arith in rw z (bit_of_zero x ∙ sym (le-ltb x 0 (omega arith)))
bit_of_ones (suc k) n zero e = eq-eqb (n % 2) 1 (omega (arith, pow-suc 2 k)) ∙ sym (lt-ltb 0 (suc k) (omega arith))
bit_of_ones (suc k) n (suc x) e = bit_of_ones k (n / 2) x (omega (arith, pow-suc 2 k, pow_pos k)) ∙ sym (leb-suc-suc (suc x) k)

-- the two lowest bits of a number shifted by x
pub two_bits : (n x : ℕ) → n / 2 ^ x % 4 ≡ one_if (bit n x) + 2 * one_if (bit n (x + 1))
two_bits n x =
    let next : n / 2 ^ (x + 1) ≡ n / 2 ^ x / 2 = rw (add-one x, pow-suc 2 x) (sym (div-div-eq-div-mul n (2 ^ x) 2)) in
    rw (bit_shifted n x, bit_shifted n (x + 1), next)
    (omega (arith, number_back (n / 2 ^ x % 2) (omega arith), number_back (n / 2 ^ x / 2 % 2) (omega arith)))
