-- The bits of a number that was put together from bits are those bits.
use mathlib.Core.Path.{◌≡◌, refl}
use mathlib.Core.List.{List, [], ◌∷◌}
use mathlib.Core.Bool.{Bool, true, false}
use Prim.Native.Nat.{ℕ, zero, suc, ◌+◌, ◌*◌, ◌/◌, ◌%◌, ◌^◌, ◌<◌, ◌≤◌}
use native.Mathlib.Nat.{pow-suc, mul-le-mul_right}
use native.Mathlib.Omega.{arith}
use lib.Dec.{eqb}
use lib.ListN.{length, get_or}
use Rattle.laws.specs.Range.{one_if}
use Rattle.laws.specs.Bits.{bits, bit}

pub bits_small : (bs : List Bool) → bits bs < 2 ^ length bs
unfolding bits
bits_small [] = omega arith
bits_small (true ∷ bs) = omega (arith, bits_small bs, pow-suc 2 (length bs))
bits_small (false ∷ bs) = omega (arith, bits_small bs, pow-suc 2 (length bs))

low : (b : Bool) (n : ℕ) → eqb ((one_if b + 2 * n) % 2) 1 ≡ b
low true n = let e : (1 + 2 * n) % 2 ≡ 1 = omega arith in rw e
low false n = let e : (0 + 2 * n) % 2 ≡ 0 = omega arith in rw e

rest : (b : Bool) (n : ℕ) → (one_if b + 2 * n) / 2 ≡ n
rest true n = omega arith
rest false n = omega arith

pub bit_of_bits : (bs : List Bool) (i : ℕ) → i < length bs → bit (bits bs) i ≡ get_or bs i false
unfolding bits bit
bit_of_bits [] i l = absurd (omega arith)
bit_of_bits (b ∷ bs) zero l = low b (bits bs)
bit_of_bits (b ∷ bs) (suc i) l = rw (rest b (bits bs)) (bit_of_bits bs i (omega arith))

-- a bit as a number, and back
pub bit_back : (b : Bool) → eqb (one_if b) 1 ≡ b
bit_back true = refl
bit_back false = refl

pub number_back : (n : ℕ) → n ≤ 1 → one_if (eqb n 1) ≡ n
number_back zero h = refl
number_back (suc zero) h = refl
number_back (suc (suc n)) h = absurd (omega arith)

pub bit_le : (b : Bool) → one_if b ≤ 1
bit_le true = omega arith
bit_le false = omega arith

-- a bit of a number times another is at most that other
pub bit_times : (k n : ℕ) → k % 2 * n ≤ n
bit_times k n =
    let small : k % 2 ≤ 1 = omega arith in
    omega (arith, mul-le-mul_right n small)
