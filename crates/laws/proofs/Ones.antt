-- The set bits of a word, counted.
use mathlib.Core.Path.{◌≡◌, refl, ap, sym}
use Prim.Native.Nat.{ℕ, zero, suc, ◌+◌, ◌/◌, ◌%◌, ◌^◌, ◌<◌}
use native.Mathlib.Nat.{pow-suc}
use native.Mathlib.Omega.{arith}
use lib.Count.{ones, ones_in, ones_step}
use Rattle.laws.specs.Range.{one_if, sum_to, count_to}
use Rattle.laws.specs.Bits.{bit}
use Rattle.laws.proofs.Ranges.{sum_cong}
use Rattle.laws.proofs.Binary.{number_back}
use Rattle.laws.proofs.Box.{sum_shift}
use Rattle.laws.proofs.Words.{bit_half}

lowest : (n : ℕ) → n % 2 ≡ one_if (bit n 0)
unfolding bit
lowest n = sym (number_back (n % 2) (omega arith))

pub ones_bits : (width n : ℕ) → n < 2 ^ width → ones n ≡ count_to width (bit n)
unfolding count_to sum_to
ones_bits zero n l =
    let none : n ≡ 0 = omega arith in
    rw none (unfold ones ones_in in refl)
ones_bits (suc width) n l =
    let half : n / 2 < 2 ^ width = omega (arith, pow-suc 2 width) in
    let later : sum_to width (λ i. one_if (bit (n / 2) i)) ≡ sum_to width (λ i. one_if (bit n (i + 1)))
    = sum_cong width _ _ (λ i k. ap one_if (bit_half n i)) in
    omega (arith, ones_step n, ones_bits width (n / 2) half, lowest n, later, sum_shift width (λ i. one_if (bit n i)))
