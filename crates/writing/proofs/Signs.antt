-- Signed numbers as text: a minus sign or none, then the digits of the size.
use mathlib.Core.Path.{◌≡◌, refl, ap, ◌∙◌}
use mathlib.Core.List.{List, [], ◌∷◌, ◌++◌}
use mathlib.Core.Bool.{true, false, true≢false, false≢true}
use Prim.Native.Nat.{ℕ, suc, ◌+◌, ◌-◌, ◌^◌, ◌≤◌, ◌<◌}
use native.Mathlib.Omega.{arith}
use lib.IntN.{ℤ, pos, negsuc, nat_abs}
use lib.ListN.{length, set}
use lib.Seq.{sets}
use lib.Signed.{mag}
use mir.Syntax.{w64}
use mir.Val.{SFits, to_z, of_z}
use mir.Facts.{to_z-of_z}
use Rattle.laws.specs.Signed.{negative}
use Rattle.grid.specs.Limits.{longest_number}
use Rattle.lines.specs.Decimal.{minus_sign, decimal, signed}
use Rattle.writing.proofs.Fields.{digits_most}

pub signed_plain : (n : ℤ) → negative n ≡ false → signed n ≡ decimal (nat_abs n)
unfolding negative signed
signed_plain (pos n) e = refl
signed_plain (negsuc n) e = absurd (true≢false e)

pub signed_minus : (n : ℤ) → negative n ≡ true → signed n ≡ minus_sign ∷ decimal (nat_abs n)
unfolding negative signed
signed_minus (pos n) e = absurd (false≢true e)
signed_minus (negsuc n) e = refl

-- a word with a sign has a digit less than the longest number
size_short : (n : ℤ) → mag n < 2 ^ 63 → length (decimal (nat_abs n)) ≤ longest_number - 1
size_short (pos n) l = digits_most (longest_number - 2) n (omega arith)
size_short (negsuc n) l = digits_most (longest_number - 2) (suc n) (omega arith)

module _ (n : ℤ) (fits : SFits w64 n) where
  pub size_learnt : {m : ℕ} → m ≡ nat_abs (to_z w64 (of_z w64 n)) → m ≡ nat_abs n
  size_learnt e = e ∙ ap nat_abs (to_z-of_z {w = w64} fits)

  pub size_digits : length (decimal (nat_abs n)) ≤ longest_number - 1
  size_digits = size_short n fits.sfits

-- a minus sign written before a field
pub minus_first : (room left : List ℕ) (n : ℤ) (at end : ℕ) → negative n ≡ true → left ≡ sets (set room at minus_sign) (at + 1) (decimal (nat_abs n) ++ end ∷ []) → left ≡ sets room at (signed n ++ end ∷ [])
minus_first room left n at end e f =
    let one : at + 1 ≡ suc at = omega arith in
    f ∙ rw (one, signed_minus n e)
