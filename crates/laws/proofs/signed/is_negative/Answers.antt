use mathlib.Core.Path.{◌≡◌, refl}
use native.Mathlib.Omega.{arith}
use lib.IntN.{ℤ, pos, negsuc}
use lib.Signed.{lt_z}
use borrow.Author.Tests.{le-ltb}
use Rattle.laws.specs.Signed.{negative}
use mir.Facts.{to_z-of_z}
use Rattle.laws.proofs.signed.is_negative.Goals as goal

below_zero : (a : ℤ) → lt_z a (pos 0) ≡ negative a
unfolding negative
below_zero (pos n) = le-ltb n 0 (omega arith)
below_zero (negsuc n) = refl

pub returns : goal.returns
returns c = rw (to_z-of_z c.ranges.a) (below_zero c.args.a)
