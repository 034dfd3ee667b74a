-- A loop that counts its turns up to a number.
use mathlib.Core.WellFounded.InvImage
use mathlib.Core.WellFounded.{WellFounded}
use Prim.Native.Nat.{ℕ, ◌+◌, ◌-◌, ◌<◌, ◌≤◌}
use native.Mathlib.Omega.{arith}
use lib.WfN.{lt-wf_rel}
use lib.Dec.{T as Holds, ltb, ltb→lt}

module _ (count : ℕ) where
  -- how many turns are done
  abbrev pub Upto : Type 0
  Upto = (j : ℕ) × (j ≤ count)

  -- fewer are left
  abbrev pub Nearer : Upto → Upto → Type 0
  Nearer j i = count - j.0 < count - i.0

  pub Nearer-wf : WellFounded Nearer
  Nearer-wf = InvImage.wf (λ (i : Upto). count - i.0) lt-wf_rel.wf

  -- one turn more, where the test passed
  abbrev pub next : (j : Upto) → Holds (ltb j.0 count) → Upto
  next j less = (j.0 + 1, omega (arith, ltb→lt j.0 count less))
