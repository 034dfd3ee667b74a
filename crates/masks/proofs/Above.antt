-- What words say of each sample, by its one place among them.
use mathlib.Core.Path.{◌≡◌, ap, sym, ◌∙◌}
use mathlib.Core.List.{List}
use mathlib.Core.Bool.{Bool}
use Prim.Native.Nat.{ℕ, ◌+◌, ◌*◌, ◌-◌, ◌/◌, ◌%◌, ◌<◌, ◌≤◌}
use native.Mathlib.Nat.{mul_comm, div-lt_iff_lt-mul, div-add-mod, mod-lt}
use native.Mathlib.Omega.{arith}
use Rattle.laws.proofs.Digits.{low_lt}
use Rattle.masks.specs.Masks.{word_cubes, word_with, mask_above, Told, Agreeing}

module _ (nx rows : ℕ) (above : ℕ → Bool) (masks : List ℕ) (some : 2 ≤ nx) (told : Told nx rows above masks) where
  -- words that say of each sample whether it is above do so at the place where a sample is looked up
  pub told_above : (s : ℕ) → s < nx * rows → mask_above nx masks s ≡ above s
  unfolding mask_above
  told_above s l =
      let x = s % nx in
      let last : x < nx = mod-lt s (omega arith) in
      let place : word_cubes * word_with x + (x - word_cubes * word_with x) + nx * (s / nx) ≡ s = omega (arith, div-add-mod s nx) in
      told (s / nx) (word_with x) (x - word_cubes * word_with x) ((div-lt_iff_lt-mul (omega arith)).1 (rw (mul_comm rows nx) l)) (omega arith) (omega arith) (omega arith)
      ∙ ap above place

  -- so neighbouring words agree
  pub told_agrees : Agreeing nx rows masks
  told_agrees r w i l lw li lx = told r w i l lw li lx ∙ sym (told_above (word_cubes * w + i + nx * r) (low_lt (word_cubes * w + i) nx r rows lx l))
