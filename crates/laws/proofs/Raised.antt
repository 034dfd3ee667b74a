-- Signed numbers up to m in size, raised by m: none is below 0, what a difference makes of one, and each is read back.
use mathlib.Core.Path.{◌≡◌, refl, ap, sym, ◌∙◌}
use Prim.Native.Nat.{ℕ, suc, ◌+◌, ◌-◌, ◌*◌, ◌≤◌}
use native.Mathlib.Omega.{arith}
use lib.IntN.{ℤ, pos, negsuc, neg_ℤ, nat_abs, ◌+ℤ◌, ◌-ℤ◌, +ℤ_assoc, +ℤ_comm, +ℤ-neg_ℤ_cancel, -ℤ-+ℤ_cancel}
use borrow.Author.Tests.{le-ltb}
use Rattle.laws.proofs.Sizes.{size_plus}

module _ (m : ℕ) where
  abbrev raised : ℤ → ℕ
  raised z = nat_abs (pos m +ℤ z)

  not_below : (z : ℤ) → nat_abs z ≤ m → pos m +ℤ z ≡ pos (raised z)
  not_below (pos n) l = refl
  not_below (negsuc n) l = rw (le-ltb m (suc n) l)

  pub raised_small : (z : ℤ) → nat_abs z ≤ m → raised z ≤ 2 * m
  raised_small z l = omega (arith, size_plus (pos m) z)

  pub raised_more : (z : ℤ) (g l : ℕ) → nat_abs z ≤ m → nat_abs (z +ℤ (pos g -ℤ pos l)) ≤ m → raised (z +ℤ (pos g -ℤ pos l)) + l ≡ raised z + g
  raised_more z g l lz ld =
      let d : ℤ = pos g -ℤ pos l in
      let e : pos (raised (z +ℤ d)) ≡ pos (raised z + g) -ℤ pos l
      = sym (not_below (z +ℤ d) ld) ∙ sym (+ℤ_assoc (pos m) z d) ∙ ap (λ y. y +ℤ d) (not_below z lz) ∙ sym (+ℤ_assoc (pos (raised z)) (pos g) (neg_ℤ (pos l))) in
      ap nat_abs (ap (λ y. y +ℤ pos l) e ∙ -ℤ-+ℤ_cancel (pos (raised z + g)) (pos l))

  pub read_back : (z : ℤ) → nat_abs z ≤ m → pos (raised z) -ℤ pos m ≡ z
  read_back z l = ap (λ y. y -ℤ pos m) (sym (not_below z l) ∙ +ℤ_comm (pos m) z) ∙ +ℤ-neg_ℤ_cancel z (pos m)
