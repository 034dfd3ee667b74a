-- Sizes of signed whole numbers, and where a machine word holds them.
use mathlib.Core.Bool.{Bool, true, false, cond}
use mathlib.Core.Path.{◌≡◌, refl, ◌∙◌}
use Prim.Native.Nat.{ℕ, zero, suc, ◌+◌, ◌-◌, ◌*◌, ◌^◌, ◌≤◌, ◌<◌}
use native.Mathlib.Omega.{arith}
use lib.Dec.{ltb}
use lib.IntN.{ℤ, pos, negsuc, neg_ℤ, nat_abs, sub_ℕ, ◌+ℤ◌, ◌-ℤ◌, ◌*ℤ◌}
use lib.Signed.{mag}
use mir.Syntax.{w64}
use mir.Val.{SFits, to_z, of_z}
use mir.ValLaws.{to_z-of_z}
use borrow.Author.Tests.{ltb-true}
use Rattle.laws.specs.Signed.{negative}

pub size_neg : (a : ℤ) → nat_abs (neg_ℤ a) ≡ nat_abs a
size_neg (pos zero) = refl
size_neg (pos (suc n)) = refl
size_neg (negsuc n) = refl

-- of a product it is the product of the sizes
pub size_times : (a b : ℤ) → nat_abs (a *ℤ b) ≡ nat_abs a * nat_abs b
size_times (pos a) (pos b) = refl
size_times (pos a) (negsuc b) = size_neg (pos (a * suc b))
size_times (negsuc a) (pos b) = size_neg (pos (suc a * b))
size_times (negsuc a) (negsuc b) = refl

-- a number is that many below or above another
size_apart_by : (a b m : ℕ) (t : Bool) → ltb a b ≡ t → a ≤ m → b ≤ m → nat_abs (cond t (negsuc (b - suc a)) (pos (a - b))) ≤ m
size_apart_by a b m true e la lb = let h : a < b = ltb-true a b e in omega arith
size_apart_by a b m false e la lb = omega arith

size_apart : (a b m : ℕ) → a ≤ m → b ≤ m → nat_abs (sub_ℕ a b) ≤ m
size_apart a b m la lb = size_apart_by a b m (ltb a b) refl la lb

-- of a sum it is at most the sum of the sizes
pub size_plus : (a b : ℤ) → nat_abs (a +ℤ b) ≤ nat_abs a + nat_abs b
size_plus (pos a) (pos b) = omega arith
size_plus (pos a) (negsuc b) = size_apart a (suc b) (a + suc b) (omega arith) (omega arith)
size_plus (negsuc a) (pos b) = size_apart b (suc a) (suc a + b) (omega arith) (omega arith)
size_plus (negsuc a) (negsuc b) = omega arith

pub size_less : (a b : ℤ) → nat_abs (a -ℤ b) ≤ nat_abs a + nat_abs b
size_less a b = omega (arith, size_plus a (neg_ℤ b), size_neg b)

-- two numbers up to a limit are at most that far apart
pub size_between : (a b m : ℕ) → a ≤ m → b ≤ m → nat_abs (pos a -ℤ pos b) ≤ m
size_between a zero m la lb = omega arith
size_between a (suc b) m la lb = size_apart a (suc b) m la lb

-- what is below 2^63 in size, a word of 64 bits holds
pub held : (a : ℤ) → nat_abs a < 2 ^ 63 → mag a < 2 ^ 63
held (pos n) h = h
held (negsuc n) h = omega arith

-- and what it holds is read back
pub read_back : (a : ℤ) → mag a < 2 ^ 63 → to_z w64 (of_z w64 a) ≡ a
read_back a h = to_z-of_z w64 a (record { sfits = h })

-- so a sum of sizes that it holds
-- the sign of a word that was made of a signed number
pub sign_learnt : (a : ℤ) → mag a < 2 ^ 63 → {b : Bool} → b ≡ negative (to_z w64 (of_z w64 a)) → b ≡ negative a
sign_learnt a h e = e ∙ rw (read_back a h)

pub sum_held : (a b : ℤ) → nat_abs a + nat_abs b < 2 ^ 63 → SFits w64 (a +ℤ b)
sum_held a b h = record { sfits = held (a +ℤ b) (omega (arith, size_plus a b)) }

-- two words that a function is handed: what is asked of them, and what is learnt of an operation's result
module _ (a b : ℤ) (ha : mag a < 2 ^ 63) (hb : mag b < 2 ^ 63) where
  pub asked : (P : ℤ → ℤ → Type 0) → P a b → P (to_z w64 (of_z w64 a)) (to_z w64 (of_z w64 b))
  asked P p = rw (read_back a ha, read_back b hb) p

  pub learnt : {r : ℤ} (op : ℤ → ℤ → ℤ) → r ≡ op (to_z w64 (of_z w64 a)) (to_z w64 (of_z w64 b)) → r ≡ op a b
  learnt op e = e ∙ rw (read_back a ha, read_back b hb)

  pub result_held : (op : ℤ → ℤ → ℤ) → nat_abs (op a b) < 2 ^ 63 → SFits w64 (op (to_z w64 (of_z w64 a)) (to_z w64 (of_z w64 b)))
  result_held op h = asked (λ x y. SFits w64 (op x y)) (record { sfits = held (op a b) h })

  pub result_read : (op : ℤ → ℤ → ℤ) → nat_abs (op a b) < 2 ^ 63 → to_z w64 (of_z w64 (op (to_z w64 (of_z w64 a)) (to_z w64 (of_z w64 b)))) ≡ op a b
  result_read op h = asked (λ x y. to_z w64 (of_z w64 (op x y)) ≡ op a b) (read_back (op a b) (held (op a b) h))

pub square_is : (a : ℤ) → a *ℤ a ≡ pos (nat_abs a * nat_abs a)
square_is (pos a) = refl
square_is (negsuc a) = refl
