-- How large the whole numbers of a triangle are.
use mathlib.Core.Path.{◌≡◌, ◌∙◌}
use Prim.Native.Nat.{ℕ, ◌*◌, ◌^◌, ◌≤◌, ◌<◌}
use native.Mathlib.Nat.{mul-le-mul}
use native.Mathlib.Omega.{arith}
use lib.IntN.{ℤ, nat_abs, ◌+ℤ◌, ◌-ℤ◌, ◌*ℤ◌}
use lib.Signed.{mag}
use mir.Syntax.{w64}
use mir.Val.{to_z, of_z}
use Rattle.grid.specs.Limits.{window_to, most_coordinate}
use Rattle.mesh.specs.declared.Place.{Place}
use Rattle.mesh.specs.Place.{Near}
use Rattle.measures.specs.declared.sides.Side.{Side}
use Rattle.measures.specs.Sides.{between, dot, cross, squared, dot_at, opposite_at, cross_at}
use Rattle.measures.specs.Sizes.{Within, SmallDots, most_products}
use Rattle.measures.specs.Corners.{dots_of}
use Rattle.laws.proofs.Sizes.{held, read_back, asked, learnt, size_times, size_plus, size_less, size_between}

pub small_sizes : (a b : ℤ) → nat_abs a ≤ most_coordinate → nat_abs b ≤ most_coordinate → nat_abs a * nat_abs b ≤ most_products 1
small_sizes a b la lb = mul-le-mul {n₁ = nat_abs a} {m₁ = nat_abs b} {n₂ = most_coordinate} {m₂ = most_coordinate} la lb

pub small_product : (a b : ℤ) → nat_abs a ≤ most_coordinate → nat_abs b ≤ most_coordinate → nat_abs (a *ℤ b) ≤ most_products 1
small_product a b la lb = omega (arith, size_times a b, small_sizes a b la lb)

small_held : (a : ℤ) → nat_abs a ≤ most_coordinate → mag a < 2 ^ 63
small_held a h = held a (omega arith)

-- as the product of two words
module _ (a b : ℤ) (la : nat_abs a ≤ most_coordinate) (lb : nat_abs b ≤ most_coordinate) where
  pub product_asked : nat_abs (to_z w64 (of_z w64 a)) * nat_abs (to_z w64 (of_z w64 b)) < 2 ^ 63
  product_asked = asked a b (small_held a la) (small_held b lb) (λ x y. nat_abs x * nat_abs y < 2 ^ 63) (omega (arith, small_sizes a b la lb))

  pub product_learnt : {r : ℤ} → r ≡ to_z w64 (of_z w64 a) *ℤ to_z w64 (of_z w64 b) → r ≡ a *ℤ b
  product_learnt e = learnt a b (small_held a la) (small_held b lb) ◌*ℤ◌ e

pub small_minor : (a b c d : ℤ) → nat_abs a ≤ most_coordinate → nat_abs b ≤ most_coordinate → nat_abs c ≤ most_coordinate → nat_abs d ≤ most_coordinate → nat_abs (a *ℤ d -ℤ b *ℤ c) ≤ most_products 2
small_minor a b c d la lb lc ld = omega (arith, size_less (a *ℤ d) (b *ℤ c), small_product a d la ld, small_product b c lb lc)

-- of words
pub minor_learnt : (a b c d : ℤ) {r : ℤ} → nat_abs a ≤ most_coordinate → nat_abs b ≤ most_coordinate → nat_abs c ≤ most_coordinate → nat_abs d ≤ most_coordinate
    → r ≡ to_z w64 (of_z w64 a) *ℤ to_z w64 (of_z w64 d) -ℤ to_z w64 (of_z w64 b) *ℤ to_z w64 (of_z w64 c) → r ≡ a *ℤ d -ℤ b *ℤ c
minor_learnt a b c d la lb lc ld e =
    e ∙ rw (read_back a (small_held a la), read_back b (small_held b lb), read_back c (small_held c lc), read_back d (small_held d ld))

pub between_within : (p q : Place) → Near p → Near q → Within most_coordinate (between p q)
unfolding between
between_within p q hp hq =
    record {
      x = size_between p.x q.x most_coordinate hp.x hq.x;
      y = size_between p.y q.y most_coordinate hp.y hq.y;
      z = size_between p.z q.z most_coordinate hp.z hq.z;
    }

pub two_small : (u v : Side) → Within most_coordinate u → Within most_coordinate v → nat_abs (u.x *ℤ v.x +ℤ u.y *ℤ v.y) ≤ most_products 2
two_small u v hu hv =
    omega (arith, size_plus (u.x *ℤ v.x) (u.y *ℤ v.y), small_product u.x v.x hu.x hv.x, small_product u.y v.y hu.y hv.y)

pub dot_small : (u v : Side) → Within most_coordinate u → Within most_coordinate v → nat_abs (dot u v) ≤ most_products 3
unfolding dot
dot_small u v hu hv =
    omega (arith, size_plus (u.x *ℤ v.x +ℤ u.y *ℤ v.y) (u.z *ℤ v.z), two_small u v hu hv, small_product u.z v.z hu.z hv.z)

pub cross_within : (u v : Side) → Within most_coordinate u → Within most_coordinate v → Within (most_products 2) (cross u v)
unfolding cross
cross_within u v hu hv =
    record {
      x = small_minor u.y u.z v.y v.z hu.y hu.z hv.y hv.z;
      y = small_minor u.z u.x v.z v.x hu.z hu.x hv.z hv.x;
      z = small_minor u.x u.y v.x v.y hu.x hu.y hv.x hv.y;
    }

pub square_small : (a : ℤ) (m : ℕ) → nat_abs a ≤ m → nat_abs a * nat_abs a ≤ m * m
square_small a m h = mul-le-mul {n₁ = nat_abs a} {m₁ = nat_abs a} {n₂ = m} {m₂ = m} h h

pub squared_small : (m : ℕ) (u : Side) → Within m u → squared u ≤ 3 * (m * m)
unfolding squared
squared_small m u h = omega (arith, square_small u.x m h.x, square_small u.y m h.y, square_small u.z m h.z)

-- a side is within what a cross product is within
pub within_more : (u : Side) → Within most_coordinate u → Within (most_products 2) u
within_more u h = record { x = omega (arith, h.x); y = omega (arith, h.y); z = omega (arith, h.z) }

module _ (p q r : Place) (hp : Near p) (hq : Near q) (hr : Near r) where
  pub dot_at_small : nat_abs (dot_at p q r) ≤ most_products 3
  unfolding dot_at
  dot_at_small = dot_small (between q p) (between r p) (between_within q p hq hp) (between_within r p hr hp)

  pub opposite_at_small : opposite_at p q r ≤ most_products 3
  unfolding opposite_at
  opposite_at_small = squared_small most_coordinate (between r q) (between_within r q hr hq)

  -- so N has a scaling
  pub cross_at_small : cross_at p q r < 2 ^ window_to
  unfolding cross_at
  cross_at_small =
      omega (arith, squared_small (most_products 2) (cross (between q p) (between r p)) (cross_within (between q p) (between r p) (between_within q p hq hp) (between_within r p hr hp)))

pub dots_small : (p q r : Place) → Near p → Near q → Near r → SmallDots (dots_of p q r)
unfolding dots_of
dots_small p q r hp hq hr = record { one = dot_at_small p q r hp hq hr; two = dot_at_small q r p hq hr hp; three = dot_at_small r p q hr hp hq }
