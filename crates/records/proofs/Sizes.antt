-- How large determinants and their sums are: half of what the limits allow is too little to leave 64 bits.
use Prim.Native.Nat.{ℕ, ◌*◌, ◌≤◌}
use native.Mathlib.Nat.{mul-le-mul}
use native.Mathlib.Omega.{arith}
use Rattle.grid.specs.Limits.{most_coordinate}
use Rattle.mesh.specs.declared.Place.{Place}
use Rattle.mesh.specs.Place.{Near}
use Rattle.records.specs.Record.{diagonals}
use Rattle.records.specs.Grown.{most_product}

pub product_small : (a b c : ℕ) → a ≤ most_coordinate → b ≤ most_coordinate → c ≤ most_coordinate → a * b * c ≤ most_product
product_small a b c ha hb hc = mul-le-mul (mul-le-mul ha hb) hc

pub diagonals_small : (a b c : Place) → Near a → Near b → Near c → diagonals a b c ≤ 3 * most_product
unfolding diagonals
diagonals_small a b c na nb nc =
    omega
    (arith, product_small a.x b.y c.z na.x nb.y nc.z, product_small a.y b.z c.x na.y nb.z nc.x, product_small a.z b.x c.y na.z nb.x nc.y)
