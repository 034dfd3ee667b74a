-- How large the whole numbers of a triangle may be.
use Rattle.std.specs.Prelude.{ℕ, ◌*◌, ◌≤◌, nat_abs}
use Rattle.grid.specs.Limits.{most_coordinate}
use Rattle.measures.specs.declared.sides.Side.{Side}
use Rattle.measures.specs.declared.corners.Dots.{Dots}

-- no coordinate of a side is larger than `most` in size
pub record Within (most : ℕ) (u : Side) : Type 0 where
  pub x : nat_abs u.x ≤ most
  pub y : nat_abs u.y ≤ most
  pub z : nat_abs u.z ≤ most

-- as large as a sum of k products of two coordinates of sides can be
abbrev pub most_products : ℕ → ℕ
most_products k = k * (most_coordinate * most_coordinate)

-- no d is larger than that
pub record SmallDots (d : Dots) : Type 0 where
  pub one : nat_abs d.one ≤ most_products 3
  pub two : nat_abs d.two ≤ most_products 3
  pub three : nat_abs d.three ≤ most_products 3
