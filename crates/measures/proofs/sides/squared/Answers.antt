-- `measures::sides::squared` meets its contract.
use mathlib.Core.Path.{◌≡◌, ◌∙◌, ap₂}
use Prim.Native.Nat.{ℕ, ◌+◌, ◌*◌, ◌^◌, ◌≤◌, ◌<◌}
use native.Mathlib.Omega.{arith}
use lib.IntN.{ℤ, nat_abs}
use mir.Syntax.{w64}
use mir.Val.{to_z, of_z}
use Rattle.measures.specs.Sides.{squared}
use Rattle.measures.specs.Sizes.{most_products}
use Rattle.laws.proofs.Sizes.{held, read_back}
use Rattle.measures.proofs.Bounds.{square_small}
use Rattle.measures.proofs.sides.squared.Goals as goal
use Rattle.measures.proofs.sides.squared.Goals.{After-square-z}

-- the square of a word
module _ (a : ℤ) (h : nat_abs a ≤ most_products 2) where
  read_a : to_z w64 (of_z w64 a) ≡ a
  read_a = read_back a (held a (omega arith))

  square_asked : nat_abs (to_z w64 (of_z w64 a)) * nat_abs (to_z w64 (of_z w64 a)) < 2 ^ 63
  square_asked = rw read_a (omega (arith, square_small a (most_products 2) h))

  square_learnt : {n : ℕ} → n ≡ nat_abs (to_z w64 (of_z w64 a)) * nat_abs (to_z w64 (of_z w64 a)) → n ≡ nat_abs a * nat_abs a
  square_learnt e = e ∙ rw read_a

pub square-x-requires : goal.square-x-requires
square-x-requires c = square_asked c.args.u.x c.requires.x

pub square-y-requires : goal.square-y-requires
square-y-requires c = square_asked c.args.u.y c.requires.y

pub square-z-requires : goal.square-z-requires
square-z-requires c = square_asked c.args.u.z c.requires.z

module _ (c : After-square-z) where
  x_is : c.square-x.result ≡ nat_abs c.args.u.x * nat_abs c.args.u.x
  x_is = square_learnt c.args.u.x c.requires.x c.square-x.ensures

  y_is : c.square-y.result ≡ nat_abs c.args.u.y * nat_abs c.args.u.y
  y_is = square_learnt c.args.u.y c.requires.y c.square-y.ensures

  z_is : c.square-z.result ≡ nat_abs c.args.u.z * nat_abs c.args.u.z
  z_is = square_learnt c.args.u.z c.requires.z c.square-z.ensures

  x_small : nat_abs c.args.u.x * nat_abs c.args.u.x ≤ most_products 2 * most_products 2
  x_small = square_small c.args.u.x (most_products 2) c.requires.x

  y_small : nat_abs c.args.u.y * nat_abs c.args.u.y ≤ most_products 2 * most_products 2
  y_small = square_small c.args.u.y (most_products 2) c.requires.y

  z_small : nat_abs c.args.u.z * nat_abs c.args.u.z ≤ most_products 2 * most_products 2
  z_small = square_small c.args.u.z (most_products 2) c.requires.z

pub overflow_add-result : goal.overflow_add-result
overflow_add-result c = omega (arith, x_is (goal.at.overflow_add-result c).After-square-z, y_is (goal.at.overflow_add-result c).After-square-z, x_small (goal.at.overflow_add-result c).After-square-z, y_small (goal.at.overflow_add-result c).After-square-z)

pub overflow_add-result-2 : goal.overflow_add-result-2
overflow_add-result-2 c = omega (arith, x_is (goal.at.overflow_add-result-2 c).After-square-z, y_is (goal.at.overflow_add-result-2 c).After-square-z, z_is (goal.at.overflow_add-result-2 c).After-square-z, x_small (goal.at.overflow_add-result-2 c).After-square-z, y_small (goal.at.overflow_add-result-2 c).After-square-z, z_small (goal.at.overflow_add-result-2 c).After-square-z)

pub returns : goal.returns
unfolding squared
returns c = ap₂ ◌+◌ (ap₂ ◌+◌ (x_is (goal.at.returns c).After-square-z) (y_is (goal.at.returns c).After-square-z)) (z_is (goal.at.returns c).After-square-z)
