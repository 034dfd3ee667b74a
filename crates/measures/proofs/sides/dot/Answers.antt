-- `measures::sides::dot` meets its contract.
use mathlib.Core.Path.{◌≡◌, ap, ◌∙◌, ap₂}
use native.Mathlib.Omega.{arith}
use lib.IntN.{nat_abs, ◌+ℤ◌, ◌*ℤ◌}
use mir.Syntax.{w64}
use mir.Val.{SFits}
use Rattle.measures.specs.Sides.{dot}
use Rattle.laws.proofs.Sizes.{read_back, sum_held, asked, learnt}
use Rattle.measures.proofs.Bounds.{small_product, two_small, product_asked, product_learnt}
use Rattle.measures.proofs.sides.dot.Goals as goal
use Rattle.measures.proofs.sides.dot.Goals.{After-product-z, After-sum}

pub product-x-requires : goal.product-x-requires
product-x-requires c =
    product_asked c.args.u.x c.args.v.x c.requires.0.x c.requires.1.x

pub product-y-requires : goal.product-y-requires
product-y-requires c =
    product_asked c.args.u.y c.args.v.y c.requires.0.y c.requires.1.y

pub product-z-requires : goal.product-z-requires
product-z-requires c =
    product_asked c.args.u.z c.args.v.z c.requires.0.z c.requires.1.z

-- the three products
module _ (c : After-product-z) where
  x_is : c.product-x.result ≡ c.args.u.x *ℤ c.args.v.x
  x_is = product_learnt c.args.u.x c.args.v.x c.requires.0.x c.requires.1.x c.product-x.ensures

  y_is : c.product-y.result ≡ c.args.u.y *ℤ c.args.v.y
  y_is = product_learnt c.args.u.y c.args.v.y c.requires.0.y c.requires.1.y c.product-y.ensures

  z_is : c.product-z.result ≡ c.args.u.z *ℤ c.args.v.z
  z_is = product_learnt c.args.u.z c.args.v.z c.requires.0.z c.requires.1.z c.product-z.ensures

pub sum-requires : goal.sum-requires
sum-requires c =
    let one = c.product-x in
    let two = c.product-y in
    asked one.result two.result one.type_inv two.type_inv (λ x y. SFits w64 (x +ℤ y))
    (sum_held one.result two.result (omega (
      arith,
      ap nat_abs (x_is (goal.at.sum-requires c).After-product-z),
      ap nat_abs (y_is (goal.at.sum-requires c).After-product-z),
      small_product c.args.u.x c.args.v.x c.requires.0.x c.requires.1.x,
      small_product c.args.u.y c.args.v.y c.requires.0.y c.requires.1.y,
    )))

two_is : (c : After-sum) → c.sum.result ≡ c.args.u.x *ℤ c.args.v.x +ℤ c.args.u.y *ℤ c.args.v.y
two_is c =
    let one = c.product-x in
    let two = c.product-y in
    learnt one.result two.result one.type_inv two.type_inv ◌+ℤ◌ c.sum.ensures ∙ ap₂ ◌+ℤ◌ (product_learnt c.args.u.x c.args.v.x c.requires.0.x c.requires.1.x c.product-x.ensures) (product_learnt c.args.u.y c.args.v.y c.requires.0.y c.requires.1.y c.product-y.ensures)

pub sum-requires-2 : goal.sum-requires-2
sum-requires-2 c =
    let three = c.product-z in
    asked c.sum.result three.result c.sum.type_inv three.type_inv (λ x y. SFits w64 (x +ℤ y))
    (sum_held c.sum.result three.result (omega (
      arith,
      ap nat_abs (two_is (goal.at.sum-requires-2 c).After-sum),
      ap nat_abs (z_is (goal.at.sum-requires-2 c).After-product-z),
      two_small c.args.u c.args.v c.requires.0 c.requires.1,
      small_product c.args.u.z c.args.v.z c.requires.0.z c.requires.1.z,
    )))

pub returns : goal.returns
unfolding dot
returns c =
    let three = c.product-z in
    let two = c.sum in
    read_back c.sum-2.result c.sum-2.type_inv
    ∙ learnt two.result three.result two.type_inv three.type_inv ◌+ℤ◌ c.sum-2.ensures
    ∙ ap₂ ◌+ℤ◌ (two_is (goal.at.returns c).After-sum) (z_is (goal.at.returns c).After-product-z)
