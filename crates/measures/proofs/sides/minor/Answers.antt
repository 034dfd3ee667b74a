-- `measures::sides::minor` meets its contract.
use mathlib.Core.Path.{ap, ◌∙◌, ap₂}
use Prim.Native.Nat.{◌+◌, ◌^◌, ◌<◌}
use native.Mathlib.Omega.{arith}
use lib.IntN.{nat_abs, ◌-ℤ◌}
use Rattle.laws.proofs.Sizes.{read_back, asked, learnt}
use Rattle.measures.proofs.Bounds.{small_product, product_asked, product_learnt}
use Rattle.measures.proofs.sides.minor.Goals as goal

pub product-requires : goal.product-requires
product-requires c = product_asked c.args.a c.args.d c.requires.0 c.requires.3

pub product-requires-2 : goal.product-requires-2
product-requires-2 c = product_asked c.args.b c.args.c c.requires.1 c.requires.2

pub difference-requires : goal.difference-requires
difference-requires c =
    let one = c.product in
    let two = c.product-2 in
    asked one.result two.result one.type_inv two.type_inv (λ x y. nat_abs x + nat_abs y < 2 ^ 63)
    (omega (
      arith,
      ap nat_abs (product_learnt c.args.a c.args.d c.requires.0 c.requires.3 one.ensures),
      ap nat_abs (product_learnt c.args.b c.args.c c.requires.1 c.requires.2 two.ensures),
      small_product c.args.a c.args.d c.requires.0 c.requires.3,
      small_product c.args.b c.args.c c.requires.1 c.requires.2,
    ))

pub returns : goal.returns
returns c =
    let one = c.product in
    let two = c.product-2 in
    let first = product_learnt c.args.a c.args.d c.requires.0 c.requires.3 one.ensures in
    let second = product_learnt c.args.b c.args.c c.requires.1 c.requires.2 two.ensures in
    read_back c.difference.result c.difference.type_inv
    ∙ learnt one.result two.result one.type_inv two.type_inv ◌-ℤ◌ c.difference.ensures
    ∙ ap₂ ◌-ℤ◌ first second
