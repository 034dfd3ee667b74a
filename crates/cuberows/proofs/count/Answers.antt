-- `cuberows::count` meets its contract. The loop's invariant: the sum is that of the layers passed.
use mathlib.Core.Path.{◌≡◌, refl, ap, ◌∙◌}
use Prim.Native.Nat.{◌+◌, ◌-◌}
use native.Mathlib.Omega.{arith}
use Rattle.laws.specs.Range.{sum_to}
use Rattle.laws.proofs.Ranges.{sum_next}
use Rattle.cuberows.specs.Cubes.{layer_count}
use Rattle.cuberows.proofs.Layers.{layers_most, mesh_count}
use Rattle.cuberows.proofs.count.Goals as goal
use Rattle.cuberows.proofs.count.Goals.{After-count_layer-sum}

pub loop-z-init : goal.loop-z-init
unfolding sum_to
loop-z-init c = refl

-- one layer more
added : (c : After-count_layer-sum)
    → c.loop-z.sum + c.count_layer-sum.result ≡ sum_to (c.loop-z.z + 1) (layer_count c.args.sides c.args.masks.now)
added c = omega (arith, c.loop-z.invariant, c.count_layer-sum.ensures, sum_next c.loop-z.z (layer_count c.args.sides c.args.masks.now))

pub overflow_add-sum : goal.overflow_add-sum
overflow_add-sum c =
    let fit = c.requires.whole.fit in
    omega (arith, added (goal.at.overflow_add-sum c).After-count_layer-sum, layers_most c.args.sides c.args.masks.now (c.loop-z.z + 1) fit.most_x fit.most_y, fit.most_z, fit.least_z)

pub loop-z-preserved : goal.loop-z-preserved
loop-z-preserved c = added (goal.at.loop-z-preserved c).After-count_layer-sum

pub returns : goal.returns
returns c =
    let s = c.args.sides in
    let masks = c.args.masks.now in
    let all : c.loop-z.z ≡ s.nz - 1 = omega arith in
    c.loop-z.invariant ∙ ap (λ n. sum_to n (layer_count s masks)) all ∙ mesh_count s masks
