-- `layerparts::counting::count_points` meets its contract. The invariant: the next stretch stands in the layer, or where the next layer begins, and the points on the edges before its own
-- are counted. Each turn leaves a word less.
use mathlib.Core.Path.{◌≡◌, ap, subst, sym}
use Prim.Native.Nat.{◌+◌, ◌*◌, ◌≤◌}
use native.Mathlib.Omega.{arith}
use lib.ListN.{length}
use Rattle.laws.proofs.Keep.{keep_no, keep_most}
use Rattle.grid.specs.Limits.{most_edges}
use Rattle.grid.proofs.Sides.{samples_most}
use Rattle.rows.specs.Rows.{cut, own_samples, layer_first}
use Rattle.rows.proofs.Stretches.{layers_rise, stands_first, stands_next, layer_end, stretch_end, word_there}
use Rattle.pointplaces.specs.Places.{crossings}
use Rattle.pointplaces.proofs.Placing.{crossings_on}
use Rattle.layerparts.specs.Layer.{layer_edges}
use Rattle.layerparts.specs.Parts.{word_edges}
use Rattle.layerparts.proofs.counting.count_points.Goals as goal
use Rattle.layerparts.proofs.counting.count_points.Goals.{After-count_stretch-sum}

-- src/counting.rt:32:5
pub loop-at-init : goal.loop-at-init
loop-at-init c =
    let a = c.args in
    let first = 3 * layer_first a.sides a.sides.below in
    rw c.first-at.ensures (
      stands_first a.sides c.requires.ready.fit c.requires.ready.words a.sides.below c.requires.ready.from,
      omega arith,
      sym (ap length (keep_no first first (cut a.sides a.masks.now) (λ i l. absurd (omega arith)))),
    )

-- src/counting.rt:33:9
-- past a stretch its points are counted too, and all of them are few
passed : (c : After-count_stretch-sum)
    → let a = c.args in
    (c.loop-at.sum + c.count_stretch-sum.result
    ≡ length (crossings a.sides a.masks.now (3 * layer_first a.sides a.sides.below) (3 * (c.loop-at.at.s + own_samples c.loop-at.at.left))))
    × (c.loop-at.sum + c.count_stretch-sum.result ≤ most_edges)
passed c =
    let a = c.args in
    let at = c.loop-at.at in
    let own = own_samples at.left in
    let z = c.args.sides.below in
    let first = 3 * layer_first a.sides z in
    let is : c.loop-at.sum + c.count_stretch-sum.result ≡ length (crossings a.sides a.masks.now first (3 * (at.s + own)))
    = omega (arith, c.loop-at.invariant.2, c.count_stretch-sum.ensures, crossings_on a.sides a.masks.now first (3 * at.s) (3 * (at.s + own)) c.loop-at.invariant.1 (omega arith)) in (
      is,
      omega (
        arith,
        is,
        keep_most first (3 * (at.s + own)) (cut a.sides a.masks.now),
        stretch_end a.sides z at c.loop-at.invariant.0 c.loop-at-test.true,
        layers_rise a.sides (z + 1) a.sides.nz (omega (arith, c.requires.below_lt_nz)),
        samples_most a.sides.nx a.sides.ny a.sides.nz c.requires.ready.fit,
      ),
    )

pub overflow_add-sum : goal.overflow_add-sum
overflow_add-sum c = omega (arith, passed (goal.at.overflow_add-sum c).After-count_stretch-sum)

-- src/counting.rt:32:5
pub loop-at-smaller : goal.loop-at-smaller
loop-at-smaller c =
    omega (
      arith,
      ap (λ at. at.word) c.next-at.ensures,
      word_there c.args.sides c.args.masks.now c.args.sides.below c.requires.ready c.loop-at.at c.loop-at.invariant.0 c.loop-at-test.true,
    )

-- src/counting.rt:32:5
pub loop-at-preserved : goal.loop-at-preserved
loop-at-preserved c =
    let a = c.args in
    let so = passed (goal.at.loop-at-preserved c).After-count_stretch-sum in
    rw c.next-at.ensures (
      stands_next a.sides a.sides.below c.loop-at.at c.loop-at.invariant.0 c.loop-at-test.true,
      omega (arith, c.loop-at.invariant.1),
      so.0,
    )

-- src/counting.rt:24:1
pub returns : goal.returns
unfolding word_edges layer_edges
returns c =
    let a = c.args in
    subst (λ s. c.loop-at.sum ≡ length (crossings a.sides a.masks.now (3 * layer_first a.sides a.sides.below) (3 * s)))
    (layer_end a.sides a.sides.below c.loop-at.at c.loop-at.invariant.0 (omega arith))
    c.loop-at.invariant.2
