-- `layerparts::counting::count_stretch` meets its contract.
use mathlib.Core.Path.{◌≡◌}
use Prim.Native.Nat.{◌+◌, ◌*◌, ◌^◌, ◌<◌, ◌≤◌}
use native.Mathlib.Omega.{arith}
use lib.Count.{ones}
use lib.ListN.{length}
use Rattle.laws.specs.Bits.{word_bits}
use Rattle.laws.proofs.Keep.{keep_most}
use Rattle.rows.specs.Rows.{cut, own_samples}
use Rattle.rows.proofs.Stretches.{own_most}
use Rattle.pointplaces.specs.Places.{crossings}
use Rattle.layerparts.proofs.Counted.{stretch_counted}
use Rattle.layerparts.proofs.counting.count_stretch.Goals as goal
use Rattle.layerparts.proofs.counting.count_stretch.Goals.{After-struct_known-1}

-- src/counting.rt:20:5
-- the set bits of the three words are the points, and they are few
counted : (c : After-struct_known-1)
    → let w = c.crossed_at-crossed.result in
    let a = c.args in
    w.x < 2 ^ word_bits → w.y < 2 ^ word_bits → w.z < 2 ^ word_bits
    → (ones w.x + ones w.y + ones w.z ≡ length (crossings a.sides a.masks.now (3 * a.at.s) (3 * (a.at.s + own_samples a.at.left))))
    × (ones w.x + ones w.y + ones w.z ≤ 3 * word_bits)
counted c sx sy sz =
    let a = c.args in
    let own = own_samples a.at.left in
    let few = (own_most a.sides a.z a.at c.requires.stands).1 in
    let is = stretch_counted a.sides a.masks.now a.at.s own few c.crossed_at-crossed.result sx sy sz c.crossed_at-crossed.ensures in
    (is, omega (arith, is, few, keep_most (3 * a.at.s) (3 * (a.at.s + own)) (cut a.sides a.masks.now)))

-- src/counting.rt:12:1
pub returns : goal.returns
returns c = (counted (goal.at.returns c).After-struct_known-1 (omega (arith, c.struct_known-3-1.given)) (omega (arith, c.struct_known-3-1.given)) (omega (arith, c.struct_known-3-1.given))).0
