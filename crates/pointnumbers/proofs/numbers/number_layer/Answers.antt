-- `pointnumbers::numbers::number_layer` meets its contract. The invariant: the stretch stands in the layer, and the edges before it are numbered.
use native.Mathlib.Omega.{arith}
use Rattle.rows.proofs.Stretches.{stands_first, stands_next, word_there}
use Rattle.pointnumbers.proofs.numbers.number_layer.Goals as goal

pub loop-at-init : goal.loop-at-init
loop-at-init c =
    rw c.first-at.ensures (stands_first c.args.sides c.requires.ready.fit c.requires.ready.words c.args.z c.requires.ready.from, c.requires.numbered_to)

pub loop-at-smaller : goal.loop-at-smaller
loop-at-smaller c =
    rw c.next-at.ensures (omega (arith, word_there c.args.sides c.args.masks.now c.args.z c.requires.ready c.loop-at.at c.loop-at.invariant.0 (omega arith)))

pub loop-at-preserved : goal.loop-at-preserved
loop-at-preserved c =
    rw c.next-at.ensures (stands_next c.args.sides c.args.z c.loop-at.at c.loop-at.invariant.0 (omega arith), c.number_stretch-n.ensures)
