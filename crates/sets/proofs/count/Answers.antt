-- `sets::count` meets its contract: the roots among the points passed.
use mathlib.Core.Path.{refl, ap}
use native.Mathlib.Omega.{arith}
use borrow.Author.Tests.{eq-eqb, ne_eqb}
use Rattle.laws.specs.Range.{sum_to, count_to, one_if}
use Rattle.laws.proofs.Ranges.{count_le}
use Rattle.laws.proofs.Keep.{count_next}
use Rattle.sets.specs.Sets.{is_root}
use Rattle.sets.proofs.count.Goals as goal
use Rattle.sets.proofs.count.Goals.{then-room-p, else-room-p}

pub loop-p-init : goal.loop-p-init
unfolding count_to sum_to
loop-p-init c = refl

pub overflow_add-roots : goal.overflow_add-roots
overflow_add-roots c = omega (arith, c.loop-p.invariant, count_le c.loop-p.p (is_root c.args.room.now))

pub loop-p-preserved : goal.loop-p-preserved
unfolding is_root
loop-p-preserved c =
    let next = count_next c.loop-p.p (is_root c.args.room.now) in
    elim c.if-room-p.branch [
      | then-room-p w ↦ omega (arith, w.roots-is, c.loop-p.invariant, next, ap one_if (eq-eqb _ _ w.if-room-p.true))
      | else-room-p w ↦ omega (arith, w.roots-is, c.loop-p.invariant, next, ap one_if (ne_eqb _ _ w.if-room-p.false))
    ]
