-- `sets::rank` meets its contract: the ranks so far, then the parents as they were.
use mathlib.Core.Path.{◌≡◌}
use native.Mathlib.Omega.{arith}
use lib.ListN.{get_or}
use Rattle.sets.specs.Sets.{parent}
use Rattle.sets.proofs.Ranking.{no_ranks, parent_there, at_root, at_child, all_ranks}
use Rattle.sets.proofs.rank.Goals as goal
use Rattle.sets.proofs.rank.Goals.{then-above-p, else-above-p}

pub loop-p-init : goal.loop-p-init
loop-p-init c = no_ranks c.args.room.now

pub bounds-room-above : goal.bounds-room-above
bounds-room-above c =
    let l = c.loop-p in
    omega (arith, parent_there c.args.room.now c.requires.falling l.room l.next l.p l.invariant, c.requires.falling l.p)

pub loop-p-preserved : goal.loop-p-preserved
loop-p-preserved c =
    let old = c.args.room.now in
    let falls = c.requires.falling in
    let l = c.loop-p in
    let there : get_or l.room l.p 0 ≡ parent old l.p = parent_there old falls l.room l.next l.p l.invariant in
    elim c.if-above-p.branch [
      | then-above-p w ↦ rw (w.room-is, w.next-is) (at_root old falls l.room l.next l.p l.invariant c.loop-p-test.true (omega (arith, there, w.if-above-p.true)))
      | else-above-p w ↦ rw (w.room-is, w.next-is, there) (at_child old falls l.room l.next l.p l.invariant c.loop-p-test.true (λ q. w.if-above-p.false (omega (arith, there, q))))
    ]

pub returns : goal.returns
returns c =
    let l = c.loop-p in
    all_ranks c.args.room.now l.room l.next l.p l.invariant (omega arith)
