-- `neighbours::count` meets its contract: sizes as far as the corners that were passed.
use mathlib.Core.Path.{sym, ◌∙◌}
use native.Mathlib.Omega.{arith}
use lib.ListN.{get_or}
use Rattle.neighbours.proofs.Counted.{sized_first, sized_most, counted_next}
use Rattle.neighbours.proofs.count.Goals as goal

pub loop-corner-init : goal.loop-corner-init
loop-corner-init c p = c.requires.from p ∙ sym (sized_first c.args.triangles.now p)

pub overflow_add-work-in-loop-corner : goal.overflow_add-work-in-loop-corner
overflow_add-work-in-loop-corner c =
    let ts = c.args.triangles.now in
    let n = c.loop-corner.corner-index in
    omega (arith, c.requires.triangles_len_bound, c.loop-corner.invariant (get_or ts n 0), sized_most ts n (get_or ts n 0))

pub loop-corner-preserved : goal.loop-corner-preserved
loop-corner-preserved c =
    let n = c.loop-corner.corner-index in
    counted_next c.args.triangles.now c.loop-corner.work c.args.at n (omega (arith, c.requires.all_below n c.loop-corner-test.true)) c.loop-corner.invariant
