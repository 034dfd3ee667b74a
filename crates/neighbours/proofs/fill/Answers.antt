-- `neighbours::fill` meets its contract: the buckets as far as the triangles that were passed.
use mathlib.Core.Path.{◌∙◌}
use lib.ListN.{length}
use Rattle.neighbours.proofs.Corners.{stage_first, begin_ready, first_ready, first_put, second_ready, second_put, third_ready, third_put}
use Rattle.neighbours.proofs.fill.Goals as goal

pub begin-requires-clause-p_bound : goal.begin-requires-clause-p_bound
begin-requires-clause-p_bound c =
    let a = c.args in
    (begin_ready a.triangles.now a.v a.at (length a.work.now) c.requires c.count.new.work (c.count.auto.work ∙ c.clear.auto.room) c.count.ensures).1.1

pub loop-i-init : goal.loop-i-init
loop-i-init c =
    let a = c.args in
    let same = c.begin.auto.work ∙ c.count.auto.work ∙ c.clear.auto.room in
    stage_first a.triangles.now a.v a.at (length a.work.now) c.requires c.count.new.work c.begin.new.work same c.count.ensures c.begin.ensures.begun c.begin.ensures.rest

pub put_two-requires-clause-p_bound : goal.put_two-requires-clause-p_bound
put_two-requires-clause-p_bound c =
    let a = c.args in
    (first_ready a.triangles.now a.v a.at (length a.work.now) c.requires c.loop-i.i c.loop-i-test.true c.loop-i.work c.loop-i.invariant).1.1

pub put_two-requires-in-loop-i-clause-p_bound : goal.put_two-requires-in-loop-i-clause-p_bound
put_two-requires-in-loop-i-clause-p_bound c =
    let a = c.args in
    let one = first_put a.triangles.now a.v a.at (length a.work.now) c.requires c.loop-i.i c.loop-i-test.true c.loop-i.work c.loop-i.invariant c.put_two.new.work c.put_two.ensures in
    (second_ready a.triangles.now a.v a.at (length a.work.now) c.requires c.loop-i.i c.loop-i-test.true c.put_two.new.work one).1.1

pub put_two-requires-in-loop-i-2-clause-p_bound : goal.put_two-requires-in-loop-i-2-clause-p_bound
put_two-requires-in-loop-i-2-clause-p_bound c =
    let a = c.args in
    let one = first_put a.triangles.now a.v a.at (length a.work.now) c.requires c.loop-i.i c.loop-i-test.true c.loop-i.work c.loop-i.invariant c.put_two.new.work c.put_two.ensures in
    let next = c.put_two-in-loop-i in
    let two = second_put a.triangles.now a.v a.at (length a.work.now) c.requires c.loop-i.i c.loop-i-test.true c.put_two.new.work one next.new.work next.ensures in
    (third_ready a.triangles.now a.v a.at (length a.work.now) c.requires c.loop-i.i c.loop-i-test.true next.new.work two).1.1

pub loop-i-preserved : goal.loop-i-preserved
loop-i-preserved c =
    let a = c.args in
    let one = first_put a.triangles.now a.v a.at (length a.work.now) c.requires c.loop-i.i c.loop-i-test.true c.loop-i.work c.loop-i.invariant c.put_two.new.work c.put_two.ensures in
    let next = c.put_two-in-loop-i in
    let two = second_put a.triangles.now a.v a.at (length a.work.now) c.requires c.loop-i.i c.loop-i-test.true c.put_two.new.work one next.new.work next.ensures in
    let last = c.put_two-in-loop-i-2 in
    third_put a.triangles.now a.v a.at (length a.work.now) c.requires c.loop-i.i c.loop-i-test.true next.new.work two last.new.work last.ensures
