-- `neighbours::list` meets its contract: lists below p, buckets from p on.
use mathlib.Core.Path.{◌≡◌}
use native.Mathlib.Omega.{arith}
use lib.ListN.{length}
use Rattle.neighbours.proofs.Listing.{listed_first, places, keep_ready, listed_next, listed_last, starts_most}
use Rattle.neighbours.proofs.list.Goals as goal

pub loop-p-init : goal.loop-p-init
loop-p-init c =
    let a = c.args in
    listed_first a.triangles.now a.v a.at (length a.work.now) c.requires c.fill.new.work c.fill.auto.work c.fill.ensures.filled c.fill.ensures.stamps

-- a list starts among the entries
pub overflow_cast-work : goal.overflow_cast-work
overflow_cast-work c =
    let a = c.args in
    let ok = c.requires in
    let l = c.loop-p in
    let o = places a.triangles.now a.v a.at (length a.work.now) ok l.p l.from l.to l.work c.loop-p-test.true l.invariant in
    omega (arith, o, ok.entered, ok.threes, ok.triangles)

pub keep_different-to-requires : goal.keep_different-to-requires
keep_different-to-requires c =
    let a = c.args in
    let l = c.loop-p in
    let ready = keep_ready a.triangles.now a.v a.at (length a.work.now) c.requires l.p l.from l.to l.work c.loop-p-test.true l.invariant in
    record { to_le_from = ready.0; all_below = ready.1.0; stamps_below = ready.1.1 }

pub loop-p-preserved : goal.loop-p-preserved
loop-p-preserved c =
    let a = c.args in
    let l = c.loop-p in
    let k = c.keep_different-to in
    let e = c.keep_different-to.ensures in
    listed_next a.triangles.now a.v a.at (length a.work.now) c.requires l.p l.from l.to l.work c.loop-p-test.true l.invariant
    k.result k.new.work k.auto.work e.kept e.written e.below e.behind e.stamps

pub overflow_cast-work-2 : goal.overflow_cast-work-2
overflow_cast-work-2 c =
    let a = c.args in
    let ok = c.requires in
    omega (arith, c.loop-p.invariant.to_is, starts_most a.triangles.now a.v a.at (length a.work.now) ok c.loop-p.p c.loop-p.invariant.within, ok.entered, ok.threes, ok.triangles)

pub returns : goal.returns
returns c =
    let a = c.args in
    let end : c.loop-p.p ≡ a.v = omega (arith, c.loop-p.invariant.within) in
    listed_last a.triangles.now a.v a.at (length a.work.now) c.requires c.loop-p.from c.loop-p.to c.loop-p.work (rw end at c.loop-p.invariant)
