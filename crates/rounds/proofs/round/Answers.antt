-- `rounds::round` meets its contract: the new places of the points that were passed.
use mathlib.Core.Path.{◌≡◌, ◌∙◌}
use native.Mathlib.Omega.{arith}
use lib.ListN.{length}
use Rattle.rounds.proofs.Rounding.{placed_first, placed_same, placed_held, placed_next, placed_last}
use Rattle.rounds.proofs.round.Goals as goal

pub loop-p-init : goal.loop-p-init
loop-p-init c = let a = c.args in placed_first a.marks.now a.weight a.at a.second a.smoothed.now a.work.now

pub place-requires-clause-held : goal.place-requires-clause-held
place-requires-clause-held c =
    let a = c.args in
    let q = c.requires in
    placed_held a.marks.now a.weight a.at a.second a.smoothed.now a.work.now q.marks_bound.0 q.marks_bound.1 q.held c.loop-p.p c.loop-p.work c.loop-p.invariant

pub loop-p-preserved : goal.loop-p-preserved
loop-p-preserved c =
    let a = c.args in
    let q = c.requires in
    let k = c.place in
    placed_next a.marks.now a.weight a.at a.second a.smoothed.now a.work.now q.marks_bound.0 q.marks_bound.1 q.held c.loop-p.p c.loop-p.work k.new.work c.loop-p-test.true c.loop-p.invariant k.ensures

pub returns-clause-moved : goal.returns-clause-moved
returns-clause-moved c =
    let a = c.args in
    let q = c.requires in
    let end : c.loop-p.p ≡ length a.marks.now = omega arith in
    c.copy.ensures ∙ placed_last a.marks.now a.weight a.at a.second a.smoothed.now a.work.now q.marks_bound.0 q.marks_bound.1 q.held c.loop-p.work (length a.smoothed.now) (rw end at c.loop-p.invariant) q.smoothed_len

pub returns-clause-kept : goal.returns-clause-kept
returns-clause-kept c =
    let a = c.args in
    let q = c.requires in
    placed_same a.marks.now a.weight a.at a.second a.smoothed.now a.work.now q.marks_bound.0 q.marks_bound.1 q.held c.loop-p.p c.loop-p.work c.loop-p.invariant
