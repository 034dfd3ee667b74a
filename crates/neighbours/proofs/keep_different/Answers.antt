-- `neighbours::keep_different` meets its contract: the different ones of the entries that were looked at.
use mathlib.Core.Path.{◌≡◌}
use Prim.Native.Nat.{◌+◌, ◌-◌, ◌<◌, ◌≤◌}
use native.Mathlib.Omega.{arith}
use lib.ListN.{length, get_or, length-set}
use Rattle.neighbours.proofs.Kept.{KeptTo, kept_first, kept_last, room, again_at, new_at}
use Rattle.neighbours.proofs.keep_different.Goals as goal
use Rattle.neighbours.proofs.keep_different.Goals.{In-loop-i, then-work-place, else-work-place}

pub loop-i-init : goal.loop-i-init
loop-i-init c = kept_first _ _ _ _ _ _ c.requires.to_le_from c.requires.stamps_below

-- the next entry is in the room, and so is its point's stamp; what is kept goes no further than the entry
inside : (c : In-loop-i) → let a = c.args in let l = c.loop-i in
    (l.i < length l.work) × (a.stamps + get_or l.work l.i 0 < length l.work) × (l.kept ≤ l.i)
inside c =
    let a = c.args in
    let p = c.requires in
    let l = c.loop-i in
    room a.from a.end a.to a.stamps a.stamp a.work.now l.i l.kept l.work p.to_le_from p.all_below (omega arith) c.loop-i-test.true l.invariant

pub offset_bounds-work-kept : goal.offset_bounds-work-kept
offset_bounds-work-kept c = omega (arith, inside (goal.at.offset_bounds-work-kept c).In-loop-i)

pub bounds-work-kept : goal.bounds-work-kept
bounds-work-kept c = rw length-set (omega (arith, inside (goal.at.bounds-work-kept c).In-loop-i))

pub overflow_add-kept : goal.overflow_add-kept
overflow_add-kept c = omega (arith, inside (goal.at.overflow_add-kept c).In-loop-i)

pub loop-i-preserved : goal.loop-i-preserved
loop-i-preserved c =
    let a = c.args in
    let l = c.loop-i in
    let p = c.requires in
    let from : a.from ≤ l.i = omega arith in
    let next : l.i + 1 - a.from ≡ l.i - a.from + 1 = omega arith in
    rw next (elim c.if-work-place.branch [
      | then-work-place w ↦ rw (w.kept-is, w.work-is) (new_at a.from a.end a.to a.stamps a.stamp a.work.now l.i l.kept l.work p.to_le_from p.all_below from c.loop-i-test.true l.invariant w.if-work-place.true)
      | else-work-place w ↦ rw (w.kept-is, w.work-is) (again_at a.from a.end a.to a.stamps a.stamp a.work.now l.i l.kept l.work p.to_le_from p.all_below from c.loop-i-test.true l.invariant w.if-work-place.false)
    ])

pub returns : goal.returns
returns c =
    let a = c.args in
    let ok = c.requires.to_le_from in
    let end : c.loop-i.i - a.from ≡ a.end - a.from = omega (arith, ok) in
    let h : KeptTo a.from a.end a.to a.stamps a.stamp a.work.now (a.end - a.from) c.loop-i.kept c.loop-i.work = rw end at c.loop-i.invariant in
    let rest = kept_last a.from a.end a.to a.stamps a.stamp a.work.now c.loop-i.kept c.loop-i.work ok h in
    record { kept = h.counted; written = h.written; below = h.below; behind = rest.0; stamps = rest.1 }
