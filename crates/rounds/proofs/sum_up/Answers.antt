-- `rounds::sum_up` meets its contract: the sums over the neighbours that were passed.
use mathlib.Core.Path.{refl}
use Prim.Native.Nat.{ℕ, ◌+◌, ◌*◌, ◌-◌, ◌<◌, ◌≤◌}
use native.Mathlib.Omega.{arith}
use lib.ListN.{length, get_or}
use Rattle.grid.specs.Limits.{most_points, most_coordinate}
use Rattle.rounds.proofs.Summing.{held_first, held_next, held_most, named_at}
use Rattle.rounds.proofs.sum_up.Goals as goal
use Rattle.rounds.proofs.sum_up.Goals.{In-loop-i}

pub loop-i-init : goal.loop-i-init
loop-i-init c =
    let first = held_first c.args.old.now c.args.work.now c.args.from in
    record { x = first 0; y = first 1; z = first 2 }

-- the next neighbour's place is among the old ones; coordinates and sums are small
facts : (c : In-loop-i) → let a = c.args in
    (3 * get_or a.work.now c.loop-i.i 0 + 2 < length a.old.now)
    × (c.loop-i.x ≤ most_points * most_coordinate) × (c.loop-i.y ≤ most_points * most_coordinate) × (c.loop-i.z ≤ most_points * most_coordinate)
    × ((k : ℕ) → get_or a.old.now k 0 ≤ most_coordinate)
facts c =
    let p = c.requires in
    let a = c.args in
    let l = c.loop-i in
    let most = held_most a.old.now a.work.now a.from p.small_places (l.i - a.from) in (
      named_at a.old.now a.work.now a.from a.end l.i p.names_to (omega arith) c.loop-i-test.true,
      omega (arith, l.invariant.x, most 0, p.from_bound),
      omega (arith, l.invariant.y, most 1, p.from_bound),
      omega (arith, l.invariant.z, most 2, p.from_bound),
      p.small_places,
    )

pub bounds-old-q : goal.bounds-old-q
bounds-old-q c = omega (arith, (facts (goal.at.bounds-old-q c).In-loop-i).0)

pub overflow_add-x : goal.overflow_add-x
overflow_add-x c = let f = facts (goal.at.overflow_add-x c).In-loop-i in omega (arith, f.1, f.4 (3 * get_or c.args.work.now c.loop-i.i 0))

pub bounds-old-q-in-loop-i : goal.bounds-old-q-in-loop-i
bounds-old-q-in-loop-i c = omega (arith, (facts (goal.at.bounds-old-q-in-loop-i c).In-loop-i).0)

pub overflow_add-y-in-loop-i : goal.overflow_add-y-in-loop-i
overflow_add-y-in-loop-i c = let f = facts (goal.at.overflow_add-y-in-loop-i c).In-loop-i in omega (arith, f.2, f.4 (3 * get_or c.args.work.now c.loop-i.i 0 + 1))

pub bounds-old-q-in-loop-i-2 : goal.bounds-old-q-in-loop-i-2
bounds-old-q-in-loop-i-2 c = omega (arith, (facts (goal.at.bounds-old-q-in-loop-i-2 c).In-loop-i).0)

pub overflow_add-z-in-loop-i : goal.overflow_add-z-in-loop-i
overflow_add-z-in-loop-i c = let f = facts (goal.at.overflow_add-z-in-loop-i c).In-loop-i in omega (arith, f.3, f.4 (3 * get_or c.args.work.now c.loop-i.i 0 + 2))

pub loop-i-preserved : goal.loop-i-preserved
loop-i-preserved c =
    let a = c.args in
    let h = c.loop-i.invariant in
    let from : a.from ≤ c.loop-i.i = omega arith in
    let place = 3 * get_or a.work.now c.loop-i.i 0 in
    let next = held_next a.old.now a.work.now a.from c.loop-i.i in
    record { x = rw h.x (next 0 place from (omega arith)); y = rw h.y (next 1 (place + 1) from refl); z = rw h.z (next 2 (place + 2) from refl) }
