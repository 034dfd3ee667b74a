-- `root::whole_root` meets its contract: each turn finds one digit.
use mathlib.Core.Logic.{⊎_elim}
use mathlib.Core.Path.{◌≡◌}
use Prim.Native.Nat.{◌+◌, ◌/◌}
use native.Mathlib.Omega.{arith}
use Rattle.root.proofs.Digit.{none_found, tried_small, found_one, found_none, found_all}
use Rattle.root.proofs.whole_root.Goals as goal

pub loop-place-init : goal.loop-place-init
loop-place-init c = none_found c.args.m c.requires

pub overflow_add-added : goal.overflow_add-added
overflow_add-added c = omega (arith, tried_small c.loop-place.invariant (omega arith))

pub overflow_add-tried : goal.overflow_add-tried
overflow_add-tried c = omega (arith, tried_small c.loop-place.invariant (omega arith))

pub overflow_add-doubled : goal.overflow_add-doubled
overflow_add-doubled c = omega (arith, tried_small c.loop-place.invariant (omega arith))

pub loop-place-preserved : goal.loop-place-preserved
loop-place-preserved c =
    let l = c.loop-place in
    let small = tried_small l.invariant (omega arith) in
    let next = c.if-tried-m in
    ⊎_elim
    (λ w.
    let halved : next.doubled / 2 ≡ (l.doubled + l.place + l.place) / 2 = omega (arith, w.doubled-is) in
    rw (w.square-is, halved) (found_one l.invariant (omega arith) (omega (arith, w.if-tried-m.true))))
    (λ w.
    let halved : next.doubled / 2 ≡ l.doubled / 2 = omega (arith, small, w.doubled-is) in
    rw (w.square-is, halved) (found_none l.invariant (omega arith) (omega (arith, w.if-tried-m.false))))
    next.branch-raw

pub returns : goal.returns
returns c = found_all (rw c.loop-place-test.false at c.loop-place.invariant)
