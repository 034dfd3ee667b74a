-- `root::into_window` meets its contract: each turn takes a step or leaves it.
use mathlib.Core.Logic.{⊎_elim}
use mathlib.Core.Path.{◌≡◌, sym}
use native.Mathlib.Omega.{arith}
use Rattle.root.proofs.Window.{scale_below}
use Rattle.root.proofs.Steps.{all_steps, moved_up, limit_fits, moved_below, step_taken, step_left, reached}
use Rattle.root.proofs.into_window.Goals as goal

pub loop-step-init : goal.loop-step-init
loop-step-init c = all_steps c.args.n c.requires.0 c.requires.1

pub overflow_add-scale : goal.overflow_add-scale
overflow_add-scale c =
    let l = c.loop-step in
    let few = scale_below c.args.n l.scale c.requires.0 (rw (sym l.invariant.is_scaled) l.invariant.below) in
    omega (arith, few)

pub loop-step-preserved : goal.loop-step-preserved
loop-step-preserved c =
    let l = c.loop-step in
    ⊎_elim
    (λ w.
    let small = rw (limit_fits l.step) at w.if-number-step.true in
    rw (w.number-is, w.scale-is, moved_up l.number l.step (moved_below l.invariant (omega arith) small)) (step_taken l.invariant (omega arith) small))
    (λ w. rw (w.number-is, w.scale-is) (step_left l.invariant (omega arith) (rw (limit_fits l.step) at w.if-number-step.false)))
    c.if-number-step.branch-raw

pub returns : goal.returns
returns c =
    let none : c.loop-step.step ≡ 0 = omega (arith, c.loop-step-test.false) in
    let h = rw none at c.loop-step.invariant in
    (reached h, h.is_scaled)
