-- `steps::step` meets its contract.
use mathlib.Core.Path.{refl}
use Prim.Native.Nat.{◌<◌, ◌≤◌}
use native.Mathlib.Omega.{arith}
use borrow.Author.Tests.{lt-ltb, le-ltb}
use Rattle.summary.specs.Steps.{finds}
use Rattle.steps.proofs.step.Goals as goal

pub returns-then-least-grey : goal.returns-then-least-grey
unfolding finds
returns-then-least-grey c =
    let a = c.args in
    let below : a.least < a.grey = omega (arith, c.if-least-grey.true) in
    (refl, rw (lt-ltb a.least a.grey below))

pub returns-else-least-grey : goal.returns-else-least-grey
unfolding finds
returns-else-least-grey c =
    let a = c.args in
    let above : a.grey ≤ a.least = omega (arith, c.if-least-grey.false) in
    (refl, rw (le-ltb a.least a.grey above))
