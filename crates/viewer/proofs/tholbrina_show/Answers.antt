-- `viewer::tholbrina_show` meets its contract.
use native.Mathlib.Omega.{arith}
use mathlib.Core.Path.{refl}
use Rattle.grid.proofs.Refused.{never_0}
use Rattle.show.proofs.Shown.{three_shown, shown_instead, others_instead}
use Rattle.viewer.proofs.tholbrina_show.Goals as goal

pub bounds-part-0 : goal.bounds-part-0
bounds-part-0 c = omega (arith, three_shown _ _ _ _ _ _ c.in-Ok.ensures refl)

pub bounds-part-1 : goal.bounds-part-1
bounds-part-1 c = omega (arith, three_shown _ _ _ _ _ _ c.in-Ok.ensures refl)

pub bounds-part-2 : goal.bounds-part-2
bounds-part-2 c = omega (arith, three_shown _ _ _ _ _ _ c.in-Ok.ensures refl)

pub returns-in-Ok : goal.returns-in-Ok
returns-in-Ok c = (c.in-Ok.ensures.1, shown_instead _ _ _ _ _ _ c.in-Ok.ensures refl _)

pub returns-in-Err : goal.returns-in-Err
returns-in-Err c =
    let e = c.in-Err.ensures in
    rw c.number.ensures (e.1, others_instead _ _ _ _ _ e.1 (never_0 c.in-Err.refusal) _)
