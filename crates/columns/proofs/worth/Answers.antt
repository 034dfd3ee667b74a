-- `columns::worth` meets its contract, field by field.
use mathlib.Core.Path.{sym}
use mathlib.Core.Logic.{⊎_elim}
use Prim.Native.Nat.{◌+◌, ◌*◌}
use native.Mathlib.Omega.{arith}
use Rattle.columns.specs.Columns.{worth_of}
use Rattle.columns.proofs.Rooms.{coordinate_at, mark_at}
use Rattle.columns.proofs.worth.Goals as goal

pub returns-in-Low : goal.returns-in-Low
unfolding worth_of
returns-in-Low c = rw c.in-Low.is

pub returns-in-Touches : goal.returns-in-Touches
unfolding worth_of
returns-in-Touches c =
    let a = c.args in
    rw (c.in-Touches.is, c.marks_at.ensures) (sym (mark_at a.parts.points a.work.now a.i (omega arith)))

pub returns-in-Points : goal.returns-in-Points
unfolding worth_of
returns-in-Points c =
    let a = c.args in
    let x = sym (coordinate_at a.parts.points a.work.now (3 * a.i) (omega arith)) in
    ⊎_elim (λ e. rw e x) (⊎_elim (λ e. rw e x) (λ e. rw e x)) c.in-Points.is

pub returns-in-LeastY : goal.returns-in-LeastY
unfolding worth_of
returns-in-LeastY c =
    let a = c.args in
    let y = sym (coordinate_at a.parts.points a.work.now (3 * a.i + 1) (omega arith)) in
    ⊎_elim (λ e. rw e y) (λ e. rw e y) c.in-LeastY.is

pub returns-in-LeastZ : goal.returns-in-LeastZ
unfolding worth_of
returns-in-LeastZ c =
    let a = c.args in
    let z = sym (coordinate_at a.parts.points a.work.now (3 * a.i + 2) (omega arith)) in
    ⊎_elim (λ e. rw e z) (⊎_elim (λ e. rw e z) (λ e. rw e z)) c.in-LeastZ.is
