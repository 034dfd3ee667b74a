-- `meshform::take_points` meets its contract: the lines passed were read, and their numbers stand in the room.
use native.Mathlib.Omega.{arith}
use Rattle.meshform.proofs.Lines.{points_begin, points_stop, points_next, points_done}
use Rattle.meshform.proofs.take_points.Goals as goal

pub loop-i-init : goal.loop-i-init
loop-i-init c = points_begin c.args.input.now c.args.from c.args.parts.points c.args.work.now

pub returns-in_default : goal.returns-in_default
returns-in_default c =
    let a = c.args in
    points_stop a.input.now a.from a.parts.points a.work.now c.loop-i.work c.loop-i.i c.loop-i.at c.loop-i.bound c.loop-i.invariant (omega arith) c.in_default.ensures

pub loop-i-preserved : goal.loop-i-preserved
loop-i-preserved c =
    let a = c.args in
    points_next a.input.now a.from a.parts.points a.work.now c.loop-i.work c.loop-i.i c.loop-i.at c.loop-i.bound c.loop-i.invariant (omega arith) _ _ c.take_point.new.work c.in-Some.ensures

pub returns : goal.returns
returns c =
    let a = c.args in
    points_done a.input.now a.from a.parts.points a.work.now c.loop-i.work c.loop-i.i c.loop-i.at c.loop-i.bound c.loop-i.invariant (omega arith)
