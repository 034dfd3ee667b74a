-- `meshform::take_points` meets its contract: the lines passed were read, and their numbers stand in the room.
use Rattle.meshform.proofs.Lines.{PointsRead}
use Rattle.meshform.proofs.take_points.Given as goal

abbrev pub invariant-loop-i : goal.invariant-loop-i
invariant-loop-i l = PointsRead l.input l.from l.parts.points l.initial.work l.work l.i l.at l.bound
