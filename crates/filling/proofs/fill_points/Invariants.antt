-- `filling::fill_points` meets its contract: the lines passed were read again, and their numbers stand in the rooms.
use mathlib.Core.Path.{◌≡◌}
use lib.ListN.{take}
use Rattle.laws.specs.Room.{laid}
use Rattle.judge.specs.Judged.{edges_at, marks_on}
use Rattle.filling.proofs.Again.{Again}
use Rattle.filling.proofs.fill_points.Given as goal

abbrev pub invariant-loop-i : goal.invariant-loop-i
invariant-loop-i l =
    Again l.input l.from l.v l.i l.at l.bound × (l.edges ≡ laid (take l.i (edges_at l.input l.from l.v)) l.initial.edges) × (l.marks ≡ laid (take l.i (marks_on l.input l.from l.v)) l.initial.marks)
