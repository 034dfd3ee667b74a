-- `reading::read_rows` meets its contract: the rows that stand in the room, and then the others.
use mathlib.Core.Path.{◌≡◌}
use Prim.Native.Nat.{◌+◌, ◌*◌, ◌-◌}
use lib.ListN.{take, drop}
use Rattle.reading.specs.Reading.{read_rows, ahead}
use Rattle.grid.specs.Limits.{most_number}
use Rattle.reading.proofs.read_rows.Given as goal

abbrev pub invariant-loop-i : goal.invariant-loop-i
invariant-loop-i l =
    (l.base ≡ l.width * l.i)
    × (read_rows most_number l.width l.count 2 (drop l.from l.input) ≡ ahead (take l.base l.room) (read_rows most_number l.width (l.count - l.i) (l.i + 2) (drop l.at l.input)))
