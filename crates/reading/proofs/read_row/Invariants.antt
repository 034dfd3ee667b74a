-- `reading::read_row` meets its contract: what stands in the room, and then the rest of the line.
use mathlib.Core.Path.{◌≡◌}
use Prim.Native.Nat.{◌-◌}
use lib.ListN.{take, drop}
use Rattle.reading.specs.Reading.{read_row, read_fields}
use Rattle.grid.specs.Limits.{most_number}
use Rattle.reading.proofs.Lines.{before}
use Rattle.reading.proofs.read_row.Given as goal

abbrev pub invariant-loop-i : goal.invariant-loop-i
invariant-loop-i l =
    (take l.base l.room ≡ take l.base l.initial.room)
    × (read_row most_number l.count (drop l.from l.input) ≡ before (take l.i (drop l.base l.room)) (read_fields most_number 0 (l.count - l.i) (drop l.at l.input)))
