-- `reading::read_fields` meets its contract: what stands in the room, and then the other fields.
use mathlib.Core.Path.{◌≡◌}
use Prim.Native.Nat.{◌-◌, ◌≤◌}
use lib.ListN.{length, take, drop}
use Rattle.reading.specs.Reading.{most_word, read_fields}
use Rattle.reading.proofs.Lines.{before}
use Rattle.reading.proofs.read_fields.Given as goal

abbrev pub invariant-loop-i : goal.invariant-loop-i
invariant-loop-i l =
    (l.at ≤ length l.input)
    × (read_fields most_word l.more (length l.initial.room) (drop l.from l.input) ≡ before (take l.i l.room) (read_fields most_word l.more (length l.room - l.i) (drop l.at l.input)))
