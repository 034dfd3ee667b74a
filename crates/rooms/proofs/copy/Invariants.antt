-- `rooms::copy` meets its contract: copied as far as the places that were passed.
use mathlib.Core.Path.{◌≡◌}
use lib.ListN.{length, take}
use Rattle.laws.specs.Room.{laid}
use Rattle.laws.specs.Part.{part_of}
use Rattle.rooms.proofs.copy.Given as goal

abbrev pub invariant-loop-i : goal.invariant-loop-i
invariant-loop-i l = (length l.written ≡ length l.initial.written) × (l.written ≡ laid (take l.i (part_of l.from (length l.initial.written) l.read)) l.initial.written)
