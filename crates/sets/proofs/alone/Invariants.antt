-- `sets::alone` meets its contract: the points so far, each at its own place, then the room as it was.
use mathlib.Core.Path.{◌≡◌}
use Rattle.laws.specs.Room.{laid}
use Rattle.laws.specs.Values.{list_to}
use Rattle.sets.proofs.alone.Given as goal

abbrev pub invariant-loop-p : goal.invariant-loop-p
invariant-loop-p l = l.room ≡ laid (list_to l.p (λ q. q)) l.initial.room
