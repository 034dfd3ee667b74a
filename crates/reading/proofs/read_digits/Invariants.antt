-- `reading::read_digits` meets its contract: what is read from the start is what is read from here on.
use mathlib.Core.Path.{◌≡◌}
use Prim.Native.Nat.{◌≤◌}
use lib.ListN.{drop}
use Rattle.reading.specs.Reading.{digits_on}
use Rattle.reading.proofs.read_digits.Given as goal

abbrev pub invariant-loop-at : goal.invariant-loop-at
invariant-loop-at l = (l.value ≤ l.most) × (digits_on l.most l.first (drop l.from l.input) ≡ digits_on l.most l.value (drop l.at l.input))
