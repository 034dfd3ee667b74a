-- `writing::spell` meets its contract: the digits behind what is left of the number are written.
use mathlib.Core.Path.{◌≡◌}
use mathlib.Core.List.{◌++◌}
use Prim.Native.Nat.{◌+◌, ◌<◌}
use lib.ListN.{length, drop}
use lib.Seq.{sets}
use Rattle.lines.specs.Decimal.{decimal}
use Rattle.writing.proofs.spell.Given as goal

abbrev pub invariant-loop-rest : goal.invariant-loop-rest
invariant-loop-rest l =
    (l.i < l.count) × (decimal l.n ≡ decimal l.rest ++ drop (l.i + 1) (decimal l.n)) × (length (decimal l.rest) ≡ l.i + 1) × (length l.room ≡ length l.initial.room)
    × (l.room ≡ sets l.initial.room (l.at + l.i + 1) (drop (l.i + 1) (decimal l.n)))

abbrev pub decreases-loop-rest : goal.decreases-loop-rest
decreases-loop-rest l = l.rest
