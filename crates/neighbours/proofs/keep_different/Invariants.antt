-- `neighbours::keep_different` meets its contract: the different ones of the entries that were looked at.
use Prim.Native.Nat.{◌-◌}
use Rattle.neighbours.proofs.Kept.{KeptTo}
use Rattle.neighbours.proofs.keep_different.Given as goal

abbrev pub invariant-loop-i : goal.invariant-loop-i
invariant-loop-i l = KeptTo l.from l.end l.to l.stamps l.stamp l.initial.work (l.i - l.from) l.kept l.work
