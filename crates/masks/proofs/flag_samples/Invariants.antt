-- `masks::flag_samples` meets its contract. The samples passed are flagged.
use mathlib.Core.Path.{◌≡◌}
use Prim.Native.Nat.{◌-◌, ◌≤◌}
use lib.ListN.{length}
use lib.Seq.{sets}
use Rattle.masks.specs.Flags.{flags_from}
use Rattle.masks.proofs.flag_samples.Given as goal

abbrev pub invariant-loop-i : goal.invariant-loop-i
invariant-loop-i l = (length l.flags ≡ length l.initial.flags) × (l.i ≤ l.many) × (l.flags ≡ sets l.initial.flags l.at (flags_from l.grey l.samples l.start l.i))

abbrev pub decreases-loop-i : goal.decreases-loop-i
decreases-loop-i l = l.many - l.i
