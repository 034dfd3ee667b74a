-- `masks::flag_kept` meets its contract. The kept samples passed are flagged.
use mathlib.Core.Path.{◌≡◌}
use mathlib.Core.List.{map}
use Prim.Native.Nat.{◌-◌, ◌≤◌}
use lib.ListN.{length}
use Rattle.laws.specs.Room.{laid}
use Rattle.grid.specs.Work.{sample_of}
use Rattle.masks.specs.Flags.{flags_from}
use Rattle.masks.proofs.flag_kept.Given as goal

abbrev pub invariant-loop-i : goal.invariant-loop-i
invariant-loop-i l = (length l.flags ≡ length l.initial.flags) × (l.i ≤ l.many) × (l.flags ≡ laid (flags_from l.grey (map sample_of l.kept) l.start l.i) l.initial.flags)

abbrev pub decreases-loop-i : goal.decreases-loop-i
decreases-loop-i l = l.many - l.i
