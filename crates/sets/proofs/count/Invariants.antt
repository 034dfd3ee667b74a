-- `sets::count` meets its contract: the roots among the points passed.
use mathlib.Core.Path.{◌≡◌}
use Rattle.laws.specs.Range.{count_to}
use Rattle.sets.specs.Sets.{is_root}
use Rattle.sets.proofs.count.Given as goal

abbrev pub invariant-loop-p : goal.invariant-loop-p
invariant-loop-p l = l.roots ≡ count_to l.p (is_root l.room)
