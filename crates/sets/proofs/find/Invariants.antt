-- `sets::find` meets its contract: the sets stay, and the point that was reached is in the set of the point asked for.
use mathlib.Core.Path.{◌≡◌}
use mathlib.Core.List.{List}
use Prim.Native.Nat.{ℕ, ◌<◌, ◌≤◌}
use lib.ListN.{length}
use Rattle.sets.specs.Sets.{parent, root, SameSets}
use Rattle.sets.proofs.find.Given as goal

pub record Finding (old room : List ℕ) (point p above : ℕ) : Type 0 where
  pub same : SameSets old room
  pub small : p < length old
  pub long : length room ≡ length old
  pub here : above ≡ parent room p
  pub low : above ≤ p
  pub reached : root old p ≡ root old point

abbrev pub invariant-loop-above : goal.invariant-loop-above
invariant-loop-above l = Finding l.initial.room l.room l.point l.p l.above

abbrev pub decreases-loop-above : goal.decreases-loop-above
decreases-loop-above l = l.p
