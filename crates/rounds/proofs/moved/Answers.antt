-- `rounds::moved` meets its contract: the definition's own arithmetic, which fits.
use mathlib.Core.Path.{refl}
use Prim.Native.Nat.{◌≤◌}
use Rattle.laws.specs.Nearest.{nearest}
use Rattle.grid.specs.Limits.{most_coordinate}
use Rattle.rounds.specs.Round.{moved}
use Rattle.rounds.proofs.Weighed.{moved_small}
use Rattle.rounds.proofs.moved.Goals as goal
use Rattle.rounds.proofs.moved.Goals.{Start}

within : (c : Start) → let a = c.args in moved a.weight a.d a.p a.sum ≤ most_coordinate
within c =
    let a = c.args in
    moved_small a.weight a.d a.p a.sum most_coordinate c.requires.weight_le_most_weight c.requires.d_nonzero.0 c.requires.p_le_most_coordinate c.requires.sum_bound

pub returns : goal.returns
unfolding moved nearest
returns c = (refl, within (goal.at.returns c).Start)
