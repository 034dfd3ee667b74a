-- `shelllines::counts_of` meets its contract.
use mathlib.Core.Path.{refl}
use Rattle.shelllines.proofs.counts_of.Goals as goal

pub returns : goal.returns
returns c = refl
