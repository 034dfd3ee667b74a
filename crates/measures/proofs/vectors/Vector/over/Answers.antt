-- `measures::vectors::Vector::over` meets its contract.
use mathlib.Core.Path.{refl}
use Rattle.measures.specs.Vectors.{over}
use Rattle.measures.proofs.vectors.Vector.over.Goals as goal

pub returns : goal.returns
unfolding over
returns c = refl
