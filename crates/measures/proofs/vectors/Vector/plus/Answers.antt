-- `measures::vectors::Vector::plus` meets its contract.
use mathlib.Core.Path.{refl}
use Rattle.measures.specs.Vectors.{plus}
use Rattle.measures.proofs.vectors.Vector.plus.Goals as goal

pub returns : goal.returns
unfolding plus
returns c = refl
