-- `measures::vectors::Vector::times` meets its contract.
use mathlib.Core.Path.{refl}
use Rattle.measures.specs.Vectors.{times}
use Rattle.measures.proofs.vectors.Vector.times.Goals as goal

pub returns : goal.returns
unfolding times
returns c = refl
