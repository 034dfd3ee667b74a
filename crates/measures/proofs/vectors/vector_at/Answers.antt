-- `measures::vectors::vector_at` meets its contract.
use mathlib.Core.Path.{refl}
use Rattle.measures.specs.Vectors.{vector_at}
use Rattle.measures.proofs.vectors.vector_at.Goals as goal

pub returns : goal.returns
unfolding vector_at
returns c = refl
