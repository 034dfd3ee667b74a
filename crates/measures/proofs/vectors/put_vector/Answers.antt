-- `measures::vectors::put_vector` meets its contract.
use mathlib.Core.Path.{refl}
use native.Mathlib.Omega.{arith}
use lib.ListN.{length-set}
use Rattle.measures.specs.Vectors.{put_vector}
use Rattle.measures.proofs.vectors.put_vector.Goals as goal

pub bounds-room-at-2 : goal.bounds-room-at-2
bounds-room-at-2 c = simp length-set (omega arith)

pub returns : goal.returns
unfolding put_vector
returns c = refl
