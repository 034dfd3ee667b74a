-- `measures::vectors::Vector::zero` meets its contract.
use mathlib.Core.Path.{refl}
use lib.Ieee.{of_bits, of_fields, odd}
use Rattle.measures.proofs.vectors.Vector.zero.Goals as goal

pub returns : goal.returns
unfolding of_bits of_fields odd
returns c = refl
