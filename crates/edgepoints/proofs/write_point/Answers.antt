-- `edgepoints::write_point` meets its contract: five stores.
use mathlib.Core.List.{flat_map}
use native.Mathlib.Numerals.{add-one, add-two}
use Rattle.edgepoints.specs.EdgePoint.{placed_from}
use Rattle.edgepoints.proofs.write_point.Goals as goal

pub returns : goal.returns
unfolding placed_from flat_map
returns c = rw (add-one, add-two)
