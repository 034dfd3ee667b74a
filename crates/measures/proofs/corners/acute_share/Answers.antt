-- `measures::corners::acute_share` meets its contract.
use Rattle.measures.specs.Corners.{acute_share}
use Rattle.measures.proofs.Floats.{eight_is}
use Rattle.measures.proofs.corners.acute_share.Goals as goal

pub returns : goal.returns
unfolding acute_share
returns c = rw eight_is
