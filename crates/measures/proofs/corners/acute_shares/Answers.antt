-- `measures::corners::acute_shares` meets its contract.
use Rattle.measures.specs.Corners.{acute_shares}
use Rattle.measures.proofs.corners.acute_shares.Goals as goal

pub returns : goal.returns
unfolding acute_shares
returns c = cc
