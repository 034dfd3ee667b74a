-- `cuberows::Corners::busy` meets its contract: the law of its word.
use Rattle.cuberows.proofs.Busy.{busy_bits}
use Rattle.cuberows.proofs.Corners.busy.Goals as goal

pub returns : goal.returns
returns c = busy_bits _ _
