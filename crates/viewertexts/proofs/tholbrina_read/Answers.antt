-- `viewertexts::tholbrina_read` meets its contract: what the reader answers, in numbers.
use Rattle.viewertexts.proofs.tholbrina_read.Goals as goal

pub returns : goal.returns
returns c = rw (c.told.ensures, c.told_line.ensures, c.unwrap_or-counts.ensures) c.read_mesh-read.ensures
