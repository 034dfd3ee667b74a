-- `viewer::tholbrina_extract` meets its contract: what the extractor answers, in numbers.
use Rattle.viewer.proofs.tholbrina_extract.Goals as goal

pub returns : goal.returns
returns c = rw (c.told.ensures, c.unwrap_or-counts.ensures) c.extract-done.ensures
