-- `meshrows::read_counts` meets its contract: `M`, and three numbers.
use Rattle.reading.specs.Reading.{after}
use Rattle.meshread.specs.Lines.{counts_of, read_counts}
use Rattle.meshrows.proofs.read_counts.Goals as goal

pub returns-in_err-numbers-clause-line : goal.returns-in_err-numbers-clause-line
unfolding read_counts after
returns-in_err-numbers-clause-line c = rw (c.from_residual.ensures, c.in_err-numbers.ensures.line)

pub returns-clause-line : goal.returns-clause-line
unfolding read_counts counts_of after
returns-clause-line c = rw c.in_ok-numbers.ensures.line
