-- `meshrows::read_triangle` meets its contract: `T`, and three numbers.
use Rattle.meshread.specs.Lines.{read_triangle}
use Rattle.meshrows.proofs.read_triangle.Goals as goal

pub returns-clause-line : goal.returns-clause-line
unfolding read_triangle
returns-clause-line c = c.read_numbers.ensures.line
