-- `meshrows::read_point` meets its contract: `V`, a line of five numbers, and the first is not below the bound.
use mathlib.Core.Path.{sym, ◌∙◌}
use lib.Dec.{leb}
use Rattle.reading.specs.Reading.{most_word, read_lettered, read_row}
use Rattle.meshlines.specs.MeshLines.{letter_v}
use Rattle.meshread.specs.Lines.{edge_of, read_point}
use Rattle.meshrows.proofs.Pieces.{if_not, if_fails, if_passes}
use Rattle.meshrows.proofs.read_point.Goals as goal

pub returns-in_err-numbers-clause-line : goal.returns-in_err-numbers-clause-line
unfolding read_point
returns-in_err-numbers-clause-line c = rw c.from_residual.ensures (if_not _ _ _ c.in_err-numbers.ensures.line)

pub returns-then-not-rises-clause-line : goal.returns-then-not-rises-clause-line
unfolding read_point
returns-then-not-rises-clause-line c =
    if_fails (λ row. leb c.args.bound (edge_of row)) (read_lettered letter_v (read_row most_word 5)) _ _ c.in_ok-numbers.numbers c.in_ok-numbers.ensures.line (sym c.rises.ensures ∙ c.if-not-rises.true)

pub returns-clause-line : goal.returns-clause-line
unfolding read_point
returns-clause-line c =
    if_passes (λ row. leb c.args.bound (edge_of row)) (read_lettered letter_v (read_row most_word 5)) _ _ c.in_ok-numbers.numbers c.in_ok-numbers.ensures.line (sym c.rises.ensures ∙ c.if-not-rises.false)
