-- `viewer::tholbrina_case_edge` meets its contract: it reads the case's row in the table.
use mathlib.Core.Path.{sym}
use native.Mathlib.Omega.{arith}
use borrow.Author.Rules.{rules}
use lib.ListN.{get_or-eq_default}
use Rattle.cube.specs.Answer.{row}
use Rattle.cube.proofs.Places.{length_row, entry}
use Rattle.viewer.proofs.tholbrina_case_edge.Goals as goal

pub returns-then-place-ge-CASE_LENGTH : goal.returns-then-place-ge-CASE_LENGTH
returns-then-place-ge-CASE_LENGTH c =
    let a = c.args in
    sym (get_or-eq_default (row a.case) 0 (omega (arith, length_row a.case)))

pub returns : goal.returns
returns c = let a = c.args in rw c.rows-rows.ensures (entry a.case a.place (search rules) (search rules))
