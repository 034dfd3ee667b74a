-- `cube::triangles` meets its contract: it reads the case's fifteen numbers from the table, three by three.
use borrow.Author.Rules.{rules}
use Rattle.cube.proofs.Places.{answer_read}
use Rattle.cube.proofs.triangles.Goals as goal

pub returns : goal.returns
returns c =
    let five = c.three-5.ensures in
    let four = c.three-4.ensures in
    let three = c.three-3.ensures in
    let two = c.three-2.ensures in
    let one = c.three.ensures in
    answer_read _ (search rules) _ _ _ _ _ _ c.rows-rows.ensures one two three four five
