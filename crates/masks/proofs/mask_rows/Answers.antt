-- `masks::mask_rows` meets its contract. The rows passed have their words.
use mathlib.Core.Path.{◌∙◌}
use native.Mathlib.Nat.{mul-one, mul-add}
use native.Mathlib.Omega.{arith}
use Rattle.masks.specs.Masks.{row_words}
use Rattle.masks.proofs.Rows.{row_next}
use Rattle.masks.proofs.mask_rows.Goals as goal

pub loop-preserved : goal.loop-preserved
loop-preserved c =
    let a = c.args in
    let l = c.loop in
    let row = c.mask_row-to in (
      row.auto.masks ∙ l.invariant.0,
      omega arith,
      omega (arith, mul-add a.nx l.counter 1, mul-one a.nx),
      omega (arith, row.ensures.value, mul-add (row_words a.nx) l.counter 1, mul-one (row_words a.nx)),
      row_next a.nx l.invariant.2 l.invariant.3 l.invariant.4 row.ensures.gathered,
    )
