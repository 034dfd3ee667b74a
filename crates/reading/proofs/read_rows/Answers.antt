-- `reading::read_rows` meets its contract: the rows that stand in the room, and then the others.
use mathlib.Core.Path.{◌≡◌, ap, sym, ◌∙◌}
use Prim.Native.Nat.{◌*◌}
use native.Mathlib.Nat.{mul-zero}
use native.Mathlib.Omega.{arith}
use lib.ListN.{take, drop, drop_of_length-le}
use Rattle.reading.specs.Reading.{rows}
use Rattle.grid.specs.Limits.{most_number}
use Rattle.lines.proofs.Bytes.{byte_at}
use Rattle.reading.proofs.Lines.{rows_begin, rows_stop, rows_turn, rows_over, rows_done, row_after, rows_joined}
use Rattle.reading.proofs.read_rows.Goals as goal

pub loop-i-init : goal.loop-i-init
loop-i-init c = (sym (mul-zero _), rows_begin most_number _ _ _)

pub returns-in_default : goal.returns-in_default
returns-in_default c =
    let a = c.args in
    c.loop-i.invariant.1 ∙ rows_stop most_number a.width a.count c.loop-i.i (take c.loop-i.base c.loop-i.room) (drop c.loop-i.at a.input.now) (omega arith) c.in_default.ensures.line

pub loop-i-preserved : goal.loop-i-preserved
loop-i-preserved c =
    let a = c.args in
    let room = c.read_row.new.room in (
      row_after a.width c.loop-i.base c.loop-i.i c.loop-i.invariant.0,
      c.loop-i.invariant.1
          ∙ (rows_turn most_number a.width a.count c.loop-i.i (take c.loop-i.base c.loop-i.room) (drop c.loop-i.at a.input.now) (omega arith) (take a.width (drop c.loop-i.base room)) _ c.in-Some.ensures.line
          ∙ rw (rows_joined c.loop-i.room room c.loop-i.base a.width c.read_row.ensures.kept)),
    )

pub returns-then-at-input : goal.returns-then-at-input
returns-then-at-input c =
    let a = c.args in
    c.loop-i.invariant.1 ∙ rows_over most_number a.width a.count c.loop-i.i (take c.loop-i.base c.loop-i.room) (drop c.loop-i.at a.input.now) (omega arith) _ _ (byte_at a.input.now c.loop-i.at c.if-at-input.true)

pub returns : goal.returns
returns c =
    let a = c.args in
    let e : c.loop-i.i ≡ a.count = omega arith in
    c.loop-i.invariant.1
    ∙ (rows_done most_number a.width a.count c.loop-i.i (take c.loop-i.base c.loop-i.room) (drop c.loop-i.at a.input.now) e (drop_of_length-le a.input.now c.if-at-input.false)
    ∙ ap (λ n. rows (take n c.loop-i.room)) (c.loop-i.invariant.0 ∙ ap (λ n. a.width * n) e))
