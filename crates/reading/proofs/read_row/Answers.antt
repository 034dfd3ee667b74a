-- `reading::read_row` meets its contract: what stands in the room, and then the rest of the line.
use mathlib.Core.Path.{refl, ap, sym, ◌∙◌}
use Prim.Native.Nat.{◌+◌, ◌<◌}
use native.Mathlib.Nat.{add-zero}
use native.Mathlib.Omega.{arith}
use lib.ListN.{length, take, drop}
use lib.Seq.{take-set-le}
use Rattle.lines.specs.Line.{end_of}
use Rattle.grid.specs.Limits.{most_number}
use Rattle.reading.proofs.Fields.{row_fields}
use Rattle.reading.proofs.Lines.{fields_begin, fields_done, fields_stop, fields_turn, stands_next}
use Rattle.reading.proofs.read_row.Goals as goal

pub loop-i-init : goal.loop-i-init
loop-i-init c = (refl, row_fields most_number _ _ ∙ fields_begin most_number 0 _ _)

pub returns-in_err-value-clause-line : goal.returns-in_err-value-clause-line
returns-in_err-value-clause-line c =
    rw c.from_residual.ensures (c.loop-i.invariant.1 ∙ fields_stop most_number 0 _ c.loop-i.i _ _ _ (omega arith) (c.end_of.ensures ∙ ap end_of (sym (add-zero _))) c.in_err-value.ensures.same)

pub loop-i-preserved : goal.loop-i-preserved
loop-i-preserved c =
    let room = c.loop-i.room in
    let base = c.args.base in
    let i = c.loop-i.i in
    let f = c.in_ok-value in
    let within : base + i < length room = omega arith in (
      take-set-le base room (base + i) _ (omega arith) ∙ c.loop-i.invariant.0,
      c.loop-i.invariant.1
          ∙ (fields_turn most_number 0 _ i _ _ _ (omega arith) (c.end_of.ensures ∙ ap end_of (sym (add-zero _))) _ _ f.ensures.same
          ∙ rw (stands_next room base i f.value within)),
    )

pub returns-clause-line : goal.returns-clause-line
returns-clause-line c = c.loop-i.invariant.1 ∙ fields_done most_number 0 c.args.count c.loop-i.i (λ k. take k (drop c.args.base c.loop-i.room)) _ (omega arith)
