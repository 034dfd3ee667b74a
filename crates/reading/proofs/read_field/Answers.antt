-- `reading::read_field` meets its contract: a number, and the byte behind it.
use native.Mathlib.Omega.{arith}
use Rattle.reading.proofs.Places.{reads_nothing, reads, field_none, field_end_at, field_other_at, field_at}
use Rattle.reading.proofs.read_field.Goals as goal

pub returns-in_err-value : goal.returns-in_err-value
returns-in_err-value c = rw c.from_residual.ensures (reads_nothing (field_none _ _ _ c.in_err-value.ensures.same))

pub returns-then-at-input : goal.returns-then-at-input
returns-then-at-input c = reads_nothing (field_end_at _ _ _ _ c.args.input.now _ c.in_ok-value.ensures.same c.if-at-input.true)

pub returns-then-input-at : goal.returns-then-input-at
returns-then-input-at c = reads_nothing (field_other_at _ _ _ _ c.args.input.now _ c.in_ok-value.ensures.same (omega arith) c.if-input-at.true)

pub returns : goal.returns
returns c = reads _ _ (field_at _ _ _ _ c.args.input.now _ c.in_ok-value.ensures.same (omega arith) c.if-input-at.false) c.in_ok-value.ensures.within (omega arith)
