-- `gridtext::read_head` meets its contract: two bytes, then a row.
use native.Mathlib.Omega.{arith}
use Rattle.gridtext.proofs.Samples.{head_short, head_other, head_untabbed, head_stops, head_reads}
use Rattle.gridtext.proofs.read_head.Goals as goal

pub returns-then-input-lt2 : goal.returns-then-input-lt2
returns-then-input-lt2 c = head_short _ c.if-input-lt2.true

pub returns-then-input-ne71 : goal.returns-then-input-ne71
returns-then-input-ne71 c = head_other _ (omega arith) c.if-input-ne71.true

pub returns-then-input-ne9 : goal.returns-then-input-ne9
returns-then-input-ne9 c = head_untabbed _ (omega arith) c.if-input-ne9.true

pub returns-in_err-next : goal.returns-in_err-next
returns-in_err-next c =
    rw c.from_residual.ensures (head_stops c.args.input.now (omega arith) c.if-input-ne71.false c.if-input-ne9.false c.in_err-next.ensures.line)

pub returns : goal.returns
returns c = rw c.from.ensures (head_reads c.args.input.now (omega arith) c.if-input-ne71.false c.if-input-ne9.false c.read_row.new.room _ c.in_ok-next.ensures.line)
