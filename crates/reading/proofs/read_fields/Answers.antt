-- `reading::read_fields` meets its contract: what stands in the room, and then the other fields.
use mathlib.Core.Path.{◌∙◌}
use native.Mathlib.Numerals.{add-one}
use native.Mathlib.Omega.{arith}
use lib.ListN.{length, take, length-set}
use lib.Seq.{take-length, take-suc-set}
use Rattle.reading.specs.Reading.{most_word}
use Rattle.reading.proofs.Lines.{fields_begin, fields_done, fields_stop, fields_turn}
use Rattle.reading.proofs.read_fields.Goals as goal

pub loop-i-init : goal.loop-i-init
loop-i-init c = (omega arith, fields_begin most_word _ _ _)

pub returns-in_err-value-clause-line : goal.returns-in_err-value-clause-line
returns-in_err-value-clause-line c =
    rw c.from_residual.ensures (c.loop-i.invariant.1 ∙ fields_stop most_word _ _ c.loop-i.i _ _ _ (omega arith) (c.end_of.ensures ∙ rw c.loop-i.auto.room) c.in_err-value.ensures.same)

pub loop-i-preserved : goal.loop-i-preserved
loop-i-preserved c =
    let room = c.loop-i.room in
    let i = c.loop-i.i in
    let f = c.in_ok-value in
    rw length-set (
      f.ensures.inside,
      c.loop-i.invariant.1
          ∙ (fields_turn most_word _ _ i _ _ _ (omega arith) (c.end_of.ensures ∙ rw c.loop-i.auto.room) _ _ f.ensures.same
          ∙ rw (add-one, take-suc-set room i f.value (omega arith))),
    )

pub returns-clause-line : goal.returns-clause-line
returns-clause-line c =
    let room = c.loop-i.room in
    c.loop-i.invariant.1 ∙ fields_done most_word _ (length room) c.loop-i.i (λ k. take k room) _ (omega arith) ∙ rw take-length
