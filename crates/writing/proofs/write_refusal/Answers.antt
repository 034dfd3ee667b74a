-- `writing::write_refusal` meets its contract: the length first, then the line.
use mathlib.Core.List.{◌∷◌, []}
use Prim.Native.Nat.{◌+◌}
use native.Mathlib.Omega.{arith}
use Rattle.lines.specs.Line.{lettered}
use Rattle.writing.specs.Writing.{letter_r, refusal_text}
use Rattle.writing.proofs.Fields.{lettered_length, written_front, written_not}
use Rattle.writing.proofs.write_refusal.Goals as goal

pub overflow_add-length : goal.overflow_add-length
overflow_add-length c = omega (arith, c.fields_length-length.ensures.small)

pub returns-then-room-length : goal.returns-then-room-length
unfolding refusal_text
returns-then-room-length c =
    let a = c.args in
    let ns = a.number ∷ a.line ∷ [] in record {
      holds = λ l e. absurd (omega (arith, l, c.fields_length-length.ensures.small, c.if-room-length.true));
      text = written_not (lettered letter_r ns) a.room.now (omega (arith, c.fields_length-length.ensures.length, lettered_length letter_r ns, c.if-room-length.true));
    }

pub write_lettered-requires : goal.write_lettered-requires
write_lettered-requires c =
    let a = c.args in
    omega (arith, c.fields_length-length.ensures.length, lettered_length letter_r (a.number ∷ a.line ∷ []), c.if-room-length.false)

pub returns : goal.returns
unfolding refusal_text
returns c =
    let a = c.args in
    let ns = a.number ∷ a.line ∷ [] in
    let l = lettered_length letter_r ns in record {
      holds = λ l t. absurd (omega (arith, t));
      text = written_front (lettered letter_r ns) a.room.now c.write_lettered.new.room (2 + c.fields_length-length.result)
          (omega (arith, c.fields_length-length.ensures.length, l, c.if-room-length.false)) (omega (arith, c.fields_length-length.ensures.length, l)) c.write_lettered.ensures.text;
    }
