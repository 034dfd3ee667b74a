-- `meshlines::points_length` meets its contract.
use mathlib.Core.Path.{◌≡◌, ap, sym, ◌∙◌}
use native.Mathlib.Omega.{arith}
use lib.ListN.{length}
use Rattle.lines.specs.Line.{fields, lettered}
use Rattle.meshlines.specs.MeshLines.{letter_v, point_numbers, points_text}
use Rattle.writing.proofs.Fields.{lettered_length}
use Rattle.meshlines.proofs.LinesWritten.{lines_to, lines_none, lines_length}
use Rattle.meshlines.proofs.points_length.Goals as goal

pub loop-i-init : goal.loop-i-init
loop-i-init c = (sym (ap length (lines_none (λ i. lettered letter_v (point_numbers c.args.points.now c.args.edges.now c.args.marks.now i)))), omega arith)

pub fields_length-requires : goal.fields_length-requires
fields_length-requires c = omega (arith, ap length c.point_numbers-numbers.ensures)

pub overflow_add-sum : goal.overflow_add-sum
overflow_add-sum c = omega (arith, c.fields_length.ensures.small, ap length c.point_numbers-numbers.ensures)

pub overflow_add-sum-in-loop-i : goal.overflow_add-sum-in-loop-i
overflow_add-sum-in-loop-i c = omega (arith, c.fields_length.ensures.small, ap length c.point_numbers-numbers.ensures)

pub loop-i-preserved : goal.loop-i-preserved
loop-i-preserved c =
    let a = c.args in (
      omega (arith, c.loop-i.invariant.0, c.fields_length.ensures.length, ap (λ n. length (fields 0 n)) c.point_numbers-numbers.ensures, lines_length (λ i. lettered letter_v (point_numbers a.points.now a.edges.now a.marks.now i)) c.loop-i.i, lettered_length letter_v (point_numbers a.points.now a.edges.now a.marks.now c.loop-i.i)),
      omega (arith, c.loop-i.invariant.1, c.fields_length.ensures.small, ap length c.point_numbers-numbers.ensures),
    )

pub returns : goal.returns
unfolding points_text lines_to
returns c =
    let a = c.args in
    let e : c.loop-i.i ≡ a.v = omega arith in record { length = c.loop-i.invariant.0 ∙ ap (λ k. length (lines_to (λ i. lettered letter_v (point_numbers a.points.now a.edges.now a.marks.now i)) k)) e; small = omega arith }
