-- `meshlines::write_triangles` meets its contract.
use mathlib.Core.Path.{◌≡◌, refl, ap, sym, ◌∙◌}
use Prim.Native.Nat.{◌+◌}
use native.Mathlib.Omega.{arith}
use lib.ListN.{length}
use lib.Seq.{sets}
use Rattle.lines.specs.Line.{lettered}
use Rattle.meshlines.specs.MeshLines.{letter_t, triangle_numbers, triangles_text}
use Rattle.writing.proofs.Fields.{lettered_length}
use Rattle.meshlines.proofs.LinesWritten.{lines_to, lines_none, lines_length, lines_rise, lines_written}
use Rattle.meshlines.proofs.write_triangles.Goals as goal

pub loop-i-init : goal.loop-i-init
loop-i-init c =
    let a = c.args in
    let z = lines_none (λ i. lettered letter_t (triangle_numbers a.triangles.now i)) in
    (refl, omega (arith, ap length z), sym (ap (sets a.room.now a.from) z))

pub write_lettered-at-requires : goal.write_lettered-at-requires
unfolding triangles_text lines_to
write_lettered-at-requires c =
    let a = c.args in
    let g = triangle_numbers a.triangles.now in
    rw c.triangle_numbers-numbers.ensures
    (omega (arith, lettered_length letter_t (g c.loop-i.i), lines_length (λ i. lettered letter_t (g i)) c.loop-i.i, lines_rise (λ i. lettered letter_t (g i)) (c.loop-i.i + 1) a.t (omega arith), c.loop-i.invariant.0, c.loop-i.invariant.1, c.requires.t_in_bounds_2))

pub loop-i-preserved : goal.loop-i-preserved
loop-i-preserved c =
    let a = c.args in
    let g = triangle_numbers a.triangles.now in
    let n = c.triangle_numbers-numbers.ensures in
    let old = c.loop-i.room in (
      c.write_lettered-at.auto.room ∙ c.loop-i.invariant.0,
      omega (arith, c.write_lettered-at.ensures.place, ap (λ n. length (lettered letter_t n)) n, lettered_length letter_t (g c.loop-i.i), lines_length (λ i. lettered letter_t (g i)) c.loop-i.i, c.loop-i.invariant.1),
      lines_written (λ i. lettered letter_t (g i)) a.room.now old c.write_lettered-at.new.room a.from c.loop-i.at c.loop-i.i c.loop-i.invariant.2 c.loop-i.invariant.1
          (c.write_lettered-at.ensures.text ∙ ap (λ n. sets old c.loop-i.at (lettered letter_t n)) n),
    )

pub shape_of-room : goal.shape_of-room
shape_of-room c = c.loop-i.invariant.0

pub returns : goal.returns
unfolding triangles_text lines_to
returns c =
    let a = c.args in
    let g = triangle_numbers a.triangles.now in
    let e : c.loop-i.i ≡ a.t = omega arith in record { place = c.loop-i.invariant.1 ∙ ap (λ k. a.from + length (lines_to (λ i. lettered letter_t (g i)) k)) e; text = c.loop-i.invariant.2 ∙ ap (λ k. sets a.room.now a.from (lines_to (λ i. lettered letter_t (g i)) k)) e }
