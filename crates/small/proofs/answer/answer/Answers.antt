-- `small::answer::answer` meets its contract: a refusal is written as its line, and the grid of any other input as its mesh.
use mathlib.Core.Path.{sym, ap₂, ◌∙◌}
use Prim.Native.Nat.{◌≤◌}
use native.Mathlib.Omega.{arith}
use lib.ListN.{length}
use lib.Seq.{length-take-le}
use Rattle.grid.specs.Limits.{most_small}
use Rattle.writing.specs.Writing.{refusal_text}
use Rattle.gridtext.specs.Grid.{samples_of}
use Rattle.writing.proofs.Fields.{written_read}
use Rattle.small.proofs.Read.{refusal_answers, samples_few, rows_read, grid_small, grid_answers}
use Rattle.small.proofs.answer.answer.Goals as goal
use Rattle.small.proofs.answer.answer.Goals.{In-Ok}

-- where the input is read as a grid the samples are few, and in the front of their room
module _ (c : In-Ok) where
  small : samples_of c.in-Ok.head ≤ most_small
  small = samples_few _ _ _ c.in-Ok.ensures

  samples_hold : samples_of c.in-Ok.head ≤ length c.read_grid.new.samples
  samples_hold = omega (arith, small, c.read_grid.auto.samples)

pub overflow_mul-n : goal.overflow_mul-n
overflow_mul-n c = omega (arith, rows_read _ _ _ c.in-Ok.ensures)

pub overflow_mul-n-in-Ok : goal.overflow_mul-n-in-Ok
overflow_mul-n-in-Ok c = omega (arith, small (goal.at.overflow_mul-n-in-Ok c).In-Ok)

pub overflow_cast-n : goal.overflow_cast-n
overflow_cast-n c = omega (arith, small (goal.at.overflow_cast-n c).In-Ok)

pub slice_bounds-samples-end : goal.slice_bounds-samples-end
slice_bounds-samples-end c = samples_hold (goal.at.slice_bounds-samples-end c).In-Ok

pub slice_bounds-write_grid-end : goal.slice_bounds-write_grid-end
slice_bounds-write_grid-end c = sym (length-take-le _ _ (samples_hold (goal.at.slice_bounds-write_grid-end c).In-Ok))

pub write_grid-requires : goal.write_grid-requires
write_grid-requires c = (grid_small _ _ _ c.in-Ok.ensures, c.requires)

pub returns-in-Ok : goal.returns-in-Ok
returns-in-Ok c = record { inside = c.write_grid.ensures.inside; text = grid_answers _ _ _ c.in-Ok.ensures _ c.write_grid.ensures.text }

pub returns-in-Err : goal.returns-in-Err
returns-in-Err c =
    let w = c.write_refusal-written in
    let r = written_read (refusal_text _ _) _ _ _ _ (w.ensures.holds (omega (arith, c.requires))) w.ensures.text in
    rw c.unwrap_or.ensures
    (record { inside = r.0; text = refusal_answers _ c.in-Err.refusal _ c.in-Err.ensures _ (r.1 ∙ ap₂ refusal_text c.number.ensures (omega (arith, c.grid_line.ensures))) })
