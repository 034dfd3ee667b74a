-- `summarylist::half_row` meets its contract: the columns of the four rows of halves are put together two by two.
use mathlib.Core.Path.{ap, ◌∙◌}
use Prim.Native.Nat.{◌+◌, ◌≤◌, min, max}
use native.Mathlib.Nat.{add-zero}
use native.Mathlib.Omega.{arith}
use lib.ListN.{get_or}
use Rattle.laws.specs.Least.{gathered}
use Rattle.summary.specs.Blocks.{eight, half, level_start, place_of}
use Rattle.summarylist.proofs.Eight.{for_least, for_greatest}
use Rattle.summarylist.proofs.Starts.{side_of, summary_long}
use Rattle.summarylist.proofs.Halved.{back_of, up_of, first_of, halves_most, halves_end, halves_row}
use Rattle.summarylist.proofs.half_row.Goals as goal
use Rattle.summarylist.proofs.half_row.Goals.{Start}

-- the last of the four rows of halves is in the list
rows_end : (c : Start) → let a = c.args in
    let side = side_of a.level in
    first_of (level_start (a.level + 1)) side a.y a.z + up_of side + back_of side + back_of side ≤ 599186
rows_end c = let a = c.args in rw summary_long at (halves_end a.level c.requires.level_lt_halvings a.y a.z c.requires.y_bound.0 c.requires.y_bound.1)

pub overflow_add-first-2 : goal.overflow_add-first-2
overflow_add-first-2 c = omega (arith, rows_end (goal.at.overflow_add-first-2 c).Start)

pub columns-requires : goal.columns-requires
columns-requires c = record { many_bound = omega (arith, halves_most c.args.level c.requires.level_lt_halvings); many_in_bounds = omega (arith, rows_end (goal.at.columns-requires c).Start, c.level_start.ensures, c.requires.list_len, summary_long) }

pub halves-requires : goal.halves-requires
halves-requires c = halves_most c.args.level c.requires.level_lt_halvings

pub returns : goal.returns
returns c =
    let a = c.args in
    let first = c.level_start.ensures in
    record {
      leasts = λ x lx.
          halves_row a.level c.requires.level_lt_halvings a.y a.z min for_least a.list.now a.low.now a.least.now x 0 lx (omega arith) (rw first at c.columns.ensures.low) c.halves.ensures.least
          ∙ ap (λ f. gathered min (half f x a.y a.z) eight) (λ i p q r. get_or a.list.now (add-zero (place_of (a.level + 1) p q r) i) 0);
      greatests = λ x lx.
          halves_row a.level c.requires.level_lt_halvings a.y a.z max for_greatest a.list.now a.high.now a.greatest.now x 1 lx (omega arith) (rw first at c.columns.ensures.high) c.halves.ensures.greatest;
    }
