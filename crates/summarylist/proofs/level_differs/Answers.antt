-- `summarylist::level_differs` meets its contract. The loop's invariant: the rows that were passed are those of the samples' summary.
use mathlib.Core.Bool.{true≢false, false≢true}
use native.Mathlib.Omega.{arith}
use borrow.Author.Count.{below_more}
use Rattle.grid.specs.Work.{size}
use Rattle.summarylist.proofs.Starts.{is_side_lem, side_most, summary_long}
use Rattle.summarylist.proofs.Levels.{RowSmall, row_small, level_of_rows, row_of_level, row_same, row_apart}
use Rattle.summarylist.proofs.level_differs.Goals as goal
use Rattle.summarylist.proofs.level_differs.Goals.{In-loop-row}

-- what is known of the row of a turn
small : (c : In-loop-row) → RowSmall c.args.level c.requires.level c.loop-row.row
small c =
    row_small c.args.level c.requires.level c.loop-row.row c.loop-row-test.true

pub overflow_add-start : goal.overflow_add-start
overflow_add-start c =
    omega (arith, (small (goal.at.overflow_add-start c).In-loop-row).in_list, summary_long, c.level_start-start.ensures)

pub differs-requires : goal.differs-requires
differs-requires c = record { many_le_most_side = omega (arith, is_side_lem c.args.level c.requires.level, side_most c.args.level c.requires.level); many_in_bounds = omega (arith, (small (goal.at.differs-requires c).In-loop-row).in_list, c.requires.long, c.level_start-start.ensures) }

pub returns-then-differs : goal.returns-then-differs
returns-then-differs c =
    let a = c.args in
    let n = size a.nx a.ny a.nz in
    let worked-out = rw (small (goal.at.returns-then-differs c).In-loop-row).is_y at c.block_row.ensures in
    let told = rw c.level_start-start.ensures at c.differs.ensures in
    record {
      apart = λ e level.
          row_apart a.level c.requires.level n a.samples.now a.list.now _ _ c.loop-row.row worked-out told c.if-differs.true
          (row_of_level a.level c.requires.level n a.samples.now a.list.now level c.loop-row.row c.loop-row-test.true);
      same = λ e. absurd (true≢false e);
    }

pub loop-row-preserved : goal.loop-row-preserved
loop-row-preserved c =
    let a = c.args in
    let worked-out = rw (small (goal.at.loop-row-preserved c).In-loop-row).is_y at c.block_row.ensures in
    let told = rw c.level_start-start.ensures at c.differs.ensures in
    below_more _ c.loop-row.row c.loop-row.invariant
    (row_same a.level c.requires.level (size a.nx a.ny a.nz) a.samples.now a.list.now _ _ c.loop-row.row worked-out told c.if-differs.false)

pub returns : goal.returns
returns c =
    let a = c.args in
    record {
      apart = λ e. absurd (false≢true e);
      same = λ e. level_of_rows a.level c.requires.level (size a.nx a.ny a.nz) a.samples.now a.list.now c.loop-row.row c.loop-row-test.false c.loop-row.invariant;
    }
