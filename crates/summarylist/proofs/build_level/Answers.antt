-- `summarylist::build_level` meets its contract. The loop's invariant: the list is as long as ever, the rows that were passed are written, and what stands behind the level is as it was.
--
use mathlib.Core.Path.{◌∙◌}
use native.Mathlib.Omega.{arith}
use Rattle.grid.specs.Work.{size}
use Rattle.summarylist.proofs.Starts.{is_side_lem, side_most, summary_long}
use Rattle.summarylist.proofs.Levels.{RowSmall, row_small, level_of_rows, fits_kept, rows_more, behind_kept}
use Rattle.summarylist.proofs.build_level.Goals as goal
use Rattle.summarylist.proofs.build_level.Goals.{In-loop-row}

-- what is known of the row of a turn
small : (c : In-loop-row) → RowSmall c.args.level c.requires.level c.loop-row.row
small c =
    row_small c.args.level c.requires.level c.loop-row.row c.loop-row-test.true

pub block_row-requires : goal.block_row-requires
block_row-requires c =
    let inv = c.loop-row.invariant in
    let a = c.args in record { level_fits = fits_kept a.nx a.ny a.nz a.level a.samples.now a.list.now c.loop-row.list inv.0 inv.2 c.requires; y_bound = ((small (goal.at.block_row-requires c).In-loop-row).in_y, (small (goal.at.block_row-requires c).In-loop-row).in_z) }

pub overflow_add-start : goal.overflow_add-start
overflow_add-start c =
    omega (arith, (small (goal.at.overflow_add-start c).In-loop-row).in_list, summary_long, c.level_start-start.ensures)

pub store-requires : goal.store-requires
store-requires c = record { many_le_most_side = omega (arith, is_side_lem c.args.level c.requires.level, side_most c.args.level c.requires.level); many_in_bounds = omega (arith, (small (goal.at.store-requires c).In-loop-row).in_list, c.requires.long, c.loop-row.invariant.0, c.level_start-start.ensures) }

pub loop-row-preserved : goal.loop-row-preserved
loop-row-preserved c =
    let a = c.args in
    let n = size a.nx a.ny a.nz in
    let inv = c.loop-row.invariant in
    let stored = rw c.level_start-start.ensures at c.store.ensures in
    let worked-out = rw (small (goal.at.loop-row-preserved c).In-loop-row).is_y at c.block_row.ensures in (
      c.store.auto.list ∙ inv.0,
      rows_more a.level c.requires.level n a.samples.now c.loop-row.list _ _ _ c.loop-row.row worked-out stored (omega (arith, (small (goal.at.loop-row-preserved c).In-loop-row).in_list, c.requires.long, inv.0)) inv.1,
      λ p lp. behind_kept a.level c.requires.level n a.samples.now c.loop-row.list _ _ _ c.loop-row.row worked-out stored c.loop-row-test.true p lp ∙ inv.2 p lp,
    )

pub returns : goal.returns
returns c =
    let a = c.args in
    let inv = c.loop-row.invariant in
    record {
      level = level_of_rows a.level c.requires.level (size a.nx a.ny a.nz) a.samples.now c.loop-row.list c.loop-row.row c.loop-row-test.false inv.1;
      behind = inv.2;
    }
