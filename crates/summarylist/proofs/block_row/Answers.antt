-- `summarylist::block_row` meets its contract: the lowest level is of single cubes, another of blocks whose halves are a level below.
use Prim.Native.Nat.{◌<◌}
use native.Mathlib.Omega.{arith}
use Rattle.grid.specs.Limits.{halvings}
use Rattle.grid.specs.Work.{size}
use Rattle.summarylist.proofs.Halved.{halved_row}
use Rattle.summarylist.proofs.block_row.Goals as goal

pub returns-else-level-eq-HALVINGS : goal.returns-else-level-eq-HALVINGS
returns-else-level-eq-HALVINGS c =
    let a = c.args in
    let level : a.level < halvings = omega (arith, c.requires.level_fits.level, c.if-level-eq-HALVINGS.false) in
    halved_row (size a.nx a.ny a.nz) a.samples.now a.list.now _ _ a.level a.y a.z level c.requires.y_bound.0 c.requires.y_bound.1 (c.requires.level_fits.below level) c.half_row.ensures
