-- `summarylist::build_level` meets its contract. The loop's invariant: the list is as long as ever, the rows that were passed are written, and what stands behind the level is as it was.
--
use mathlib.Core.Path.{◌≡◌}
use Prim.Native.Nat.{ℕ, ◌+◌, ◌≤◌}
use lib.ListN.{length, get_or}
use Rattle.grid.specs.Work.{size}
use Rattle.summary.specs.Blocks.{level_start}
use Rattle.summarylist.proofs.Levels.{RowsTo}
use Rattle.summarylist.proofs.build_level.Given as goal

abbrev pub invariant-loop-row : goal.invariant-loop-row
invariant-loop-row l =
    (length l.list ≡ length l.initial.list) × RowsTo (size l.nx l.ny l.nz) l.samples l.list l.level l.row × ((p : ℕ) → level_start (l.level + 1) ≤ p → get_or l.list p 0 ≡ get_or l.initial.list p 0)
