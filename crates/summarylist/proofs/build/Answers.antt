-- `summarylist::build` meets its contract. The loop's invariant: the list is as long as ever, and the levels that were passed are written.
use mathlib.Core.Path.{◌∙◌}
use native.Mathlib.Omega.{arith}
use Rattle.grid.specs.Work.{size}
use Rattle.summary.proofs.Places.{summary_is}
use Rattle.summarylist.proofs.From.{one_written}
use Rattle.summarylist.proofs.build.Goals as goal

pub loop-level-preserved : goal.loop-level-preserved
loop-level-preserved c =
    let a = c.args in (
      c.build_level.auto.list ∙ c.loop-level.invariant.0,
      one_written c.loop-level.level c.loop-level-test.true (size a.nx a.ny a.nz) a.samples.now c.loop-level.list _ c.loop-level.invariant.1 c.build_level.ensures,
    )

pub returns : goal.returns
returns c =
    let a = c.args in
    summary_is (size a.nx a.ny a.nz) a.samples.now c.loop-level.list (c.loop-level.invariant.0 ∙ c.requires.list_len) (λ k lk. c.loop-level.invariant.1 k (omega arith) lk)
