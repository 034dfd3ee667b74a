-- `summarylist::is_summary` meets its contract. The loop's invariant: the levels that were passed are those of the samples' summary.
use mathlib.Core.Path.{ap, sym, ◌∙◌}
use Prim.Native.Nat.{◌-◌}
use native.Mathlib.Omega.{arith}
use lib.ListN.{length}
use Rattle.grid.specs.Work.{size}
use Rattle.summary.proofs.Places.{length_summary, levels_there, summary_is, is_summary_lem, is_no_summary}
use Rattle.summarylist.proofs.Starts.{summary_long}
use Rattle.summarylist.proofs.From.{fits_above, one_more}
use Rattle.summarylist.proofs.is_summary.Goals as goal

pub returns-then-list-ne-SUMMARY : goal.returns-then-list-ne-SUMMARY
returns-then-list-ne-SUMMARY c =
    let a = c.args in
    let n = size a.nx a.ny a.nz in
    sym (is_no_summary n a.samples.now a.list.now (λ e. c.if-list-ne-SUMMARY.true (ap length e ∙ length_summary n a.samples.now ∙ summary_long)))

pub level_differs-requires : goal.level_differs-requires
level_differs-requires c =
    let a = c.args in
    fits_above c.loop-tested.tested c.loop-tested-test.true a.nx a.ny a.nz a.samples.now a.list.now c.requires.sides_fit c.requires.samples_len (c.if-list-ne-SUMMARY.false ∙ sym summary_long) (omega arith) c.loop-tested.invariant

pub returns-then-level_differs : goal.returns-then-level_differs
returns-then-level_differs c =
    let a = c.args in
    let n = size a.nx a.ny a.nz in
    let k = c.loop-tested.tested - 1 in
    sym (is_no_summary n a.samples.now a.list.now (λ e.
    c.level_differs.ensures.apart c.if-level_differs.true (rw e (levels_there n a.samples.now k (omega arith)))))

pub loop-tested-preserved : goal.loop-tested-preserved
loop-tested-preserved c =
    let a = c.args in
    (one_more c.loop-tested.tested c.loop-tested-test.true (size a.nx a.ny a.nz) a.samples.now a.list.now c.loop-tested.invariant (c.level_differs.ensures.same c.if-level_differs.false))

pub returns : goal.returns
returns c =
    let a = c.args in
    let n = size a.nx a.ny a.nz in
    let whole = summary_is n a.samples.now a.list.now (c.if-list-ne-SUMMARY.false ∙ sym summary_long) (λ k lk. c.loop-tested.invariant k (omega arith) lk) in
    sym (is_summary_lem n a.samples.now a.list.now whole)
