-- `neighbours::begin` meets its contract: begins below p, sizes from p on.
use mathlib.Core.Path.{ap, sym, ◌∙◌}
use Prim.Native.Nat.{ℕ, ◌+◌}
use native.Mathlib.Nat.{add_assoc}
use native.Mathlib.Omega.{arith}
use lib.ListN.{get_or}
use Rattle.laws.proofs.Ranges.{sum_next, sum_rises}
use Rattle.neighbours.proofs.Begun.{begun_first, begun_next}
use Rattle.neighbours.proofs.begin.Goals as goal

pub loop-p-init : goal.loop-p-init
loop-p-init c = begun_first c.args.v c.args.at c.args.work.now

pub overflow_add-sum : goal.overflow_add-sum
overflow_add-sum c =
    let a = c.args in
    let size : ℕ → ℕ = λ q. get_or a.work.now (a.at + q) 0 in
    omega (arith, c.requires.at_bound, c.requires.p_bound, c.loop-p.invariant.summed, c.loop-p.invariant.rest c.loop-p.p (omega arith), sum_next c.loop-p.p size, sum_rises (c.loop-p.p + 1) a.v size (omega arith))

pub loop-p-preserved : goal.loop-p-preserved
loop-p-preserved c =
    let a = c.args in
    begun_next a.v a.at a.work.now c.loop-p.p c.loop-p.sum c.loop-p.work c.requires.v_in_bounds (omega arith) c.loop-p.invariant

pub returns-clause-rest : goal.returns-clause-rest
returns-clause-rest c i =
    let a = c.args in
    ap (λ k. get_or c.loop-p.work k 0) (add_assoc a.at a.v i) ∙ c.loop-p.invariant.rest (a.v + i) (omega arith)
    ∙ ap (λ k. get_or a.work.now k 0) (sym (add_assoc a.at a.v i))
