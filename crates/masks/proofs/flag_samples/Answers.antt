-- `masks::flag_samples` meets its contract. The samples passed are flagged.
use mathlib.Core.Path.{refl, sym}
use Prim.Native.Nat.{ℕ, ◌+◌}
use native.Mathlib.Omega.{arith}
use lib.Dec.{leb}
use lib.ListN.{get_or, length-set}
use Rattle.laws.specs.Range.{one_if}
use Rattle.laws.proofs.Runs.{run_none, run_more}
use Rattle.grid.specs.Grid.{is_above_grey}
use Rattle.masks.specs.Flags.{flags_from}
use Rattle.masks.proofs.flag_samples.Goals as goal

pub loop-i-init : goal.loop-i-init
unfolding flags_from
loop-i-init c = let a = c.args in (refl, omega arith, sym (run_none a.flags.now a.at _))

pub loop-i-preserved : goal.loop-i-preserved
unfolding flags_from is_above_grey
loop-i-preserved c =
    let a = c.args in
    let l = c.loop-i in
    let flag : ℕ → ℕ = λ i. one_if (leb a.grey (get_or a.samples.now (a.start + i) 0)) in (
      simp length-set l.invariant.0,
      omega arith,
      rw (l.invariant.2, c.above_flag.ensures) (run_more a.flags.now a.at l.i flag),
    )
