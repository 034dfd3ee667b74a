-- `masks::flag_kept` meets its contract. The kept samples passed are flagged.
use mathlib.Core.Path.{refl, sym}
use mathlib.Core.List.{map}
use Prim.Native.Nat.{ℕ, ◌+◌}
use native.Mathlib.Omega.{arith}
use lib.Dec.{leb}
use lib.ListN.{get_or, length-set}
use Rattle.laws.specs.Range.{one_if}
use Rattle.laws.proofs.Lists.{map_at}
use Rattle.laws.proofs.Values.{laid_none, laid_more}
use Rattle.grid.specs.Grid.{is_above_grey}
use Rattle.grid.specs.Work.{sample_of}
use Rattle.masks.specs.Flags.{flags_from}
use Rattle.masks.proofs.flag_kept.Goals as goal

pub loop-i-init : goal.loop-i-init
unfolding flags_from
loop-i-init c = (refl, omega arith, sym (laid_none _ c.args.flags.now))

pub loop-i-preserved : goal.loop-i-preserved
unfolding flags_from is_above_grey
loop-i-preserved c =
    let a = c.args in
    let l = c.loop-i in
    let samples = map sample_of a.kept.now in
    let flag : ℕ → ℕ = λ i. one_if (leb a.grey (get_or samples (a.start + i) 0)) in
    let here = map_at sample_of a.kept.now (a.start + l.i) 0 0 (omega (arith, c.requires.many_in_bounds)) in (
      simp length-set l.invariant.0,
      omega arith,
      rw (l.invariant.2, c.kept_flag.ensures, ← here) (laid_more l.i flag a.flags.now (omega (arith, l.invariant.0))),
    )
