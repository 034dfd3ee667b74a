-- `layerstate::keep` meets its contract. The samples passed are kept.
use native.Mathlib.Omega.{arith}
use lib.ListN.{length-set}
use Rattle.laws.proofs.Writes.{sets_next}
use Rattle.layerstate.specs.State.{kept_at}
use Rattle.layerstate.proofs.keep.Goals as goal

pub loop-i-preserved : goal.loop-i-preserved
loop-i-preserved c =
    let l = c.loop-i in
    let a = c.args in (
      simp length-set l.invariant.0,
      rw l.invariant.1 (sets_next a.state.now kept_at a.layer.now l.i 0 (omega arith)),
    )
