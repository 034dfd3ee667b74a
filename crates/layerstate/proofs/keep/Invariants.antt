-- `layerstate::keep` meets its contract. The samples passed are kept.
use mathlib.Core.Path.{◌≡◌}
use lib.ListN.{length, take}
use lib.Seq.{sets}
use Rattle.layerstate.specs.State.{kept_at}
use Rattle.layerstate.proofs.keep.Given as goal

abbrev pub invariant-loop-i : goal.invariant-loop-i
invariant-loop-i l = (length l.state ≡ length l.initial.state) × (l.state ≡ sets l.initial.state kept_at (take l.i l.layer))
