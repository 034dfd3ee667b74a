-- `root::whole_root` meets its contract: each turn finds one digit.
use Rattle.root.proofs.Digit.{Found}
use Rattle.root.proofs.whole_root.Given as goal

abbrev pub invariant-loop-place : goal.invariant-loop-place
invariant-loop-place l = Found l.m l.square l.doubled l.place

abbrev pub decreases-loop-place : goal.decreases-loop-place
decreases-loop-place l = l.place
