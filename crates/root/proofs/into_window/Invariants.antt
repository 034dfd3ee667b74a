-- `root::into_window` meets its contract: each turn takes a step or leaves it.
use Rattle.root.proofs.Steps.{Reaches}
use Rattle.root.proofs.into_window.Given as goal

abbrev pub invariant-loop-step : goal.invariant-loop-step
invariant-loop-step l = Reaches l.n l.scale l.number l.step

abbrev pub decreases-loop-step : goal.decreases-loop-step
decreases-loop-step l = l.step
