-- `meshform::pass_shells` meets its contract: the lines passed were read.
use Rattle.meshform.proofs.Last.{ShellsRead}
use Rattle.meshform.proofs.pass_shells.Given as goal

abbrev pub invariant-loop-n : goal.invariant-loop-n
invariant-loop-n l = ShellsRead l.input l.from l.first l.shells l.n l.at
