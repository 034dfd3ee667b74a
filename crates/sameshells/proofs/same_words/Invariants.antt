-- `sameshells::same_words` meets its contract: the shells passed have the volumes that stand there.
use Rattle.volumes.specs.Volumes.{volume_read}
use Rattle.sameshells.specs.Same.{shells_at, SameVolumes}
use Rattle.sameshells.proofs.Compared.{Again}
use Rattle.sameshells.proofs.same_words.Given as goal

abbrev pub invariant-loop-n : goal.invariant-loop-n
invariant-loop-n l = Again l.input l.from l.shells l.n l.at × SameVolumes (shells_at l.input l.from l.shells) l.n (volume_read l.parts.points l.parts.triangles l.work)
