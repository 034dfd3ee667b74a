-- `sets::unite` meets its contract: the corners of the triangles passed are in one set, and nothing else is joined.
use Rattle.sets.proofs.Uniting.{Uniting}
use Rattle.sets.proofs.unite.Given as goal

abbrev pub invariant-loop-k : goal.invariant-loop-k
invariant-loop-k l = Uniting l.triangles l.initial.room l.room l.k
