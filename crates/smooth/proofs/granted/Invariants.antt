-- `smooth::granted` meets its contract: the places after the rounds that were passed.
use mathlib.Core.Path.{◌≡◌}
use Prim.Native.Nat.{◌*◌}
use lib.ListN.{length}
use Rattle.mesh.specs.Mesh.{triangles_of}
use Rattle.neighbours.specs.Lists.{Listed}
use Rattle.rounds.specs.Round.{rounds as roundsOf}
use Rattle.smooth.proofs.granted.Given as goal

abbrev pub invariant-loop : goal.invariant-loop
invariant-loop l = record {
  moved : l.smoothed ≡ roundsOf (triangles_of l.mesh.triangles.now) l.mesh.marks.now l.weight l.counter l.mesh.points.now;
  listed : Listed l.mesh.triangles.now (length l.mesh.marks.now) (2 * length l.mesh.triangles.now) l.work;
}
