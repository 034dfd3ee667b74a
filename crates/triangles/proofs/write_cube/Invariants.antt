-- `triangles::write_cube` meets its contract. The loop's invariant: the room holds what is written for the triangles passed.
use mathlib.Core.Path.{◌≡◌}
use Prim.Native.Nat.{◌*◌}
use lib.ListN.{take}
use lib.Seq.{sets}
use Rattle.triangles.specs.Names.{cube_names}
use Rattle.triangles.proofs.write_cube.Given as goal

abbrev pub invariant-loop-k : goal.invariant-loop-k
invariant-loop-k l = l.triangles ≡ sets l.initial.triangles l.at (take (3 * l.k) (cube_names l.tables.offsets.now l.names l.edge l.case))
