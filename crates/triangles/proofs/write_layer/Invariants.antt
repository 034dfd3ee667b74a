-- `triangles::write_layer` meets its contract. The loop's invariant: the cubes before a stretch are written.
use Prim.Native.Nat.{◌-◌}
use lib.ListN.{length}
use Rattle.rows.specs.Rows.{Stands, first_x}
use Rattle.cuberows.proofs.Layers.{Within}
use Rattle.triangles.specs.Walk.{Written}
use Rattle.triangles.proofs.Layers.{named_to}
use Rattle.triangles.proofs.write_layer.Given as goal

abbrev pub invariant-loop-at : goal.invariant-loop-at
invariant-loop-at l =
    Stands l.sides l.z l.at × Within l.sides (first_x l.sides l.at) l.at.y × Written l.initial.triangles l.triangles l.from (named_to l.tables.offsets.now l.names l.sides l.masks l.z (first_x l.sides l.at) l.at.y) l.to

abbrev pub decreases-loop-at : goal.decreases-loop-at
decreases-loop-at l = length l.masks - l.at.word
