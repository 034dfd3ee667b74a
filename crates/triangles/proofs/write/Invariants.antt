-- `triangles::write` meets its contract. The loop's invariant: the layers passed are written.
use Rattle.laws.specs.Range.{join_to}
use Rattle.triangles.specs.Names.{layer_names}
use Rattle.triangles.specs.Walk.{Written}
use Rattle.triangles.proofs.write.Given as goal

abbrev pub invariant-loop-z : goal.invariant-loop-z
invariant-loop-z l =
    Written l.initial.triangles l.triangles 0 (join_to l.z (layer_names l.tables.offsets.now l.names l.sides l.masks)) l.to
