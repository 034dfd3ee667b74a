-- `volumes::gather_volumes` meets its contract: the volumes from the triangles so far, then from all of them.
use mathlib.Core.Path.{◌≡◌, ap, ◌∙◌}
use native.Mathlib.Omega.{arith}
use Rattle.columns.proofs.Rooms.{few_shells}
use Rattle.volumes.proofs.Volumes.{volumes_after, volume_turn, volume_put, begun, volumes_begun, volumes_ended, volumes_all}
use Rattle.volumes.proofs.gather_volumes.Goals as goal

pub start-requires : goal.start-requires
start-requires c =
    (few_shells c.args.shells c.args.parts.points c.args.parts.triangles c.args.work.now c.requires, c.requires.whole)

pub loop-k-init : goal.loop-k-init
loop-k-init c =
    let a = c.args in
    record {
      stands = begun a.shells a.parts.points a.parts.triangles a.work.now c.requires c.start.new.work c.start.ensures;
      put = volumes_begun a.shells a.parts.points a.parts.triangles a.work.now c.requires c.start.new.work c.start.ensures;
    }

pub add_triangle-requires : goal.add_triangle-requires
add_triangle-requires c =
    let a = c.args in
    rw c.loop-k.invariant.put (volume_turn a.shells a.parts.points a.parts.triangles c.start.new.work c.loop-k.invariant.stands c.loop-k.k c.loop-k-test.true)

pub loop-k-preserved : goal.loop-k-preserved
loop-k-preserved c =
    let a = c.args in
    record {
      stands = c.loop-k.invariant.stands;
      put =
          volume_put a.shells a.parts.points a.parts.triangles c.start.new.work c.loop-k.invariant.stands c.loop-k.k c.loop-k-test.true
          c.loop-k.invariant.put c.add_triangle.ensures;
    }

pub returns : goal.returns
returns c =
    let a = c.args in
    let end : c.loop-k.k ≡ a.parts.triangles = omega arith in
    c.loop-k.invariant.put
    ∙ ap (volumes_after a.shells a.parts.points a.parts.triangles c.start.new.work) end
    ∙ volumes_ended a.shells a.parts.points a.parts.triangles a.work.now c.requires c.start.new.work c.start.ensures a.parts.triangles
    ∙ volumes_all a.shells a.parts.points a.parts.triangles a.work.now c.requires
