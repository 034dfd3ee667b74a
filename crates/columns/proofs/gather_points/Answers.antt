-- `columns::gather_points` meets its contract: the column of the points so far, then all of them.
use mathlib.Core.Path.{◌≡◌, ap, ◌∙◌}
use native.Mathlib.Omega.{arith}
use Rattle.columns.specs.Columns.{start_by, kind_of}
use Rattle.columns.proofs.Rooms.{shells_inside}
use Rattle.columns.proofs.Turns.{points_after, begun, points_begun, points_ended, point_turn, point_put}
use Rattle.columns.proofs.gather_points.Goals as goal

pub fill-requires : goal.fill-requires
fill-requires c =
    rw c.column_at.ensures (shells_inside c.args.shells c.args.parts.points c.args.parts.triangles c.args.work.now c.requires)

pub loop-i-init : goal.loop-i-init
loop-i-init c =
    let a = c.args in
    let x = c.start.result in
    record {
      stands = begun a.shells a.parts.points a.parts.triangles a.work.now c.requires c.fill.new.work x (rw c.column_at.ensures at c.fill.ensures);
      is_way = c.way-way.ensures;
      put = points_begun a.shells a.parts.points a.parts.triangles a.work.now c.requires c.fill.new.work x (rw c.column_at.ensures at c.fill.ensures) (kind_of a.field) (c.start.ensures ∙ ap start_by c.way-way.ensures);
    }

pub add_point-requires : goal.add_point-requires
add_point-requires c =
    let a = c.args in
    rw (c.loop-i.invariant.is_way, c.loop-i.invariant.put) (point_turn a.shells a.parts.points a.parts.triangles c.fill.new.work c.loop-i.invariant.stands (kind_of a.field) c.loop-i.i c.loop-i-test.true)

pub loop-i-preserved : goal.loop-i-preserved
loop-i-preserved c =
    let a = c.args in
    record {
      stands = c.loop-i.invariant.stands;
      is_way = c.loop-i.invariant.is_way;
      put =
          point_put a.shells a.parts.points a.parts.triangles c.fill.new.work c.loop-i.invariant.stands (kind_of a.field) c.loop-i.i c.loop-i-test.true
          c.loop-i.invariant.is_way c.loop-i.invariant.put c.add_point.ensures;
    }

pub returns : goal.returns
returns c =
    let a = c.args in
    let end : c.loop-i.i ≡ a.parts.points = omega arith in
    c.loop-i.invariant.put
    ∙ ap (points_after a.shells a.parts.points a.parts.triangles c.fill.new.work (kind_of a.field)) end
    ∙ points_ended a.shells a.parts.points a.parts.triangles a.work.now c.requires c.fill.new.work c.start.result (rw c.column_at.ensures at c.fill.ensures) (kind_of a.field) a.parts.points
