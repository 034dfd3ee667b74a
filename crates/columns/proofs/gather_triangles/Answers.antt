-- `columns::gather_triangles` meets its contract: the column of the triangles so far, then all of them.
use mathlib.Core.Path.{◌≡◌, refl, ap, ◌∙◌}
use native.Mathlib.Omega.{arith}
use Rattle.columns.proofs.Rooms.{shells_inside}
use Rattle.columns.proofs.Turns.{triangles_after, begun, triangles_begun, triangles_ended, triangle_turn, triangle_put}
use Rattle.columns.proofs.gather_triangles.Goals as goal

pub fill-requires : goal.fill-requires
fill-requires c =
    rw c.column_at.ensures (shells_inside c.args.shells c.args.parts.points c.args.parts.triangles c.args.work.now c.requires)

pub loop-k-init : goal.loop-k-init
loop-k-init c =
    let a = c.args in
    record {
      stands = begun a.shells a.parts.points a.parts.triangles a.work.now c.requires c.fill.new.work 0 (rw c.column_at.ensures at c.fill.ensures);
      put = triangles_begun a.shells a.parts.points a.parts.triangles a.work.now c.requires c.fill.new.work 0 (rw c.column_at.ensures at c.fill.ensures) refl;
    }

pub add_triangle-requires : goal.add_triangle-requires
add_triangle-requires c =
    let a = c.args in
    rw c.loop-k.invariant.put (triangle_turn a.shells a.parts.points a.parts.triangles c.fill.new.work c.loop-k.invariant.stands c.loop-k.k c.loop-k-test.true)

pub loop-k-preserved : goal.loop-k-preserved
loop-k-preserved c =
    let a = c.args in
    record {
      stands = c.loop-k.invariant.stands;
      put =
          triangle_put a.shells a.parts.points a.parts.triangles c.fill.new.work c.loop-k.invariant.stands c.loop-k.k c.loop-k-test.true
          c.loop-k.invariant.put c.add_triangle.ensures;
    }

pub returns : goal.returns
returns c =
    let a = c.args in
    let end : c.loop-k.k ≡ a.parts.triangles = omega arith in
    c.loop-k.invariant.put
    ∙ ap (triangles_after a.shells a.parts.points a.parts.triangles c.fill.new.work) end
    ∙ triangles_ended a.shells a.parts.points a.parts.triangles a.work.now c.requires c.fill.new.work 0 (rw c.column_at.ensures at c.fill.ensures) a.parts.triangles
