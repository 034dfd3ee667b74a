-- `filling::fill_lists` meets its contract: the mesh from the work room and from the lines of the points stands in the rooms.
use Prim.Native.Nat.{◌*◌}
use native.Mathlib.Omega.{arith}
use lib.Seq.{length-take-le}
use Rattle.laws.proofs.Parts.{front_back}
use Rattle.columns.specs.Room.{triangles_at}
use Rattle.filling.proofs.fill_lists.Goals as goal

pub copy-requires : goal.copy-requires
copy-requires c =
    omega (arith, length-take-le (3 * c.args.judged.counts.points) c.args.points.now c.requires.points_hold, c.requires.whole)

pub copy-requires-2 : goal.copy-requires-2
copy-requires-2 c =
    omega (arith, length-take-le (3 * c.args.judged.counts.triangles) c.args.triangles.now c.requires.triangles_hold, c.requires.whole, c.triangles_at.ensures)

pub returns : goal.returns
returns c =
    let a = c.args in
    let q = c.requires in
    let v = a.judged.counts.points in
    let t = a.judged.counts.triangles in
    record {
      points_are = front_back a.work.now a.points.now c.copy.new.written 0 (3 * v) q.points_hold (omega (arith, q.whole)) c.copy.ensures;
      edges_are = c.fill_points.ensures.edges;
      marks_are = c.fill_points.ensures.marks;
      triangles_are = front_back a.work.now a.triangles.now c.copy-2.new.written (triangles_at v) (3 * t) q.triangles_hold (omega (arith, q.whole)) (rw (c.triangles_at.ensures) at c.copy-2.ensures);
      zeroed = c.fill.ensures.after (λ y e. e);
    }
