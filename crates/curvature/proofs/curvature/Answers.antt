-- `curvature::curvature` meets its contract.
use mathlib.Core.Path.{◌≡◌, sym, ◌∙◌}
use Prim.Native.Nat.{ℕ, ◌<◌}
use native.Mathlib.Omega.{arith}
use lib.ListN.{length}
use Rattle.sums.specs.Sums.{start}
use Rattle.sums.specs.Rooms.{sum_at}
use Rattle.mesh.proofs.Passed.{passed}
use Rattle.curvature.proofs.Granted.{granted_rooms, sums_start, area_is, vector_is}
use Rattle.curvature.proofs.curvature.Goals as goal

pub add_triangles-requires : goal.add_triangles-requires
add_triangles-requires c =
    let a = c.args in
    let ok = passed a.mesh.points.now a.mesh.triangles.now a.mesh.marks.now (sym c.in_ok-check.ensures) in
    let one = c.clear.auto.room in
    let two = c.clear-2.auto.room in
    let areas-fit = c.if-areas-mesh.false in
    let vectors_fit = c.if-vectors-mesh.false in
    let v = one ∙ areas-fit in record {
      rooms_fit = record {
        points_fit = omega (arith, ok.threes, v);
        vectors_fit = omega (arith, two, vectors_fit, v);
        coordinates_fit = ok.coordinates_fit;
      };
      areas_value = rw v ok.corners_fit;
    }

pub returns : goal.returns
returns c =
    let a = c.args in
    let points = c.args.mesh.points.now in
    let triangles = c.args.mesh.triangles.now in
    let marks = c.args.mesh.marks.now in
    let pass = sym c.in_ok-check.ensures in
    let la = c.if-areas-mesh.false in
    let lv = c.if-vectors-mesh.false in
    let one = c.clear in
    let two = c.clear-2 in
    let added = c.add_triangles in
    let done = c.finish in
    let zero : (x : ℕ) → x < length marks → sum_at one.new.room two.new.room x ≡ start =
    λ x h. sums_start one.new.room two.new.room (length marks) x (λ k l. one.ensures k (omega (arith, l, la))) (λ k l. two.ensures k (omega (arith, l, lv))) h in
    granted_rooms points triangles marks a.areas.now a.vectors.now pass la lv added.new.areas done.new.vectors
    (added.auto.areas ∙ one.auto.room ∙ la)
    (done.auto.vectors ∙ added.auto.vectors ∙ two.auto.room ∙ lv)
    (λ x h. area_is points triangles marks one.new.room two.new.room added.new.areas added.new.vectors x (added.ensures x) (zero x h))
    (λ x h. vector_is points triangles marks one.new.room two.new.room added.new.areas added.new.vectors x (added.ensures x) (zero x h) (done.ensures x h))
