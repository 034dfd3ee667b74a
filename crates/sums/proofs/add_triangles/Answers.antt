-- `sums::add_triangles` meets its contract: each point's sums are those after the triangles passed.
use mathlib.Core.Path.{refl, ap, sym, ◌∙◌}
use native.Mathlib.Omega.{arith}
use lib.ListN.{length}
use Rattle.mesh.specs.Mesh.{triangle_at}
use Rattle.mesh.proofs.Passed.{corners}
use Rattle.sums.specs.Sums.{add_triangle, sum_after}
use Rattle.sums.proofs.Summed.{sum_next}
use Rattle.sums.proofs.add_triangles.Goals as goal

pub loop-i-init : goal.loop-i-init
unfolding sum_after
loop-i-init c = λ x. refl

pub add_triangle-requires-clause-a_in_bounds : goal.add_triangle-requires-clause-a_in_bounds
add_triangle-requires-clause-a_in_bounds c =
    let l = c.loop-i in
    let n = corners c.args.triangles.now (length c.args.areas.now) l.i c.requires.areas_value c.loop-i-test.true in
    (omega (arith, n.first, l.auto.areas), omega (arith, n.second, l.auto.areas), omega (arith, n.third, l.auto.areas))

pub loop-i-preserved : goal.loop-i-preserved
loop-i-preserved c = λ x.
    let l = c.loop-i in
    let points = c.args.points.now in
    let triangles = c.args.triangles.now in
    c.add_triangle.ensures x ∙ ap (add_triangle points (triangle_at triangles l.i) x) (l.invariant x) ∙ sym (sum_next points triangles x l.i _)
