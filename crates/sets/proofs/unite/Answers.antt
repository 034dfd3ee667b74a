-- `sets::unite` meets its contract: the corners of the triangles passed are in one set, and nothing else is joined.
use mathlib.Core.Path.{ap, sym, ◌∙◌}
use native.Mathlib.Omega.{arith}
use Rattle.laws.specs.Values.{list_to}
use Rattle.mesh.specs.Mesh.{triangle_at}
use Rattle.mesh.proofs.Passed.{Corners, corners}
use Rattle.sets.proofs.Uniting.{uniting_none, uniting_more}
use Rattle.sets.proofs.unite.Goals as goal
use Rattle.sets.proofs.unite.Goals.{In-loop-k}

pub loop-k-init : goal.loop-k-init
loop-k-init c =
    uniting_none c.args.triangles.now c.alone.new.room c.alone.new.room (c.alone.ensures ∙ ap (λ n. list_to n (λ p. p)) (sym c.alone.auto.room))

-- the triangle's corners are points
named : (c : In-loop-k) → Corners c.args.v (triangle_at c.args.triangles.now c.loop-k.k)
named c = corners c.args.triangles.now c.args.v c.loop-k.k c.requires.v_value c.loop-k-test.true

pub join-requires-clause-a_in_bounds : goal.join-requires-clause-a_in_bounds
join-requires-clause-a_in_bounds c =
    let n = named (goal.at.join-requires-clause-a_in_bounds c).In-loop-k in
    (omega (arith, n.first), omega (arith, n.second))

pub join-requires-in-loop-k-clause-a_in_bounds : goal.join-requires-in-loop-k-clause-a_in_bounds
join-requires-in-loop-k-clause-a_in_bounds c =
    let n = named (goal.at.join-requires-in-loop-k-clause-a_in_bounds c).In-loop-k in
    (omega (arith, n.second), omega (arith, n.third))

pub loop-k-preserved : goal.loop-k-preserved
loop-k-preserved c =
    let l = c.loop-k in
    uniting_more c.args.triangles.now c.alone.new.room l.room c.join.new.room c.join-in-loop-k.new.room l.k c.loop-k-test.true l.invariant c.join.ensures c.join-in-loop-k.ensures
