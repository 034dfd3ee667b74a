-- `filling::fill_points` meets its contract: the lines passed were read again, and their numbers stand in the rooms.
use Prim.Native.Nat.{◌≤◌}
use native.Mathlib.Omega.{arith}
use lib.ListN.{get_or}
use Rattle.meshread.specs.Lines.{edge_of}
use Rattle.judge.specs.Judged.{edges_at, marks_on}
use Rattle.laws.proofs.Rooms.{front_none, front_more, front_all}
use Rattle.filling.proofs.Again.{again_begin, again_end, again_inside, again_some, again_at, again_next}
use Rattle.filling.proofs.fill_points.Goals as goal

pub loop-i-init : goal.loop-i-init
loop-i-init c =
    let a = c.args in
    (again_begin a.input.now a.from a.v c.requires.points_there.0, front_none (edges_at a.input.now a.from a.v) a.edges.now, front_none (marks_on a.input.now a.from a.v) a.marks.now)

pub unwrap-next-requires : goal.unwrap-next-requires
unwrap-next-requires c =
    let a = c.args in
    again_some a.input.now a.from a.v c.loop-i.i c.loop-i.at c.loop-i.bound c.loop-i.invariant.0 (omega arith) _ c.read_point.ensures.line

pub overflow_cast-marks : goal.overflow_cast-marks
overflow_cast-marks c =
    let a = c.args in
    let x = c.unwrap-next.result in
    let is = again_at a.input.now a.from a.v c.loop-i.i c.loop-i.at c.loop-i.bound c.loop-i.invariant.0 (omega arith) x.0 x.1 (rw c.unwrap-next.ensures at c.read_point.ensures.line) (λ row. get_or row 4 0) in
    let small : get_or x.0 4 0 ≤ 1 = rw is (c.requires.points_there.1 c.loop-i.i (omega arith)) in
    omega (arith, small)

pub loop-i-preserved : goal.loop-i-preserved
loop-i-preserved c =
    let a = c.args in
    let x = c.unwrap-next.result in
    let h = rw c.unwrap-next.ensures at c.read_point.ensures.line in
    let is = again_at a.input.now a.from a.v c.loop-i.i c.loop-i.at c.loop-i.bound c.loop-i.invariant.0 (omega arith) x.0 x.1 h in
    let inside = again_inside a.input.now a.from a.v c.loop-i.i c.loop-i.at c.loop-i.bound c.loop-i.invariant.0 (omega arith) in (
      again_next a.input.now a.from a.v c.loop-i.i c.loop-i.at c.loop-i.bound c.loop-i.invariant.0 (omega arith) x.0 x.1 h,
      front_more (edges_at a.input.now a.from a.v) a.edges.now 0 c.loop-i.i c.loop-i.invariant.1 (is edge_of) (inside edge_of) (omega (arith, c.requires.v_le_most_points.1)),
      front_more (marks_on a.input.now a.from a.v) a.marks.now 0 c.loop-i.i c.loop-i.invariant.2 (is (λ row. get_or row 4 0)) (inside (λ row. get_or row 4 0)) (omega (arith, c.requires.v_le_most_points.2)),
    )

pub returns : goal.returns
returns c =
    let a = c.args in
    let end = again_end a.input.now a.from a.v c.loop-i.i c.loop-i.at c.loop-i.bound c.loop-i.invariant.0 (omega arith) in record { edges = front_all (edges_at a.input.now a.from a.v) a.edges.now c.loop-i.i c.loop-i.invariant.1 (end edge_of); marks = front_all (marks_on a.input.now a.from a.v) a.marks.now c.loop-i.i c.loop-i.invariant.2 (end (λ row. get_or row 4 0)) }
