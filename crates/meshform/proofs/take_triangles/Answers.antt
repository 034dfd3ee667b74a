-- `meshform::take_triangles` meets its contract: the lines passed were read, and their numbers stand in the room.
use Prim.Native.Nat.{◌+◌}
use native.Mathlib.Omega.{arith}
use Rattle.meshform.proofs.Lines.{triangles_begin, triangles_stop, triangles_next, triangles_done}
use Rattle.meshform.proofs.take_triangles.Goals as goal

pub loop-k-init : goal.loop-k-init
loop-k-init c = let a = c.args in triangles_begin a.input.now a.from a.parts.triangles (2 + a.parts.points) _ a.work.now

pub returns-in_default : goal.returns-in_default
returns-in_default c =
    let a = c.args in
    triangles_stop a.input.now a.from a.parts.triangles (2 + a.parts.points) _ a.work.now c.loop-k.work c.loop-k.k c.loop-k.at c.loop-k.invariant (omega arith) c.in_default.ensures

pub loop-k-preserved : goal.loop-k-preserved
loop-k-preserved c =
    let a = c.args in
    triangles_next a.input.now a.from a.parts.triangles (2 + a.parts.points) _ a.work.now c.loop-k.work c.loop-k.k c.loop-k.at c.loop-k.invariant (omega arith) _ c.take_triangle.new.work c.in-Some.ensures

pub returns : goal.returns
returns c =
    let a = c.args in
    rw c.triangles_at-base.ensures at (triangles_done a.input.now a.from a.parts.triangles (2 + a.parts.points) _ a.work.now c.loop-k.work c.loop-k.k c.loop-k.at c.loop-k.invariant (omega arith))
