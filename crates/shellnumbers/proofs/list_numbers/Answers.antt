-- `shellnumbers::list_numbers` meets its contract: each way out leaves what it must.
use native.Mathlib.Omega.{arith}
use lib.ListN.{length}
use Rattle.shellnumbers.proofs.Sound.{Passed}
use Rattle.shellnumbers.proofs.Listing.{passes, ends_crowded, ends_granted}
use Rattle.shellnumbers.proofs.list_numbers.Goals as goal
use Rattle.shellnumbers.proofs.list_numbers.Goals.{In_ok-check}

-- the mesh passed, and the rooms fit it
ok : (c : In_ok-check) → let g = c.args in Passed g.mesh.points.now g.mesh.triangles.now g.mesh.marks.now (length g.numbers.now) (length g.work.now)
ok c = let g = c.args in passes g.mesh.points.now g.mesh.triangles.now g.mesh.marks.now g.numbers.now g.work.now g.records c.in_ok-check.ensures

pub unite-requires : goal.unite-requires
unite-requires c =
    let h = ok (goal.at.unite-requires c).In_ok-check in
    record { room_len_bound = omega (arith, h.work_long, h.mesh.few); v_in_bounds = omega (arith, h.work_long); v_value = h.mesh.corners_fit }

pub count-shells-requires : goal.count-shells-requires
count-shells-requires c =
    let h = ok (goal.at.count-shells-requires c).In_ok-check in
    omega (arith, c.unite.ensures.long, h.work_long)

pub returns-then-records-shells : goal.returns-then-records-shells
returns-then-records-shells c =
    let g = c.args in
    ends_crowded g.mesh.points.now g.mesh.triangles.now g.mesh.marks.now g.numbers.now g.work.now g.records c.in_ok-check.ensures
    c.unite.new.room _ c.unite.ensures c.count-shells.result c.count-shells.ensures c.clear.ensures c.if-records-shells.true

pub number-requires : goal.number-requires
number-requires c =
    let h = ok (goal.at.number-requires c).In_ok-check in
    record { falling = c.unite.ensures.falls; numbers_in_bounds = omega (arith, c.unite.ensures.long, h.work_long, h.numbers_long); numbers_len_bound = omega (arith, h.numbers_long, h.mesh.few) }

pub returns : goal.returns
returns c =
    let g = c.args in
    ends_granted g.mesh.points.now g.mesh.triangles.now g.mesh.marks.now g.numbers.now g.work.now g.records c.in_ok-check.ensures
    c.unite.new.room _ c.unite.ensures c.count-shells.result c.count-shells.ensures c.clear-2.ensures _ c.number.ensures c.if-records-shells.false
