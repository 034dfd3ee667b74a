-- `triangles::write_cube` meets its contract. The loop's invariant: whole triangles are passed, and the room holds what is written for them.
use mathlib.Core.Path.{◌≡◌, ap, ◌∙◌}
use Prim.Native.Nat.{ℕ, ◌+◌, ◌*◌, ◌<◌}
use native.Mathlib.Omega.{arith}
use lib.ListN.{get_or, take}
use lib.Seq.{sets, take_all}
use Rattle.laws.proofs.Writes.{sets_three}
use Rattle.cube.specs.Answer.{case_length, count}
use Rattle.triangles.specs.Names.{corner_name, cube_names}
use Rattle.triangles.specs.Walk.{CornerFits}
use Rattle.triangles.proofs.Names.{length_cube, corner_fits, corner_is}
use Rattle.triangles.proofs.write_cube.Goals as goal
use Rattle.triangles.proofs.write_cube.Goals.{At-loop-k, In-loop-k, Start}

-- in a turn: a whole triangle is left, and what is read and written for each of its corners

abbrev j : In-loop-k → ℕ
j c = 3 * c.loop-k.k

turn : (c : In-loop-k) → j c + 2 < 3 * count c.args.case
turn c = omega (arith, c.requires.cube_room.corners, c)

module _ (c : In-loop-k) (p place : ℕ) (l : p < j c + 3) (at : place ≡ case_length * c.args.case + p) where
  corner_there : let a = c.args in CornerFits a.tables.rows.now a.tables.offsets.now a.names.now place a.edge
  corner_there =
      corner_fits _ _ _ c.args.case _ c.requires.read.rows p place c.requires.cube_room.small (omega (arith, turn c)) at c.requires.cube_room.named

  corner_here : {name : ℕ}
      → let a = c.args in
      name ≡ corner_name a.tables.offsets.now a.names.now a.edge (get_or a.tables.rows.now place 0)
      → name ≡ get_or (cube_names a.tables.offsets.now a.names.now a.edge a.case) p 0
  corner_here e =
      corner_is _ _ _ c.args.case _ c.requires.read.rows p place c.requires.cube_room.small (omega (arith, turn c)) at e

pub corner-a-requires : goal.corner-a-requires
corner-a-requires c = corner_there (goal.at.corner-a-requires c).In-loop-k (j (goal.at.corner-a-requires c).In-loop-k) _ (omega arith) (omega arith)

pub corner-b-requires : goal.corner-b-requires
corner-b-requires c = corner_there (goal.at.corner-b-requires c).In-loop-k (j (goal.at.corner-b-requires c).In-loop-k + 1) _ (omega arith) (omega arith)

pub corner-c-requires : goal.corner-c-requires
corner-c-requires c = corner_there (goal.at.corner-c-requires c).In-loop-k (j (goal.at.corner-c-requires c).In-loop-k + 2) _ (omega arith) (omega arith)

pub loop-k-preserved : goal.loop-k-preserved
loop-k-preserved c =
    let a = c.args in
    let l = c.loop-k in
    let list = cube_names a.tables.offsets.now a.names.now a.edge a.case in
    let next : 3 * (l.k + 1) ≡ 3 * l.k + 3 = omega arith in
    rw next
    (sets_three a.triangles.now a.at list (j (goal.at.loop-k-preserved c).In-loop-k) 0 (omega (arith, turn (goal.at.loop-k-preserved c).In-loop-k, length_cube a.tables.offsets.now a.names.now a.edge a.case))
    l.invariant
    (corner_here (goal.at.loop-k-preserved c).In-loop-k (j (goal.at.loop-k-preserved c).In-loop-k) _ (omega arith) (omega arith) c.corner-a.ensures)
    (corner_here (goal.at.loop-k-preserved c).In-loop-k (j (goal.at.loop-k-preserved c).In-loop-k + 1) _ (omega arith) (omega arith) c.corner-b.ensures)
    (corner_here (goal.at.loop-k-preserved c).In-loop-k (j (goal.at.loop-k-preserved c).In-loop-k + 2) _ (omega arith) (omega arith) c.corner-c.ensures))

pub returns : goal.returns
returns c =
    let a = c.args in
    let list = cube_names a.tables.offsets.now a.names.now a.edge a.case in
    let all : take (3 * c.loop-k.k) list ≡ list =
    take_all (3 * c.loop-k.k) list (omega (arith, length_cube a.tables.offsets.now a.names.now a.edge a.case, c.requires.cube_room.corners)) in
    c.loop-k.invariant ∙ ap (sets a.triangles.now a.at) all
