-- `printing::write_listed` meets its contract: the shells are listed, and the mesh is written with their records.
use mathlib.Core.Path.{◌≡◌, sym}
use Prim.Native.Nat.{◌*◌}
use native.Mathlib.Omega.{arith}
use lib.ListN.{length, take}
use lib.Seq.{length-take-le}
use Rattle.printing.proofs.Listed.{mesh_printed}
use Rattle.printing.proofs.write_listed.Goals as goal
use Rattle.printing.proofs.write_listed.Goals.{After-room-work, After-room-numbers}

-- a room for each point's number, and one for twice as many
whole : (c : After-room-numbers) → length (take (length c.args.mesh.marks.now) c.room-numbers.result) ≡ length c.args.mesh.marks.now
whole c =
    length-take-le (length c.args.mesh.marks.now) c.room-numbers.result (omega (arith, c.room-numbers.ensures, c.requires.few_points))

twice : (c : After-room-work) → length (take (2 * length c.args.mesh.marks.now) c.room-work.result) ≡ 2 * length c.args.mesh.marks.now
twice c =
    length-take-le (2 * length c.args.mesh.marks.now) c.room-work.result (omega (arith, c.room-work.ensures, c.requires.few_points))

pub slice_bounds-write_records-end : goal.slice_bounds-write_records-end
slice_bounds-write_records-end c = sym (whole (goal.at.slice_bounds-write_records-end c).After-room-numbers)

pub slice_bounds-write_records-end-2 : goal.slice_bounds-write_records-end-2
slice_bounds-write_records-end-2 c = sym (twice (goal.at.slice_bounds-write_records-end-2 c).After-room-work)

pub returns : goal.returns
returns c =
    let both = mesh_printed _ _ _ _ _ _ _ _ _ c.requires (whole (goal.at.returns c).After-room-numbers) (twice (goal.at.returns c).After-room-work) _ c.write_records.ensures in rw c.unwrap_or.ensures (record { inside = both.0; text = both.1 })
