-- `edgepoints::place_edge` meets its contract.
use mathlib.Core.Path.{◌≡◌, refl, ap₂, ◌∙◌}
use mathlib.Core.Bool.{true}
use native.Mathlib.Omega.{arith}
use Rattle.grid.specs.Point.{offset}
use Rattle.grid.specs.Work.{lent_samples}
use Rattle.edgepoints.specs.EdgePoint.{PointRooms, axis_number, point_rooms}
use Rattle.edgepoints.proofs.Placed.{offset_fits, point_written}
use Rattle.edgepoints.proofs.place_edge.Goals as goal
use Rattle.edgepoints.proofs.place_edge.Goals.{After-step_of, After-write_point, Else-not-cut, Start}

-- past the test the edge is crossed, and its point can be placed
crossed_here_lem : (c : Else-not-cut) → c.args.cut ≡ true
crossed_here_lem c = c.if-not-cut.false

-- the rooms as they come, and past the write
abbrev first_rooms : Start → PointRooms
first_rooms s = point_rooms s.args.points.now s.args.edges.now s.args.marks.now

abbrev past : After-write_point → PointRooms
past c = point_rooms c.write_point.new.points c.write_point.new.edges c.write_point.new.marks

pub point_on-p-requires : goal.point_on-p-requires
point_on-p-requires c =
    let v0 = c.sample_at-v0.type_inv in
    let v1 = c.sample_at-v1.type_inv in record { standing = c.requires.standing; offset_le_most_offset = rw c.offset-offset.ensures (offset_fits _ _ _ (omega (arith, v0)) (omega (arith, v1)) c.ranges.grey.fits) }

pub returns : goal.returns
returns c =
    let a = c.args in rw (crossed_here_lem (goal.at.returns c).Else-not-cut) (record {
      value = refl;
      marks_after = point_written a.sides a.grey (lent_samples a.kept.now a.samples.now) a.at.s a.at.place (axis_number a.axis) c.step_of.result a.n c.offset-offset.result c.point_on-p.result (first_rooms (goal.at.returns c).Start) (past (goal.at.returns c).After-write_point)
          c.requires.standing.lent
          c.step_of.ensures
          (c.offset-offset.ensures ∙ ap₂ (λ v0 v1. offset v0 v1 a.grey) c.sample_at-v0.ensures c.sample_at-v1.ensures)
          c.point_on-p.ensures
          c.write_point.ensures;
    })
