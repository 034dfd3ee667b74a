-- `meshtext::write_lines` meets its contract: the parts one after the other.
use mathlib.Core.Path.{◌≡◌}
use Prim.Native.Nat.{◌+◌, ◌*◌, ◌/◌, ◌≤◌}
use native.Mathlib.Omega.{arith}
use lib.ListN.{length}
use Rattle.grid.specs.Limits.{most_points, most_triangles}
use Rattle.lines.specs.Line.{fields}
use Rattle.meshlines.specs.MeshLines.{points_text, triangles_text}
use Rattle.writing.proofs.Fields.{lettered_length}
use Rattle.meshtext.specs.MeshText.{letter_m}
use Rattle.meshtext.proofs.MeshTexts.{front_fits, front_length, front_written_lem}
use Rattle.meshtext.proofs.write_lines.Goals as goal
use Rattle.meshtext.proofs.write_lines.Goals.{Start}

facts : (c : Start) → let a = c.args in (length a.points.now ≡ 3 * length a.marks.now) × (length a.edges.now ≡ length a.marks.now) × (length a.marks.now ≤ most_points) × (length a.triangles.now / 3 ≤ most_triangles)
facts c = let a = c.args in front_fits a.points.now a.edges.now a.marks.now a.triangles.now c.requires.front_fits

long : (c : Start) → let a = c.args in 2 + length (fields 0 a.counts.now) + length (points_text a.points.now a.edges.now a.marks.now (length a.marks.now)) + length (triangles_text a.triangles.now (length a.triangles.now / 3)) ≤ length a.room.now
long c = let a = c.args in omega (arith, c.requires.triangles_in_bounds, front_length a.counts.now a.points.now a.edges.now a.marks.now a.triangles.now)

pub write_lettered-behind_counts-requires : goal.write_lettered-behind_counts-requires
write_lettered-behind_counts-requires c = omega (arith, long (goal.at.write_lettered-behind_counts-requires c).Start, lettered_length letter_m c.args.counts.now)

pub write_points-behind_points-requires : goal.write_points-behind_points-requires
write_points-behind_points-requires c = record { v_in_bounds = omega (arith, facts (goal.at.write_points-behind_points-requires c).Start); v_in_bounds_2 = omega (arith, long (goal.at.write_points-behind_points-requires c).Start, lettered_length letter_m c.args.counts.now, c.write_lettered-behind_counts.ensures.place, c.write_lettered-behind_counts.auto.room) }

pub write_triangles-requires : goal.write_triangles-requires
write_triangles-requires c = record { t_in_bounds = omega (arith, facts (goal.at.write_triangles-requires c).Start); t_in_bounds_2 = omega (arith, long (goal.at.write_triangles-requires c).Start, lettered_length letter_m c.args.counts.now, c.write_lettered-behind_counts.ensures.place, c.write_lettered-behind_counts.auto.room, c.write_points-behind_points.ensures.place, c.write_points-behind_points.auto.room) }

pub returns : goal.returns
returns c =
    let a = c.args in
    front_written_lem a.counts.now a.points.now a.edges.now a.marks.now a.triangles.now
    a.room.now c.write_lettered-behind_counts.new.room c.write_points-behind_points.new.room c.write_triangles.new.room
    c.write_lettered-behind_counts.result c.write_points-behind_points.result c.write_lettered-behind_counts.ensures.text (omega (arith, c.write_lettered-behind_counts.ensures.place)) c.write_points-behind_points.ensures.text c.write_points-behind_points.ensures.place c.write_triangles.ensures.text
