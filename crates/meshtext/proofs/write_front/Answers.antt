-- `meshtext::write_front` meets its contract: the length, and then the lines.
use mathlib.Core.Path.{◌≡◌, sym}
use mathlib.Core.List.{List}
use Prim.Native.Nat.{ℕ, ◌/◌, ◌≤◌}
use native.Mathlib.Omega.{arith}
use lib.ListN.{length}
use Rattle.grid.specs.Limits.{most_points, most_triangles}
use Rattle.meshtext.specs.MeshText.{mesh_counts, front_text}
use Rattle.meshtext.proofs.MeshTexts.{front_fits, front_refused, front_granted}
use Rattle.meshtext.proofs.write_front.Goals as goal
use Rattle.meshtext.proofs.write_front.Goals.{Start}

facts : (c : Start) → let a = c.args in (length a.marks.now ≤ most_points) × (length a.triangles.now / 3 ≤ most_triangles)
facts c = let a = c.args in let l = front_fits a.points.now a.edges.now a.marks.now a.triangles.now c.requires.0 in (l.2, l.3)

-- the lines that are written
abbrev text : Start → List ℕ
text s = let a = s.args in front_text (mesh_counts a.marks.now a.triangles.now a.shells) a.points.now a.edges.now a.marks.now a.triangles.now

pub overflow_cast-counts : goal.overflow_cast-counts
overflow_cast-counts c = omega (arith, facts (goal.at.overflow_cast-counts c).Start)

pub overflow_cast-counts-2 : goal.overflow_cast-counts-2
overflow_cast-counts-2 c = omega (arith, facts (goal.at.overflow_cast-counts-2 c).Start)

pub overflow_add-length : goal.overflow_add-length
overflow_add-length c =
    omega (arith, c.front_length-length.ensures.small, facts (goal.at.overflow_add-length c).Start, c.requires.1, c.requires.2)

pub returns-then-room-length : goal.returns-then-room-length
returns-then-room-length c =
    let long : length (text (goal.at.returns-then-room-length c).Start) ≡ c.front_length-length.result = sym c.front_length-length.ensures.length in (
      λ l t. absurd (omega (arith, l, c.if-room-length.true, c.front_length-length.ensures.small, c.requires.2)),
      front_refused (text (goal.at.returns-then-room-length c).Start) c.args.room.now c.args.more (omega (arith, c.if-room-length.true, long)),
    )

pub returns : goal.returns
returns c =
    let long : c.front_length-length.result ≡ length (text (goal.at.returns c).Start) = c.front_length-length.ensures.length in (
      λ l t. absurd (omega (arith, t)),
      rw (long, c.write_lines.ensures) (front_granted (text (goal.at.returns c).Start) c.args.room.now c.args.more (omega (arith, c.if-room-length.false, long))),
    )
