-- The parts of the work room: how long each is, where each number stands, and that what is written to the column leaves them.
use mathlib.Core.Path.{◌≡◌, ◌∙◌}
use mathlib.Core.List.{List}
use Prim.Native.Nat.{ℕ, ◌+◌, ◌*◌, ◌<◌, ◌≤◌}
use native.Mathlib.Nat.{zero-add}
use native.Mathlib.Omega.{arith}
use lib.ListN.{length, get_or}
use lib.Seq.{sets, length-sets}
use Rattle.laws.specs.Values.{list_to}
use Rattle.laws.proofs.Values.{length_list}
use Rattle.laws.proofs.Parts.{length_part, part_at, part_before}
use Rattle.mesh.specs.Mesh.{triangle_count, triangle_at, triangles_of}
use Rattle.mesh.proofs.Passed.{Passed, passed, corners}
use Rattle.shellnumbers.specs.Numbering.{Numbering}
use Rattle.shelllist.proofs.Few.{no_more_than_points}
use Rattle.columns.specs.Room.{marks_at, triangles_at, numbers_at, column_at, work_length, points_in, marks_in, triangles_in, numbers_in, StandsIn, ShellsStand, point_number, triangle_number, record_in}

module _ (v : ℕ) (work : List ℕ) where
  -- where a coordinate and a mark stand
  pub coordinate_at : (j : ℕ) → j < 3 * v → get_or (points_in v work) j 0 ≡ get_or work j 0
  coordinate_at j l = part_at work 0 (3 * v) j 0 l ∙ rw (zero-add j)

  pub mark_at : (i : ℕ) → i < v → get_or (marks_in v work) i 0 ≡ get_or work (marks_at v + i) 0
  mark_at i l = part_at work (marks_at v) v i 0 l

  -- and a corner and a shell number
  module _ (t : ℕ) where
    pub corner_at : (j : ℕ) → j < 3 * t → get_or (triangles_in v t work) j 0 ≡ get_or work (triangles_at v + j) 0
    corner_at j l = part_at work (triangles_at v) (3 * t) j 0 l

    pub number_at : (i : ℕ) → i < v → point_number v t work i ≡ get_or work (numbers_at v t + i) 0
    number_at i l = part_at work (numbers_at v t) v i 0 l

-- the same points, triangles and shell numbers stand in two rooms
pub record SameShells (v t : ℕ) (room after : List ℕ) : Type 0 where
  pub long : length after ≡ length room
  pub points : points_in v after ≡ points_in v room
  pub triangles : triangles_in v t after ≡ triangles_in v t room
  pub numbers : numbers_in v t after ≡ numbers_in v t room

-- and the same marks
pub record SameMesh (v t : ℕ) (room after : List ℕ) : Type 0 where
  pub beside : SameShells v t room after
  pub marks : marks_in v after ≡ marks_in v room

-- what is written to the column leaves them there, and so they stand as before
pub column_leaves : (v t : ℕ) (room xs : List ℕ) → column_at v t + length xs ≤ length room → SameMesh v t room (sets room (column_at v t) xs)
column_leaves v t room xs inside =
    record {
      beside = record {
        long = length-sets room (column_at v t) xs;
        points = part_before room (column_at v t) xs inside 0 (3 * v) (omega arith);
        triangles = part_before room (column_at v t) xs inside (triangles_at v) (3 * t) (omega arith);
        numbers = part_before room (column_at v t) xs inside (numbers_at v t) v (omega arith);
      };
      marks = part_before room (column_at v t) xs inside (marks_at v) v (omega arith);
    }

pub shells_still_stand : (shells v t : ℕ) (room after : List ℕ) → SameShells v t room after → ShellsStand shells v t room → ShellsStand shells v t after
shells_still_stand shells v t room after same S =
    record {
      whole = same.long ∙ S.whole;
      few = S.few;
      near = rw same.points S.near;
      corners = rw same.triangles S.corners;
      numbered = rw (same.triangles, same.numbers) S.numbered;
    }

pub still_stands : (shells v t : ℕ) (room after : List ℕ) → SameMesh v t room after → StandsIn shells v t room → StandsIn shells v t after
still_stands shells v t room after same S =
    record {
      whole = same.beside.long ∙ S.whole;
      passes = rw (same.beside.points, same.beside.triangles, same.marks) S.passes;
      numbered = rw (same.beside.triangles, same.beside.numbers) S.numbered;
    }

-- and so do the records
pub same_records : (v t : ℕ) (room after : List ℕ) → SameMesh v t room after → (n : ℕ) → record_in v t after n ≡ record_in v t room n
same_records v t room after same n = rw (same.beside.points, same.beside.triangles, same.marks, same.beside.numbers)

-- as many marks and triangles as there is room for
module _ (v t : ℕ) (work : List ℕ) (whole : length work ≡ work_length v t) where
  pub many_points : length (marks_in v work) ≡ v
  many_points = length_part work (marks_at v) v (omega arith)

  pub many_triangles : triangle_count (triangles_in v t work) ≡ t
  many_triangles = omega (arith, length_part work (triangles_at v) (3 * t) (omega arith))

module _ (shells v t : ℕ) (work : List ℕ) (S : ShellsStand shells v t work) where
  -- a shell has its place in the column
  pub few_shells : shells ≤ v
  few_shells =
      let long = many_points v t work S.whole in
      omega (arith, long, no_more_than_points (points_in v work) (triangles_in v t work) (marks_in v work) (numbers_in v t work) shells (rw long S.numbered))

  -- every triangle has a shell
  pub corner_small : (k : ℕ) → k < t → (triangle_at (triangles_in v t work) k).one < v
  corner_small k l = (corners (triangles_in v t work) v k S.corners (omega (arith, many_triangles v t work S.whole))).first

  pub triangle_small : (k : ℕ) → k < t → triangle_number v t work k < shells
  triangle_small k l = S.numbered.small _ (corner_small k l)

module _ (shells v t : ℕ) (work : List ℕ) (S : StandsIn shells v t work) where
  pub mesh_passed : Passed (points_in v work) (triangles_in v t work) (marks_in v work)
  mesh_passed = passed (points_in v work) (triangles_in v t work) (marks_in v work) S.passes

  pub marks_numbered : Numbering (triangles_of (triangles_in v t work)) (length (marks_in v work)) (numbers_in v t work) shells
  marks_numbered = rw (many_points v t work S.whole) S.numbered

  pub shells_stand : ShellsStand shells v t work
  shells_stand =
      record {
        whole = S.whole;
        few = omega (arith, mesh_passed.triangles_few, many_triangles v t work S.whole);
        near = mesh_passed.coordinates_fit;
        corners = rw (many_points v t work S.whole) at mesh_passed.corners_fit;
        numbered = S.numbered;
      }

  pub shells_inside : column_at v t + shells ≤ length work
  shells_inside = omega (arith, few_shells shells v t work shells_stand, S.whole)

  -- a number a shell in the column: the mesh and the shell numbers stand there still
  pub column_beside : (f : ℕ → ℕ) → SameMesh v t work (sets work (column_at v t) (list_to shells f))
  column_beside f = column_leaves v t work (list_to shells f) (omega (arith, length_list shells f, shells_inside))

  -- every point has a shell
  pub point_small : (i : ℕ) → i < v → point_number v t work i < shells
  point_small i l = S.numbered.small i l
