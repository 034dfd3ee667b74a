-- How each step before the shells ends: the mesh is checked, its lines are passed, line 1 and the rooms.
use mathlib.Core.Path.{◌≡◌, refl, ap, sym, ◌∙◌, subst}
use mathlib.Core.List.{List, []}
use mathlib.Core.Bool.{Bool, true, false, cond, not}
use Prim.Native.Nat.{ℕ, ◌+◌, ◌*◌, ◌^◌, ◌≤◌, ◌<◌}
use native.Mathlib.Omega.{arith}
use lib.Dec.{eqb, ltb}
use lib.ListN.{length, drop, replicate}
use borrow.Author.Tests.{ne_eqb, ltb-false, eqb-true}
use Rattle.std.specs.Prelude.{Result}
use Rattle.grid.specs.Limits.{most_points, most_triangles, most_coordinate}
use Rattle.grid.specs.declared.refusal.Refusal.{Refusal}
use Rattle.grid.specs.declared.refusal.Refusal.TheVariants.{Side, Samples, Room, Points, Triangles, Lengths as OtherLengths, Corners, Coordinates, Marks, Smoothing, Shells, GridLine, Small, Beyond, MeshLine, OtherShells, Layer, Closing, Summary}
use Rattle.grid.specs.Refusal.{number_of, mesh_line}
use Rattle.grid.proofs.Refused.{never_0}
use Rattle.mesh.specs.Check.{lengths_fit, triangles_fit, all_within, mesh_number}
use Rattle.reading.specs.Reading.{got, bad}
use Rattle.reading.specs.Lined.{wrong, lined, following, read_end}
use Rattle.columns.specs.Room.{work_length, points_in, marks_in, triangles_in}
use Rattle.meshread.specs.Lines.{Counts, read_counts}
use Rattle.meshread.specs.Mesh.{Mesh, read_lines_of}
use Rattle.meshread.specs.Promise.{Lengths, point_room, triangle_room, room_number, refusal, mesh, with_mesh, with_lines, with_counts, said}
use Rattle.meshread.proofs.OneRead.{never_said}
use Rattle.meshform.specs.Form.{counts_for, Formed}
use Rattle.judge.specs.declared.Judged.{Judged}
use Rattle.judge.specs.Judged.{Standing, mesh_in, JudgesSaid, refused_early, others_shells, taken, JudgesMesh}

-- what is refused by a number up to 11 names no line
line_none : (e : Refusal) → number_of e ≤ 11 → mesh_line e ≡ 0
line_none Side l = refl
line_none Samples l = refl
line_none Room l = refl
line_none Points l = refl
line_none Triangles l = refl
line_none OtherLengths l = refl
line_none Corners l = refl
line_none Coordinates l = refl
line_none Marks l = refl
line_none Smoothing l = refl
line_none Shells l = refl
line_none (GridLine at) l = absurd (omega (arith, l))
line_none Small l = refl
line_none Beyond l = refl
line_none (MeshLine at) l = absurd (omega (arith, l))
line_none OtherShells l = refl
line_none Layer l = refl
line_none Closing l = refl
line_none Summary l = refl

-- a refusal of a mesh or of the rooms is such a one
mesh_numbers : (points triangles marks : List ℕ) → mesh_number points triangles marks ≤ 11
unfolding mesh_number
mesh_numbers points triangles marks = go (lengths_fit (length points) (length triangles) (length marks)) (triangles_fit triangles (length marks)) (all_within most_coordinate points) (all_within 1 marks)
  where
    go : (a b c d : Bool) → cond (not a) 6 (cond (not b) 7 (cond (not c) 8 (cond (not d) 9 0))) ≤ 11
    go false b c d = omega arith
    go true false c d = omega arith
    go true true false d = omega arith
    go true true true false = omega arith
    go true true true true = omega arith

room_numbers : (c : Counts) (l : Lengths) → room_number c l ≤ 11
unfolding room_number
room_numbers c l = go (ltb (point_room l) c.points) (ltb (triangle_room l) c.triangles) (ltb l.records c.shells) (eqb l.work (6 * c.points + 3 * c.triangles))
  where
    go : (a b d f : Bool) → cond a 4 (cond b 5 (cond d 11 (cond (not f) 3 0))) ≤ 11
    go true b d f = omega arith
    go false true d f = omega arith
    go false false true f = omega arith
    go false false false false = omega arith
    go false false false true = omega arith

-- 7, 8 and 9
module _ (v t shells : ℕ) (input : List ℕ) (from next : ℕ) (old : List ℕ) (f : Standing v t shells input from next old) where
  number_is : mesh_number (points_in v old) (triangles_in v t old) (marks_in v old) ≡ mesh_number (mesh_in f).points (mesh_in f).triangles (mesh_in f).marks
  number_is =
      ap (λ ps. mesh_number ps (triangles_in v t old) (marks_in v old)) f.lines.points_there ∙ ap (λ ts. mesh_number (mesh_in f).points ts (marks_in v old)) f.lines.triangles_there
      ∙ ap (mesh_number (mesh_in f).points (mesh_in f).triangles) f.lines.marks_there

  pub no_mesh : (e : Refusal) → number_of e ≡ mesh_number (points_in v old) (triangles_in v t old) (marks_in v old) → with_mesh (mesh_in f) ≡ refusal (number_of e) (mesh_line e) true
  unfolding with_mesh
  no_mesh e q =
      let n = line_none e (omega (arith, q, mesh_numbers (points_in v old) (triangles_in v t old) (marks_in v old))) in
      rw (sym (q ∙ number_is), ne_eqb (number_of e) 0 (never_0 e), n)

  pub is_mesh : 0 ≡ mesh_number (points_in v old) (triangles_in v t old) (marks_in v old) → with_mesh (mesh_in f) ≡ mesh (mesh_in f)
  unfolding with_mesh
  is_mesh q = rw (sym (q ∙ number_is))

-- what is refused with the mesh makes the work room zero
mesh_zeroes : (m : Mesh) (number line : ℕ) (zeroed : Bool) → with_mesh m ≡ refusal number line zeroed → zeroed ≡ true
unfolding with_mesh
mesh_zeroes m number line zeroed e = go (eqb (mesh_number m.points m.triangles m.marks) 0) e
  where
    go : (t : Bool) → cond (not t) (refusal (mesh_number m.points m.triangles m.marks) 0 true) (mesh m) ≡ refusal number line zeroed → zeroed ≡ true
    go true h = never_said h refl
    go false h = cc

-- the lines behind line 1
pub lines_refuse : (c : Counts) (bs : List ℕ) (line : ℕ) → read_lines_of c bs ≡ wrong line → with_lines (read_lines_of c bs) ≡ refusal 15 line true
unfolding with_lines
lines_refuse c bs line e = ap with_lines e

module _ (v t shells : ℕ) (input : List ℕ) (from : ℕ) (old : List ℕ) (few : v ≤ most_points) (triangles_few : t ≤ most_triangles) (shells_few : shells < 2 ^ 32) (whole : length old ≡ work_length v t)
    (next : ℕ) (work : List ℕ) (long : length work ≡ length old) (f : Formed (counts_for v t shells) input from next work) where
  pub standing : Standing v t shells input from next work
  standing = record { whole = long ∙ whole; few = few; triangles_few = triangles_few; shells_few = shells_few; lines = f }

  lines_say : read_lines_of (counts_for v t shells) (drop from input) ≡ lined (mesh_in standing) []
  unfolding read_lines_of following read_end
  lines_say = let l = standing.lines in rw (l.points_read, l.triangles_read, l.shells_read)

  pub lines_go_on : (r : Result Judged Refusal) (after : List ℕ) → JudgesMesh v t shells input from next work r after → JudgesSaid (with_lines (read_lines_of (counts_for v t shells) (drop from input))) input old r after
  unfolding with_lines
  lines_go_on r after j = subst (λ s. JudgesSaid s input old r after) (ap with_lines (sym lines_say)) (go (j standing))
    where
      zeros : replicate {A = ℕ} (length work) 0 ≡ replicate (length old) 0
      zeros = ap (λ n. replicate {A = ℕ} n 0) long

      go : JudgesSaid (with_mesh (mesh_in standing)) input work r after → JudgesSaid (with_mesh (mesh_in standing)) input old r after
      go (refused_early e q zeroed y z) =
          let t = mesh_zeroes (mesh_in standing) (number_of e) (mesh_line e) zeroed y in
          refused_early e q true (y ∙ ap (refusal (number_of e) (mesh_line e)) t) (z ∙ ap (λ b. cond b (replicate (length work) 0) work) t ∙ zeros)
      go (others_shells m e found k N d q z) = others_shells m e found k N d q (z ∙ zeros)
      go (taken m e found k N w j q g) = taken m e found k N w j q g

-- line 1 and the rooms
module _ (input : List ℕ) (l : Lengths) where
  pub no_counts : read_counts input ≡ bad → said input l ≡ refusal 15 1 false
  unfolding said with_counts
  no_counts e = ap (with_counts l) e

  module _ (c : Counts) (rest : List ℕ) (q : read_counts input ≡ got c rest) where
    pub no_room : (e : Refusal) → number_of e ≡ room_number c l → said input l ≡ refusal (number_of e) (mesh_line e) false
    unfolding said with_counts
    no_room e n =
        let z = line_none e (omega (arith, n, room_numbers c l)) in
        rw (q, sym n, ne_eqb (number_of e) 0 (never_0 e), z)

    pub has_room : 0 ≡ room_number c l → said input l ≡ with_lines (read_lines_of c rest)
    unfolding said with_counts
    has_room n = rw (q, sym n)

-- rooms that hold so many points and triangles
pub record Holds (c : Counts) (l : Lengths) : Type 0 where
  pub points : c.points ≤ point_room l
  pub triangles : c.triangles ≤ triangle_room l
  pub shells : c.shells ≤ l.records
  pub work : l.work ≡ 6 * c.points + 3 * c.triangles

pub rooms_hold : (c : Counts) (l : Lengths) → room_number c l ≡ 0 → Holds c l
unfolding room_number
rooms_hold c l e = four (ltb (point_room l) c.points) refl e
  where
    three : c.points ≤ point_room l → c.triangles ≤ triangle_room l → c.shells ≤ l.records → (b : Bool) → eqb l.work (6 * c.points + 3 * c.triangles) ≡ b → ◌≡◌ {A = ℕ} (cond (not b) 3 0) 0 → Holds c l
    three p t s true q e = record { points = p; triangles = t; shells = s; work = eqb-true l.work (6 * c.points + 3 * c.triangles) q }
    three p t s false q e = absurd (omega arith)

    eleven : c.points ≤ point_room l → c.triangles ≤ triangle_room l → (b : Bool) → ltb l.records c.shells ≡ b
        → ◌≡◌ {A = ℕ} (cond b 11 (cond (not (eqb l.work (6 * c.points + 3 * c.triangles))) 3 0)) 0 → Holds c l
    eleven p t true q e = absurd (omega arith)
    eleven p t false q e = three p t (ltb-false l.records c.shells q) (eqb l.work (6 * c.points + 3 * c.triangles)) refl e

    five : c.points ≤ point_room l → (b : Bool) → ltb (triangle_room l) c.triangles ≡ b
        → ◌≡◌ {A = ℕ} (cond b 5 (cond (ltb l.records c.shells) 11 (cond (not (eqb l.work (6 * c.points + 3 * c.triangles))) 3 0))) 0 → Holds c l
    five p true q e = absurd (omega arith)
    five p false q e = eleven p (ltb-false (triangle_room l) c.triangles q) (ltb l.records c.shells) refl e

    four : (b : Bool) → ltb (point_room l) c.points ≡ b
        → ◌≡◌ {A = ℕ} (cond b 4 (cond (ltb (triangle_room l) c.triangles) 5 (cond (ltb l.records c.shells) 11 (cond (not (eqb l.work (6 * c.points + 3 * c.triangles))) 3 0)))) 0 → Holds c l
    four true q e = absurd (omega arith)
    four false q e = five (ltb-false (point_room l) c.points q) (ltb (triangle_room l) c.triangles) refl e
