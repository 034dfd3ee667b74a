-- The lines of the shells, to the end of the text; and all lines behind line 1 together.
use mathlib.Core.Path.{◌≡◌, refl, ap, sym, ◌∙◌}
use mathlib.Core.List.{List, [], ◌∷◌, ◌++◌, map, flat_map}
use Prim.Native.Nat.{ℕ, ◌+◌, ◌*◌, ◌-◌, ◌≤◌, ◌<◌}
use native.Mathlib.Omega.{arith}
use lib.ListN.{length, get_or, drop, length-map, drop_of_length-le}
use lib.Seq.{sets, length-sets}
use Rattle.laws.specs.Threes.{three_at}
use Rattle.laws.proofs.Ranges.{length_flat}
use Rattle.lines.proofs.Bytes.{byte_at}
use Rattle.laws.specs.Part.{part_of}
use Rattle.laws.proofs.Parts.{part_written, part_before}
use Rattle.records.specs.declared.Shell.{Shell}
use Rattle.reading.specs.Reading.{most_word, got, bad}
use Rattle.reading.specs.Lined.{Lined, wrong, lined, following, read_lines, read_end}
use Rattle.reading.proofs.Following.{never_lined, earlier, end_read, lines_read}
use Rattle.reading.proofs.Turns.{behind, lines_begin, lines_turn, lines_stop, lines_done}
use Rattle.columns.specs.Room.{marks_at, triangles_at, work_length}
use Rattle.meshread.specs.Lines.{Counts, next_edge, read_point, read_triangle, read_shell}
use Rattle.lines.specs.Line.{lettered}
use Rattle.meshlines.specs.MeshLines.{letter_v, letter_t}
use Rattle.reading.proofs.Fields.{Numbers}
use Rattle.meshread.specs.Mesh.{mesh_of, read_lines_of}
use Rattle.meshread.proofs.Lines.{PointFits, point_exact, triangle_exact}
use Rattle.meshform.proofs.Rooms.{front_there, back_there}
use Rattle.meshform.specs.Form.{counts_for, point_lines, triangle_lines, shell_lines, last_lines, with_points, with_triangles, Goes, Anything, Formed}

-- the first n shells were read
pub record ShellsRead (input : List ℕ) (from first shells n at : ℕ) : Type 0 where
  pub ss : List Shell
  pub few : n ≤ shells
  pub so_far : shell_lines shells first (drop from input) ≡ behind ss (read_lines (λ bound. read_shell) (λ shell. 0) (shells - n) 0 (first + n) (drop at input))

pub shells_begin : (input : List ℕ) (from first shells : ℕ) → ShellsRead input from first shells 0 from
shells_begin input from first shells =
    let e : shells - 0 ≡ shells = omega arith in
    let f : first + 0 ≡ first = omega arith in
    record { ss = []; few = omega arith; so_far = rw (e, f) (lines_begin (shell_lines shells first (drop from input))) }

module _ (input : List ℕ) (from first shells n at : ℕ) (p : ShellsRead input from first shells n at) where
  pub shells_next : n < shells → (s : Shell) (next : ℕ) → read_shell (drop at input) ≡ got s (drop next input) → ShellsRead input from first shells (n + 1) next
  shells_next less s next g =
      let line : first + n + 1 ≡ first + (n + 1) = omega arith in
      record {
        ss = p.ss ++ (s ∷ []);
        few = omega (arith, less);
        so_far = rw (sym line) (p.so_far ∙ lines_turn (λ bound. read_shell) (λ shell. 0) shells n 0 (first + n) (drop at input) p.ss less s (drop next input) g);
      }

  pub shells_stop : n < shells → read_shell (drop at input) ≡ bad → last_lines shells first (drop from input) ≡ wrong (first + n)
  unfolding following
  shells_stop less b = ap (following (λ ss rest. read_end (first + shells) ss rest)) (p.so_far ∙ lines_stop (λ bound. read_shell) (λ shell. 0) shells n 0 (first + n) (drop at input) p.ss less b)

  module _ (all : shells ≤ n) where
    done : last_lines shells first (drop from input) ≡ read_end (first + shells) p.ss (drop at input)
    unfolding following
    done = ap (following (λ ss rest. read_end (first + shells) ss rest)) (p.so_far ∙ lines_done (λ bound. read_shell) (λ shell. 0) shells n 0 (first + n) (drop at input) p.ss (omega (arith, p.few, all)))

    pub shells_over : at < length input → last_lines shells first (drop from input) ≡ wrong (first + shells)
    unfolding read_end
    shells_over l = done ∙ ap (read_end (first + shells) p.ss) (byte_at input at l)

    pub shells_done : length input ≤ at → Goes (last_lines shells first (drop from input)) input at (λ ss. Anything)
    unfolding read_end
    shells_done l =
        let none = drop_of_length-le input l in
        record { all = p.ss; lines = done ∙ ap (read_end (first + shells) p.ss) none ∙ ap (lined p.ss) (sym none); left = tt }

-- ---- all of them
module _ (input : List ℕ) (from v t shells : ℕ) where
  abbrev c : Counts
  c = counts_for v t shells

  pub points_wrong : (line : ℕ) → point_lines v (drop from input) ≡ wrong line → read_lines_of c (drop from input) ≡ wrong line
  unfolding read_lines_of following
  points_wrong line e = rw e

  module _ (vs : List (List ℕ)) (behind-vs : List ℕ) (p : point_lines v (drop from input) ≡ lined vs behind-vs) where
    pub triangles_wrong : (line : ℕ) → triangle_lines t (2 + v) behind-vs ≡ wrong line → read_lines_of c (drop from input) ≡ wrong line
    unfolding read_lines_of following
    triangles_wrong line e = rw (p, e)

    module _ (ts : List (List ℕ)) (behind-ts : List ℕ) (q : triangle_lines t (2 + v) behind-vs ≡ lined ts behind-ts) where
      pub shells_wrong : (line : ℕ) → last_lines shells (2 + v + t) behind-ts ≡ wrong line → read_lines_of c (drop from input) ≡ wrong line
      unfolding read_lines_of following read_end
      shells_wrong line e = rw (p, q) (go (shell_lines shells (2 + v + t) behind-ts) e)
        where
          ended : (ss : List Shell) (rest : List ℕ) → read_end (2 + v + t + shells) ss rest ≡ wrong line → read_end (2 + v + t + shells) (mesh_of vs ts ss) rest ≡ wrong line
          ended ss [] h = never_lined (sym h)
          ended ss (b ∷ rest) h = let q : 2 + v + t + shells ≡ line = cc in ap wrong q

          go : (r : Lined (List Shell)) → following (λ ss rest. read_end (2 + v + t + shells) ss rest) r ≡ wrong line
              → following (λ ss rest. read_end (2 + v + t + shells) (mesh_of vs ts ss) rest) r ≡ wrong line
          go (wrong at) h = let q : at ≡ line = cc in ap wrong q
          go (lined ss rest) h = ended ss rest h

      shells_are : (ss : List Shell) (rest : List ℕ) → last_lines shells (2 + v + t) behind-ts ≡ lined ss rest → shell_lines shells (2 + v + t) behind-ts ≡ lined ss []
      shells_are ss rest e =
          let a = earlier (λ ss rest. read_end (2 + v + t + shells) ss rest) (shell_lines shells (2 + v + t) behind-ts) ss rest e in
          let z = end_read (2 + v + t + shells) a.first ss a.more rest a.then in
          a.here ∙ ap (λ x. lined x a.more) z.1 ∙ ap (lined ss) z.0

  -- what stands in the room when all points and triangles were taken
  module _ (old : List ℕ) (whole : length old ≡ work_length v t) (vs ts : List (List ℕ)) (many-v : length vs ≡ v) (many-t : length ts ≡ t) where
    abbrev room : List ℕ
    room = with_triangles v ts (with_points v vs old)

    abbrev places : List ℕ
    places = flat_map (λ row. three_at row 1) vs

    abbrev marks : List ℕ
    marks = map (λ row. get_or row 4 0) vs

    abbrev tips : List ℕ
    tips = flat_map (λ row. three_at row 0) ts

    long_places : length places ≡ marks_at v
    long_places = length_flat 3 (λ row. three_at row 1) (λ row. refl) vs ∙ ap (λ n. 3 * n) many-v

    long_marks : length marks ≡ v
    long_marks = length-map vs (λ row. get_or row 4 0) ∙ many-v

    long_tips : length tips ≡ 3 * t
    long_tips = length_flat 3 (λ row. three_at row 0) (λ row. refl) ts ∙ ap (λ n. 3 * n) many-t

    long_room : length (with_points v vs old) ≡ work_length v t
    long_room = length-sets (sets old 0 places) (marks_at v) marks ∙ length-sets old 0 places ∙ whole

    in_front : (b long : ℕ) → b + long ≤ triangles_at v → part_of b long room ≡ part_of b long (with_points v vs old)
    in_front b long l = part_before (with_points v vs old) (triangles_at v) tips (omega (arith, long_tips, long_room)) b long l

    places_there : part_of 0 (3 * v) room ≡ places
    places_there = in_front 0 (3 * v) (omega arith) ∙ front_there old (marks_at v) places marks long_places (omega (arith, long_marks, whole))

    marks_stand : part_of (marks_at v) v room ≡ marks
    marks_stand =
        in_front (marks_at v) v (omega arith) ∙ ap (λ n. part_of (marks_at v) n (with_points v vs old)) (sym long_marks)
        ∙ back_there old (marks_at v) places marks long_places (omega (arith, long_marks, whole))

    tips_there : part_of (triangles_at v) (3 * t) room ≡ tips
    tips_there = ap (λ n. part_of (triangles_at v) n room) (sym long_tips) ∙ part_written (with_points v vs old) (triangles_at v) tips (omega (arith, long_tips, long_room))

  -- all lines are well formed
  pub formed : (old one two : List ℕ) (next next2 next3 : ℕ) → length old ≡ work_length v t → Goes (point_lines v (drop from input)) input next (λ vs. one ≡ with_points v vs old)
      → Goes (triangle_lines t (2 + v) (drop next input)) input next2 (λ ts. two ≡ with_triangles v ts one) → Goes (last_lines shells (2 + v + t) (drop next2 input)) input next3 (λ ss. Anything)
      → Formed c input from next2 two
  unfolding mesh_of
  formed old one two next next2 next3 whole p q r =
      let many-v = (lines_read read_point next_edge (lettered letter_v) PointFits point_exact v 0 2 (drop from input) p.all (drop next input) p.lines).many in
      let many-t = (lines_read (λ bound. read_triangle) (λ row. 0) (lettered letter_t) (λ bound. Numbers most_word 3) (λ bound. triangle_exact) t 0 (2 + v) (drop next input) q.all (drop next2 input) q.lines).many in
      let here : two ≡ with_triangles v q.all (with_points v p.all old) = q.left ∙ ap (with_triangles v q.all) p.left in
      record {
        vs = p.all;
        ts = q.all;
        shells = r.all;
        behind = drop next input;
        points_read = p.lines;
        triangles_read = q.lines;
        shells_read = shells_are p.all (drop next input) p.lines q.all (drop next2 input) q.lines r.all (drop next3 input) r.lines;
        points_there = ap (part_of 0 (3 * v)) here ∙ places_there old whole p.all q.all many-v many-t;
        marks_there = ap (part_of (marks_at v) v) here ∙ marks_stand old whole p.all q.all many-v many-t;
        triangles_there = ap (part_of (triangles_at v) (3 * t)) here ∙ tips_there old whole p.all q.all many-v many-t;
      }
