-- From a mesh that stands in the work room to what is decided of its shells.
use mathlib.Core.Path.{◌≡◌, refl, ap, sym, ◌∙◌, subst}
use mathlib.Core.List.{List, [], ◌++◌, map, flat_map}
use mathlib.Core.Bool.{true}
use Prim.Native.Nat.{ℕ, ◌+◌, ◌*◌, ◌≤◌}
use native.Mathlib.Omega.{arith}
use lib.ListN.{length, get_or, drop, replicate}
use lib.Seq.{sets, length-sets}
use Rattle.laws.specs.Values.{list_to}
use Rattle.laws.proofs.Values.{length_list}
use Rattle.laws.specs.Part.{part_of}
use Rattle.laws.proofs.Parts.{part_written, part_before}
use Rattle.mesh.specs.Check.{mesh_number, triangles_fit}
use Rattle.mesh.specs.Mesh.{triangle_count, triangles_of}
use Rattle.mesh.proofs.Passed.{passed}
use Rattle.shellnumbers.specs.Numbering.{Numbering}
use Rattle.records.specs.declared.Shell.{Shell}
use Rattle.records.specs.Record.{record_of}
use Rattle.shelllines.specs.ShellLines.{shell_text}
use Rattle.reading.specs.Lined.{Lined, lined}
use Rattle.reading.proofs.Following.{lines_read, lines_written}
use Rattle.columns.specs.Room.{marks_at, triangles_at, numbers_at, points_in, marks_in, triangles_in, numbers_in, StandsIn, record_in}
use Rattle.columns.proofs.Rooms.{many_points, many_triangles}
use Rattle.roommesh.specs.Numbered.{Numberable, ShellsNumbered}
use Rattle.meshread.specs.Lines.{edge_of, read_shell}
use Rattle.meshread.specs.Mesh.{Mesh, mesh_of}
use Rattle.meshread.specs.Promise.{mesh, own_records, Numbered}
use Rattle.meshread.proofs.Lines.{ShellFits, shell_exact}
use Rattle.meshform.specs.Form.{shell_lines}
use Rattle.sameshells.specs.Same.{said_of, shells_at, LinesThere, MeshLeft}
use Rattle.std.specs.Prelude.{Result, Ok, Err}
use Rattle.grid.specs.declared.refusal.Refusal.{Refusal}
use Rattle.grid.specs.declared.refusal.Refusal.TheVariants.{OtherShells}
use Rattle.judge.specs.declared.Judged.{Judged}
use Rattle.judge.specs.Judged.{Standing, mesh_in, JudgesSaid, others_shells, taken}

-- what was read does not depend on the number of the first line
any_line : (shells line other : ℕ) (bs : List ℕ) (ss : List Shell) → shell_lines shells line bs ≡ lined ss [] → shell_lines shells other bs ≡ lined ss []
any_line shells line other bs ss e =
    let a = lines_read (λ bound. read_shell) (λ shell. 0) shell_text (λ bound. ShellFits) (λ bound. shell_exact) shells 0 line bs ss [] e in
    let w = lines_written (λ bound. read_shell) (λ shell. 0) shell_text (λ bound. ShellFits) (λ bound. shell_exact) ss 0 other [] a.chain in
    ap (shell_lines shells other) a.text ∙ ap (λ k. shell_lines k other (flat_map shell_text ss ++ [])) (sym a.many) ∙ w

said_of_lem : {A : Type 0} {l : Lined (List A)} {xs : List A} {rest : List ℕ} → l ≡ lined xs rest → said_of l ≡ xs
unfolding said_of
said_of_lem e = rw e

module _ (v t shells : ℕ) (input : List ℕ) (from next : ℕ) (old : List ℕ) (f : Standing v t shells input from next old) where
  abbrev m : Mesh
  m = mesh_in f

  -- the mesh is what stands in the room
  points_in_lem : points_in v old ≡ m.points
  points_in_lem = f.lines.points_there

  marks_in_lem : marks_in v old ≡ m.marks
  marks_in_lem = f.lines.marks_there

  triangles_in_lem : triangles_in v t old ≡ m.triangles
  triangles_in_lem = f.lines.triangles_there

  marks_long : length (marks_in v old) ≡ v
  marks_long = many_points v t old f.whole

  -- the lines of the shells, read from line 0 on
  lines_0 : shell_lines shells 0 (drop next input) ≡ lined f.lines.shells []
  lines_0 = any_line shells (2 + v + t) 0 (drop next input) f.lines.shells f.lines.shells_read

  records_at : shells_at input next shells ≡ f.lines.shells
  records_at = said_of_lem lines_0

  pub lines_there : LinesThere input next shells
  lines_there = lines_0 ∙ ap (λ ss. lined ss []) (sym records_at)

  records_long : length f.lines.shells ≡ shells
  records_long = (lines_read (λ bound. read_shell) (λ shell. 0) shell_text (λ bound. ShellFits) (λ bound. shell_exact) shells 0 0 (drop next input) f.lines.shells [] lines_0).many

  module _ (passes : mesh_number (points_in v old) (triangles_in v t old) (marks_in v old) ≡ 0) where
    pub numberable : Numberable v t old
    numberable =
        record {
          whole = f.whole;
          few = f.few;
          triangles_few = f.triangles_few;
          corners = subst (λ n. triangles_fit (triangles_in v t old) n ≡ true) marks_long (passed (points_in v old) (triangles_in v t old) (marks_in v old) passes).corners_fit;
        }

    module _ (own : ℕ) (work : List ℕ) (n : ShellsNumbered v t old own work) where
      numbers_long : length n.numbers ≡ v
      numbers_long = n.numbered.long

      inside : numbers_at v t + length n.numbers ≤ length old
      inside = omega (arith, numbers_long, f.whole)

      before : (b long : ℕ) → b + long ≤ numbers_at v t → part_of b long work ≡ part_of b long old
      before b long l = ap (part_of b long) n.stays ∙ part_before old (numbers_at v t) n.numbers inside b long l

      points_work : points_in v work ≡ points_in v old
      points_work = before 0 (3 * v) (omega arith)

      marks_work : marks_in v work ≡ marks_in v old
      marks_work = before (marks_at v) v (omega arith)

      triangles_work : triangles_in v t work ≡ triangles_in v t old
      triangles_work = before (triangles_at v) (3 * t) (omega arith)

      numbers_work : numbers_in v t work ≡ n.numbers
      numbers_work =
          ap (part_of (numbers_at v t) v) n.stays ∙ ap (λ k. part_of (numbers_at v t) k (sets old (numbers_at v t) n.numbers)) (sym numbers_long) ∙ part_written old (numbers_at v t) n.numbers inside

      pub stands : StandsIn own v t work
      stands =
          record {
            whole = ap length n.stays ∙ length-sets old (numbers_at v t) n.numbers ∙ f.whole;
            passes = rw (points_work, triangles_work, marks_work) passes;
            numbered = rw (triangles_work, numbers_work) n.numbered;
          }

      numbered : Numbered m n.numbers own
      numbered =
          subst (λ ts. Numbering (triangles_of ts) (length m.marks) n.numbers own) triangles_in_lem
          (subst (λ k. Numbering (triangles_of (triangles_in v t old)) k n.numbers own) (sym marks_long ∙ ap length marks_in_lem) n.numbered)

      own_is : (k : ℕ) → list_to k (record_in v t work) ≡ own_records m n.numbers k
      own_is k =
          ap (λ ps. list_to k (record_of ps (triangles_in v t work) (marks_in v work) (numbers_in v t work))) (points_work ∙ points_in_lem)
          ∙ ap (λ ts. list_to k (record_of m.points ts (marks_in v work) (numbers_in v t work))) (triangles_work ∙ triangles_in_lem)
          ∙ ap (λ ms. list_to k (record_of m.points m.triangles ms (numbers_in v t work))) (marks_work ∙ marks_in_lem)
          ∙ ap (λ ns. list_to k (record_of m.points m.triangles m.marks ns)) numbers_work

      -- another number of shells, or other shells: 16
      module _ (r : Result Judged Refusal) (after : List ℕ) (zero : after ≡ replicate (length old) 0) (e : r ≡ Err OtherShells) where
        differ_with : (found : List ℕ) (k : ℕ) → Numbered m found k → (m.records ≡ own_records m found k → ⊥) → JudgesSaid (mesh m) input old r after
        differ_with found k numbers differ = others_shells m refl found k numbers differ e zero

        pub other_count : (own ≡ shells → ⊥) → JudgesSaid (mesh m) input old r after
        unfolding mesh_of
        other_count differ =
            differ_with n.numbers own numbered
            (λ q. differ (sym (ap length q ∙ length_list own (record_of m.points m.triangles m.marks n.numbers)) ∙ records_long))

        pub other_records : own ≡ shells → (shells_at input next shells ≡ list_to shells (record_in v t work) → ⊥) → JudgesSaid (mesh m) input old r after
        unfolding mesh_of
        other_records same differ =
            differ_with n.numbers own numbered (λ q. differ (records_at ∙ q ∙ sym (own_is own) ∙ ap (λ k. list_to k (record_in v t work)) same))

      -- granted
      pub own_records_lem : own ≡ shells → shells_at input next shells ≡ list_to shells (record_in v t work) → (after : List ℕ) → MeshLeft v t work after
          → JudgesSaid (mesh m) input old (Ok (record { counts = record { points = v; triangles = t; shells = shells }; points_at = from; shells_at = next })) after
      unfolding mesh_of
      own_records_lem same e after left =
          taken m refl n.numbers own numbered (sym records_at ∙ e ∙ sym (ap (λ k. list_to k (record_in v t work)) same) ∙ own_is own) _ refl
          (record {
            many_points = sym (sym (ap length marks_in_lem) ∙ marks_long);
            many_triangles = sym (many_triangles v t old f.whole) ∙ ap triangle_count triangles_in_lem;
            many_shells = sym records_long;
            behind = f.lines.behind;
            points_read = f.lines.points_read ∙ ap (λ vs. lined vs f.lines.behind) (sym (said_of_lem f.lines.points_read));
            shells_read = lines_there;
            points_are = left.points ∙ points_work ∙ points_in_lem;
            triangles_are = left.triangles ∙ triangles_work ∙ triangles_in_lem;
            edges_are = ap (map edge_of) (said_of_lem f.lines.points_read);
            marks_are = ap (map (λ row. get_or row 4 0)) (said_of_lem f.lines.points_read);
            records_are = records_at;
          })
