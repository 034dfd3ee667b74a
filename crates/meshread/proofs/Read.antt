-- What was read is a mesh that is taken, and its text is what was read.
use mathlib.Core.Path.{◌≡◌, refl, ap, sym, ◌∙◌, subst}
use mathlib.Core.List.{List, [], ◌∷◌, ◌++◌, map, flat_map, append-nil}
use mathlib.Core.Bool.{Bool, true, false, cond, not}
use Prim.Native.Nat.{ℕ, suc, ◌+◌, ◌*◌, ◌/◌, ◌^◌, ◌<◌}
use native.Mathlib.Omega.{arith}
use lib.Dec.{eqb}
use lib.ListN.{length, get_or, length-map}
use borrow.Author.Tests.{eqb-true, eqb-false, leb-true}
use Rattle.laws.specs.Sum.{All}
use Rattle.laws.proofs.Sums.{all_map}
use Rattle.laws.proofs.Lists.{map_at}
use Rattle.laws.proofs.Rooms.{laid_read}
use Rattle.mesh.specs.Check.{mesh_number}
use Rattle.mesh.proofs.Passed.{passed}
use Rattle.lines.specs.Line.{lettered}
use Rattle.reading.specs.Reading.{most_word, Got, bad, got}
use Rattle.reading.specs.Lined.{Lined, wrong, lined, read_lines}
use Rattle.reading.proofs.Fields.{Numbers}
use Rattle.reading.proofs.Following.{earlier, AreLines, lines_read, end_read}
use Rattle.meshlines.specs.MeshLines.{letter_v, letter_t}
use Rattle.shelllines.specs.ShellLines.{shell_text}
use Rattle.meshtext.specs.MeshText.{letter_m}
use Rattle.meshread.specs.Lines.{Counts, edge_of, next_edge, read_counts, read_point, read_triangle, read_shell}
use Rattle.meshread.specs.Mesh.{Mesh, mesh_of, read_lines_of}
use Rattle.meshread.specs.Promise.{Rooms, Outcome, Lengths, lengths_of, room_number, Said, refusal, mesh, with_mesh, with_lines, with_counts, said, granted, Reads, refused_early, others_shells, taken}
use Rattle.meshread.specs.Own.{text_of, counts_in, Rising, Own, mesh_left}
use Rattle.meshread.proofs.Lines.{numbers_of, counts_exact, PointFits, point_exact, edge_small, triangle_exact, ShellFits, shell_exact}
use Rattle.meshread.proofs.Rows.{Wide, corners_count, text_rows}
use Rattle.reading.proofs.Chains.{chain_next, chain_all}
use Rattle.meshread.proofs.OneRead.{never_said, same_mesh}

-- the lines behind line 1 that say a mesh
pub record Behind (c : Counts) (bs : List ℕ) (m : Mesh) : Type 0 where
  pub vs : List (List ℕ)
  pub ts : List (List ℕ)
  pub after_vs : List ℕ
  pub after_ts : List ℕ
  pub points : AreLines read_point next_edge (lettered letter_v) PointFits point_exact c.points 0 bs vs after_vs
  pub triangles : AreLines (λ bound. read_triangle) (λ row. 0) (lettered letter_t) (λ bound. Numbers most_word 3) (λ bound. triangle_exact) c.triangles 0 after_vs ts after_ts
  pub shells : AreLines (λ bound. read_shell) (λ shell. 0) shell_text (λ bound. ShellFits) (λ bound. shell_exact) c.shells 0 after_ts m.records []
  pub whole : m ≡ mesh_of vs ts m.records

behind : (c : Counts) (bs : List ℕ) (m : Mesh) (rest : List ℕ) → read_lines_of c bs ≡ lined m rest → Behind c bs m
unfolding read_lines_of mesh_of
behind c bs m rest e =
    let first_t = 2 + c.points in
    let first-s = first_t + c.triangles in
    let a = earlier _ (read_lines read_point next_edge c.points 0 2 bs) m rest e in
    let b = earlier _ (read_lines (λ bound. read_triangle) (λ row. 0) c.triangles 0 first_t a.more) m rest a.then in
    let d = earlier _ (read_lines (λ bound. read_shell) (λ shell. 0) c.shells 0 first-s b.more) m rest b.then in
    let z = end_read (first-s + c.shells) (mesh_of a.first b.first d.first) m d.more rest d.then in
    let q : d.first ≡ m.records = ap (λ x. x.records) z.1 in
    record {
      vs = a.first;
      ts = b.first;
      after_vs = a.more;
      after_ts = b.more;
      points = lines_read read_point next_edge (lettered letter_v) PointFits point_exact c.points 0 2 bs a.first a.more a.here;
      triangles = lines_read (λ bound. read_triangle) (λ row. 0) (lettered letter_t) (λ bound. Numbers most_word 3) (λ bound. triangle_exact) c.triangles 0 first_t a.more b.first b.more b.here;
      shells = lines_read (λ bound. read_shell) (λ shell. 0) shell_text (λ bound. ShellFits) (λ bound. shell_exact) c.shells 0 first-s b.more m.records [] (d.here ∙ ap (λ x. lined x d.more) q ∙ ap (lined m.records) z.0);
      whole = sym z.1 ∙ ap (mesh_of a.first b.first) q;
    }

-- a text that says a mesh
pub record Text (input : List ℕ) (l : Lengths) (m : Mesh) : Type 0 where
  pub counts : Counts
  pub rest : List ℕ
  pub head : read_counts input ≡ got counts rest
  pub holds : room_number counts l ≡ 0
  pub lines : Behind counts rest m
  pub passes : mesh_number m.points m.triangles m.marks ≡ 0

pub text_says : (input : List ℕ) (l : Lengths) (m : Mesh) → said input l ≡ mesh m → Text input l m
unfolding said with_counts with_lines with_mesh
text_says input l m e = headed (read_counts input) refl e
  where
    checked : (c : Counts) (rest : List ℕ) → read_counts input ≡ got c rest → room_number c l ≡ 0 → (n : Mesh) (more : List ℕ) → read_lines_of c rest ≡ lined n more
        → (t : Bool) → eqb (mesh_number n.points n.triangles n.marks) 0 ≡ t → cond (not t) (refusal (mesh_number n.points n.triangles n.marks) 0 true) (mesh n) ≡ mesh m → Text input l m
    checked c rest h o n more r true q e =
        let s : n ≡ m = same_mesh refl e in
        subst (Text input l) s (record { counts = c; rest = rest; head = h; holds = o; lines = behind c rest n more r; passes = eqb-true (mesh_number n.points n.triangles n.marks) 0 q })
    checked c rest h o n more r false q e = never_said refl e

    lined_up : (c : Counts) (rest : List ℕ) → read_counts input ≡ got c rest → room_number c l ≡ 0 → (read : Lined Mesh) → read_lines_of c rest ≡ read → with_lines read ≡ mesh m → Text input l m
    lined_up c rest h o (wrong line) r e = never_said refl e
    lined_up c rest h o (lined n more) r e = checked c rest h o n more r (eqb (mesh_number n.points n.triangles n.marks) 0) refl e

    roomy : (c : Counts) (rest : List ℕ) → read_counts input ≡ got c rest → (t : Bool) → eqb (room_number c l) 0 ≡ t → cond (not t) (refusal (room_number c l) 0 false) (with_lines (read_lines_of c rest)) ≡ mesh m → Text input l m
    roomy c rest h true q e = lined_up c rest h (eqb-true (room_number c l) 0 q) (read_lines_of c rest) refl e
    roomy c rest h false q e = never_said refl e

    headed : (read : Got Counts) → read_counts input ≡ read → with_counts l read ≡ mesh m → Text input l m
    headed bad h e = never_said refl e
    headed (got c rest) h e = roomy c rest h (eqb (room_number c l) 0) refl e

module _ (input : List ℕ) (l : Lengths) (m : Mesh) (x : Text input l m) where
  abbrev vs : List (List ℕ)
  vs = x.lines.vs

  abbrev ts : List (List ℕ)
  ts = x.lines.ts

  wide_v : Wide 5 vs
  wide_v = chain_all PointFits next_edge (λ row. length row ≡ 5) (λ bound row f. f.0.0) vs 0 x.lines.points.chain

  wide_t : Wide 3 ts
  wide_t = chain_all (λ bound. Numbers most_word 3) (λ row. 0) (λ row. length row ≡ 3) (λ bound row f. f.0) ts 0 x.lines.triangles.chain

  counts_are : numbers_of x.counts ≡ length vs ∷ length ts ∷ length m.records ∷ []
  counts_are = rw (x.lines.points.many, x.lines.triangles.many, x.lines.shells.many)

  -- the text of what was read is what was read
  text_back : text_of m ≡ input
  text_back =
      let front : List ℕ = lettered letter_m (numbers_of x.counts) in
      let t : text_of m ≡ front ++ (flat_map (lettered letter_v) vs ++ (flat_map (lettered letter_t) ts ++ flat_map shell_text m.records)) =
      ap text_of x.lines.whole ∙ text_rows vs ts m.records wide_v wide_t ∙ ap (λ ns. lettered letter_m ns ++ (flat_map (lettered letter_v) vs ++ (flat_map (lettered letter_t) ts ++ flat_map shell_text m.records))) (sym counts_are) in
      let s : x.lines.after_ts ≡ flat_map shell_text m.records = x.lines.shells.text ∙ append-nil (flat_map shell_text m.records) in
      let i : input ≡ front ++ (flat_map (lettered letter_v) vs ++ (flat_map (lettered letter_t) ts ++ flat_map shell_text m.records)) =
      counts_exact.was x.counts input x.rest x.head
      ∙ ap (λ l. front ++ l) (x.lines.points.text ∙ ap (λ l. flat_map (lettered letter_v) vs ++ l) (x.lines.triangles.text ∙ ap (λ l. flat_map (lettered letter_t) ts ++ l) s)) in
      t ∙ sym i

  -- edge numbers are below 2^32 and rise
  edges_are : m.edges ≡ map edge_of vs
  unfolding mesh_of
  edges_are = ap (λ n. n.edges) x.lines.whole

  marks_are : m.marks ≡ map (λ row. get_or row 4 0) vs
  unfolding mesh_of
  marks_are = ap (λ n. n.marks) x.lines.whole

  edges_below : All (λ e. e < 2 ^ 32) m.edges
  edges_below = rw edges_are (all_map (λ e. e < 2 ^ 32) edge_of vs (chain_all PointFits next_edge (λ row. edge_of row < 2 ^ 32) (λ bound row f. edge_small row f.0) vs 0 x.lines.points.chain))

  edges_rise : Rising m.edges
  edges_rise i l =
      let long : length m.edges ≡ length vs = ap length edges_are ∙ length-map vs edge_of in
      let e : i + 1 ≡ suc i = omega arith in
      let f = chain_next PointFits next_edge [] vs 0 i x.lines.points.chain (omega (arith, long, l)) in
      let above = leb-true (edge_of (get_or vs i []) + 1) (edge_of (get_or vs (suc i) [])) f.1 in
      rw (e, edges_are) (omega (arith, map_at edge_of vs i [] 0 (omega (arith, long, l)), map_at edge_of vs (suc i) [] 0 (omega (arith, long, l)), above))

  edged : length m.edges ≡ length m.marks
  edged = ap length edges_are ∙ length-map vs edge_of ∙ sym (ap length marks_are ∙ length-map vs (λ row. get_or row 4 0))

  -- line 1's numbers are those of the mesh
  pub counts_in_lem : counts_in m ≡ x.counts
  unfolding mesh_of
  counts_in_lem =
      let t : length m.triangles / 3 ≡ length ts = ap (λ n. length n.triangles / 3) x.lines.whole ∙ corners_count ts in
      rw (ap length marks_are ∙ length-map vs (λ row. get_or row 4 0) ∙ x.lines.points.many, t ∙ x.lines.triangles.many, x.lines.shells.many)

-- a refusal has a number
pub refused_not_0 : (input : List ℕ) (l : Lengths) (number line : ℕ) (zeroed : Bool) → said input l ≡ refusal number line zeroed → number ≡ 0 → ⊥
unfolding said with_counts with_lines with_mesh
refused_not_0 input l number line zeroed e z = headed (read_counts input) e
  where
    numbered : (n at : ℕ) (w : Bool) → refusal n at w ≡ refusal number line zeroed → (n ≡ 0 → ⊥) → ⊥
    numbered n at w e other = let q : n ≡ number = cc in other (q ∙ z)

    tested : (n : ℕ) (w : Bool) (s : Said) → ((s ≡ refusal number line zeroed) → ⊥) → (t : Bool) → eqb n 0 ≡ t → cond (not t) (refusal n 0 w) s ≡ refusal number line zeroed → ⊥
    tested n w s other true h e = other e
    tested n w s other false h e = numbered n 0 w e (eqb-false n 0 h)

    lined_up : (read : Lined Mesh) → with_lines read ≡ refusal number line zeroed → ⊥
    lined_up (wrong at) e = numbered 15 at true e (λ w. absurd (omega arith))
    lined_up (lined n more) e = tested (mesh_number n.points n.triangles n.marks) true (mesh n) (λ f. never_said f refl) (eqb (mesh_number n.points n.triangles n.marks) 0) refl e

    headed : (read : Got Counts) → with_counts l read ≡ refusal number line zeroed → ⊥
    headed bad e = numbered 15 1 false e (λ w. absurd (omega arith))
    headed (got c rest) e = tested (room_number c l) false (with_lines (read_lines_of c rest)) (lined_up (read_lines_of c rest)) (eqb (room_number c l) 0) refl e

-- a mesh that was laid over the front of rooms that hold it stands there
left_again : (m : Mesh) (r : Rooms) → length m.points ≡ 3 * length m.marks → length m.edges ≡ length m.marks → length m.triangles ≡ 3 * (length m.triangles / 3)
    → mesh_left (granted m r) ≡ m
unfolding mesh_left granted
left_again m r p e t =
    rw (
      laid_read m.points r.points (3 * length m.marks) p,
      laid_read m.edges r.edges (length m.marks) e,
      laid_read m.marks r.marks (length m.marks) refl,
      laid_read m.triangles r.triangles (3 * (length m.triangles / 3)) t,
      laid_read m.records r.records (length m.records) refl,
    )

-- what a granted call left: a mesh that is taken, for which there is room, and whose text was the input
pub record Back (input : List ℕ) (r : Rooms) (m : Mesh) : Type 0 where
  pub own : Own m
  pub text : text_of m ≡ input
  pub holds : room_number (counts_in m) (lengths_of r) ≡ 0

pub read_is_written : (input : List ℕ) (r : Rooms) (o : Outcome) → Reads input r o → o.number ≡ 0 → Back input r (mesh_left o)
read_is_written input r o (refused_early n l w e f) z = absurd (refused_not_0 input (lengths_of r) n l w e (ap (λ x. x.number) (sym f) ∙ z))
read_is_written input r o (others_shells m e found shells N n f) z = absurd (omega (arith, ap (λ x. x.number) f))
read_is_written input r o (taken m e found shells N w f) z =
    let x = text_says input (lengths_of r) m e in
    let p = passed m.points m.triangles m.marks x.passes in
    let l : m ≡ mesh_left o = sym (left_again m r p.threes (edged input (lengths_of r) m x) p.whole) ∙ ap mesh_left (sym f) in
    subst (Back input r) l
    (record {
      own = record { passes = x.passes; edged = edged input (lengths_of r) m x; below = edges_below input (lengths_of r) m x; rising = edges_rise input (lengths_of r) m x; found = found; shells = shells; numbered = N; records = w };
      text = text_back input (lengths_of r) m x;
      holds = ap (λ c. room_number c (lengths_of r)) (counts_in_lem input (lengths_of r) m x) ∙ x.holds;
    })
