-- What is written of a mesh that is taken is read as that mesh.
use mathlib.Core.Path.{◌≡◌, refl, ap, sym, ◌∙◌, subst}
use mathlib.Core.List.{List, [], ◌++◌, flat_map, append-nil}
use Prim.Native.Nat.{ℕ, suc, ◌+◌, ◌*◌, ◌/◌, ◌^◌, ◌≤◌, ◌<◌}
use native.Mathlib.Omega.{arith}
use lib.ListN.{length, get_or}
use borrow.Author.Tests.{le-leb}
use Rattle.laws.specs.Values.{list_to}
use Rattle.laws.specs.Sum.{All}
use Rattle.laws.proofs.Sums.{all_weaken}
use Rattle.laws.proofs.Lists.{all_get, all_of_places}
use Rattle.laws.proofs.Values.{length_list, list_at}
use Rattle.mesh.proofs.Places.{within_any}
use Rattle.mesh.proofs.Passed.{Passed, passed}
use Rattle.lines.specs.Line.{lettered}
use Rattle.reading.specs.Reading.{most_word}
use Rattle.reading.specs.Lined.{lined, following, read_end}
use Rattle.reading.proofs.Fields.{Numbers}
use Rattle.reading.proofs.Following.{Chain, lines_written}
use Rattle.records.specs.Record.{record_of}
use Rattle.records.specs.Grown.{none}
use Rattle.records.proofs.Within.{volume_within, record_words}
use Rattle.shelllist.proofs.Few.{no_more_than_points}
use Rattle.meshlines.specs.MeshLines.{letter_v, letter_t, point_numbers, triangle_numbers}
use Rattle.shelllines.specs.ShellLines.{counts_of as shellCounts, box_of, shell_text}
use Rattle.meshtext.specs.MeshText.{letter_m}
use Rattle.meshread.specs.Lines.{next_edge, read_point, read_triangle, read_shell}
use Rattle.meshread.specs.Mesh.{Mesh, read_lines_of}
use Rattle.meshread.specs.Promise.{Rooms, Outcome, lengths_of, mesh, room_number, with_mesh, with_lines, with_counts, said, granted, Reads, taken}
use Rattle.meshread.specs.Own.{text_of, counts_in, Own}
use Rattle.meshread.proofs.Lines.{numbers_of, counts_exact, PointFits, point_exact, triangle_exact, ShellFits, shell_exact}
use Rattle.meshread.proofs.Rows.{point_rows, triangle_rows, text_rows, rows_mesh}
use Rattle.reading.proofs.Chains.{chain_places, free_chain}
use Rattle.meshread.proofs.OneRead.{one_read}

module _ (m : Mesh) (own : Own m) where
  abbrev v : ℕ
  v = length m.marks

  abbrev t : ℕ
  t = length m.triangles / 3

  p : Passed m.points m.triangles m.marks
  p = passed m.points m.triangles m.marks own.passes

  abbrev row : ℕ → List ℕ
  row = point_numbers m.points m.edges m.marks

  -- the numbers of each line are below 2^32
  edge_small : (i : ℕ) → i < v → get_or m.edges i 0 ≤ most_word
  edge_small i l = let e = all_get (λ e. e < 2 ^ 32) m.edges i 0 own.below (omega (arith, own.edged)) in omega arith

  row_numbers_lem : (i : ℕ) → i < v → Numbers most_word 5 (row i)
  row_numbers_lem i l =
      (refl, (edge_small i l, (omega (arith, p.small (3 * i)), (omega (arith, p.small (3 * i + 1)), (omega (arith, p.small (3 * i + 2)), (omega (arith, within_any 1 m.marks i p.marks_fit), tt))))))

  corner_small : (i j : ℕ) → i < t → j < 3 → get_or m.triangles (3 * i + j) 0 ≤ most_word
  corner_small i j l k = omega (arith, p.named (3 * i + j) (omega (arith, p.whole)), p.few)

  corner_numbers : (i : ℕ) → i < t → Numbers most_word 3 (triangle_numbers m.triangles i)
  corner_numbers i l =
      let e : 3 * i + 0 ≡ 3 * i = omega arith in
      (refl, (subst (λ k. get_or m.triangles k 0 ≤ most_word) e (corner_small i 0 l (omega arith)), (corner_small i 1 l (omega arith), (corner_small i 2 l (omega arith), tt))))

  -- the lines fit, one after the other
  point_at_lem : (i : ℕ) → i < v → get_or (point_rows m) i [] ≡ row i
  point_at_lem i l = list_at v i row [] l

  points_chain : Chain PointFits next_edge 0 (point_rows m)
  points_chain = chain_places PointFits next_edge [] (point_rows m) 0 (λ l. first (omega (arith, l, length_list v row))) (λ i l. later i (omega (arith, l, length_list v row)))
    where
      first : 0 < v → PointFits 0 (get_or (point_rows m) 0 [])
      first l = rw (point_at_lem 0 l) (row_numbers_lem 0 l, le-leb 0 (get_or m.edges 0 0) (omega arith))

      later : (i : ℕ) → suc i < v → PointFits (next_edge (get_or (point_rows m) i [])) (get_or (point_rows m) (suc i) [])
      later i l =
          let e : i + 1 ≡ suc i = omega arith in
          let above : get_or m.edges i 0 < get_or m.edges (suc i) 0 = rw e at (own.rising i (omega (arith, own.edged))) in
          rw (point_at_lem i (omega arith), point_at_lem (suc i) l) (row_numbers_lem (suc i) l, le-leb (get_or m.edges i 0 + 1) (get_or m.edges (suc i) 0) (omega arith))

  triangles_fit_lem : All (Numbers most_word 3) (triangle_rows m)
  triangles_fit_lem =
      all_of_places (Numbers most_word 3) [] (triangle_rows m)
      (λ i l. let k : i < t = omega (arith, l, length_list t (triangle_numbers m.triangles)) in rw (list_at t i (triangle_numbers m.triangles) [] k) (corner_numbers i k))

  words : (ns : List ℕ) → All (λ n. n < 2 ^ 32) ns → All (λ n. n ≤ most_word) ns
  words ns a = all_weaken (λ n. n < 2 ^ 32) (λ n. n ≤ most_word) (λ n l. omega arith) ns a

  record_fits : (n : ℕ) → ShellFits (record_of m.points m.triangles m.marks own.found n)
  record_fits n =
      let s = record_of m.points m.triangles m.marks own.found n in
      let w = record_words m.points m.triangles m.marks own.passes own.found n in
      record { counts = words (shellCounts s) w.0; volume = volume_within m.points m.triangles m.marks own.passes own.found n; box = words (box_of s) w.1 }

  shells_fit : All ShellFits m.records
  shells_fit =
      let record_of_lem = record_of m.points m.triangles m.marks own.found in
      subst (All ShellFits) (sym own.records) (all_of_places ShellFits none (list_to own.shells record_of_lem)
      (λ n l. let k : n < own.shells = omega (arith, l, length_list own.shells record_of_lem) in subst ShellFits (sym (list_at own.shells n record_of_lem none k)) (record_fits n)))

  -- and so they are read
  lines_back : read_lines_of (counts_in m) (flat_map (lettered letter_v) (point_rows m) ++ (flat_map (lettered letter_t) (triangle_rows m) ++ flat_map shell_text m.records)) ≡ lined m []
  unfolding read_lines_of following read_end
  lines_back =
      let vs = lines_written read_point next_edge (lettered letter_v) PointFits point_exact (point_rows m) 0 2 (flat_map (lettered letter_t) (triangle_rows m) ++ flat_map shell_text m.records) points_chain in
      let ts = lines_written (λ bound. read_triangle) (λ row. 0) (lettered letter_t) (λ bound. Numbers most_word 3) (λ bound. triangle_exact) (triangle_rows m) 0 (2 + v) (flat_map shell_text m.records) (free_chain (Numbers most_word 3) (triangle_rows m) 0 triangles_fit_lem) in
      let ss = lines_written (λ bound. read_shell) (λ shell. 0) shell_text (λ bound. ShellFits) (λ bound. shell_exact) m.records 0 (2 + v + t) [] (free_chain ShellFits m.records 0 shells_fit) in
      let vs' = rw (length_list v row) at vs in
      let ts' = rw (length_list t (triangle_numbers m.triangles)) at ts in
      let ss' = rw (append-nil (flat_map shell_text m.records)) at ss in
      rw (vs', ts', ss') (ap (λ x. lined x []) (rows_mesh m p.threes own.edged p.whole))

  -- the text, from the rows
  text_is : text_of m ≡ lettered letter_m (numbers_of (counts_in m)) ++ (flat_map (lettered letter_v) (point_rows m) ++ (flat_map (lettered letter_t) (triangle_rows m) ++ flat_map shell_text m.records))
  text_is =
      let wide_v = all_of_places (λ r. length r ≡ 5) [] (point_rows m) (λ i l. ap length (point_at_lem i (omega (arith, l, length_list v row)))) in
      let wide_t = all_weaken (Numbers most_word 3) (λ r. length r ≡ 3) (λ r f. f.0) (triangle_rows m) triangles_fit_lem in
      ap text_of (sym (rows_mesh m p.threes own.edged p.whole)) ∙ text_rows (point_rows m) (triangle_rows m) m.records wide_v wide_t ∙ rw (length_list v row, length_list t (triangle_numbers m.triangles))

  few_shells : own.shells ≤ v
  few_shells = no_more_than_points m.points m.triangles m.marks own.found own.shells own.numbered

  counts_fit : Numbers most_word 3 (numbers_of (counts_in m))
  counts_fit = (refl, (omega (arith, p.few), (omega (arith, p.triangles_few), (omega (arith, p.few, few_shells, ap length own.records, length_list own.shells (record_of m.points m.triangles m.marks own.found)), tt))))

  module _ (r : Rooms) (holds : room_number (counts_in m) (lengths_of r) ≡ 0) where
    said_back : said (text_of m) (lengths_of r) ≡ mesh m
    unfolding said with_counts with_lines with_mesh
    said_back =
        rw (text_is, counts_exact.written (counts_in m) (flat_map (lettered letter_v) (point_rows m) ++ (flat_map (lettered letter_t) (triangle_rows m) ++ flat_map shell_text m.records)) counts_fit, holds, lines_back, own.passes)

    -- a mesh that passes, written with edge numbers that rise strictly and with its own records, is read as it is
    pub written_is_read : (o : Outcome) → Reads (text_of m) r o → o ≡ granted m r
    written_is_read o reads = one_read (text_of m) r o (granted m r) reads (taken m said_back own.found own.shells own.numbered own.records refl)
