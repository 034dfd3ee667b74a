-- A mesh and the rows of numbers in its lines: the one from the other, and the text from the rows.
use mathlib.Core.Path.{◌≡◌, refl, ap, sym, ◌∙◌}
use mathlib.Core.List.{List, [], ◌∷◌, ◌++◌, map, flat_map, append_assoc}
use Prim.Native.Nat.{ℕ, ◌+◌, ◌*◌, ◌/◌, ◌<◌}
use native.Mathlib.Nat.{add-zero}
use native.Mathlib.Omega.{arith}
use lib.ListN.{length, get_or, length-map}
use Rattle.laws.specs.Range.{join_to}
use Rattle.laws.specs.Values.{list_to}
use Rattle.laws.specs.Threes.{three_at}
use Rattle.laws.specs.Sum.{All}
use Rattle.laws.proofs.Ranges.{all_entries, join_cong, map_join, length_flat}
use Rattle.laws.proofs.Rows.{join_flat, flat_at, join_threes}
use Rattle.laws.proofs.Values.{flat_list}
use Rattle.laws.proofs.Lists.{all_get, map_at}
use Rattle.lines.specs.Line.{lettered}
use Rattle.records.specs.declared.Shell.{Shell}
use Rattle.records.specs.Grown.{none}
use Rattle.meshlines.specs.MeshLines.{letter_v, letter_t, point_numbers, points_text, triangle_numbers, triangles_text}
use Rattle.shelllines.specs.ShellLines.{shell_text, shells_text}
use Rattle.meshtext.specs.MeshText.{letter_m, front_text, mesh_text}
use Rattle.meshread.specs.Lines.{edge_of}
use Rattle.meshread.specs.Mesh.{Mesh, mesh_of}
use Rattle.meshread.specs.Own.{text_of}

-- rows of five numbers and rows of three
abbrev pub Wide : ℕ → List (List ℕ) → Type 0
Wide k rows = All (λ row. length row ≡ k) rows

module _ (vs : List (List ℕ)) where
  abbrev places : List ℕ
  places = flat_map (λ row. three_at row 1) vs

  abbrev edges : List ℕ
  edges = map edge_of vs

  abbrev marks : List ℕ
  marks = map (λ row. get_or row 4 0) vs

  place_at : (i j : ℕ) → i < length vs → j < 3 → get_or places (3 * i + j) 0 ≡ get_or (three_at (get_or vs i []) 1) j 0
  place_at i j l m = flat_at [] 0 3 (λ row. three_at row 1) (λ row. refl) vs i j l m

  point_row : Wide 5 vs → (i : ℕ) → i < length vs → point_numbers places edges marks i ≡ get_or vs i []
  unfolding join_to
  point_row wide i l =
      let x : get_or places (3 * i) 0 ≡ get_or (get_or vs i []) 1 0 = ap (λ k. get_or places k 0) (sym (add-zero (3 * i))) ∙ place_at i 0 l (omega arith) in
      let y : get_or places (3 * i + 1) 0 ≡ get_or (get_or vs i []) 2 0 = place_at i 1 l (omega arith) in
      let z : get_or places (3 * i + 2) 0 ≡ get_or (get_or vs i []) 3 0 = place_at i 2 l (omega arith) in
      let e : get_or edges i 0 ≡ get_or (get_or vs i []) 0 0 = map_at edge_of vs i [] 0 l in
      let m : get_or marks i 0 ≡ get_or (get_or vs i []) 4 0 = map_at (λ row. get_or row 4 0) vs i [] 0 l in
      rw (e, x, y, z, m) (all_entries (get_or vs i []) 5 (sym (all_get (λ row. length row ≡ 5) vs i [] wide l)))

  pub points_rows : Wide 5 vs → points_text places edges marks (length marks) ≡ flat_map (lettered letter_v) vs
  unfolding points_text
  points_rows wide =
      rw (length-map vs (λ row. get_or row 4 0))
      (join_cong (length vs) (λ i. lettered letter_v (point_numbers places edges marks i)) (λ i. lettered letter_v (get_or vs i [])) (λ i l. ap (lettered letter_v) (point_row wide i l)) ∙ join_flat [] (lettered letter_v) vs)

module _ (ts : List (List ℕ)) where
  abbrev corners : List ℕ
  corners = flat_map (λ row. three_at row 0) ts

  corner_at : (i j : ℕ) → i < length ts → j < 3 → get_or corners (3 * i + j) 0 ≡ get_or (three_at (get_or ts i []) 0) j 0
  corner_at i j l m = flat_at [] 0 3 (λ row. three_at row 0) (λ row. refl) ts i j l m

  triangle_row : Wide 3 ts → (i : ℕ) → i < length ts → triangle_numbers corners i ≡ get_or ts i []
  unfolding join_to
  triangle_row wide i l =
      let a : get_or corners (3 * i) 0 ≡ get_or (get_or ts i []) 0 0 = ap (λ k. get_or corners k 0) (sym (add-zero (3 * i))) ∙ corner_at i 0 l (omega arith) in
      let b : get_or corners (3 * i + 1) 0 ≡ get_or (get_or ts i []) 1 0 = corner_at i 1 l (omega arith) in
      let c : get_or corners (3 * i + 2) 0 ≡ get_or (get_or ts i []) 2 0 = corner_at i 2 l (omega arith) in
      rw (a, b, c) (all_entries (get_or ts i []) 3 (sym (all_get (λ row. length row ≡ 3) ts i [] wide l)))

  pub corners_count : length corners / 3 ≡ length ts
  corners_count = let e = length_flat 3 (λ row. three_at row 0) (λ row. refl) ts in omega arith

  pub triangles_rows : Wide 3 ts → triangles_text corners (length corners / 3) ≡ flat_map (lettered letter_t) ts
  unfolding triangles_text
  triangles_rows wide =
      rw corners_count
      (join_cong (length ts) (λ i. lettered letter_t (triangle_numbers corners i)) (λ i. lettered letter_t (get_or ts i [])) (λ i l. ap (lettered letter_t) (triangle_row wide i l)) ∙ join_flat [] (lettered letter_t) ts)

-- the text of a mesh, from its rows
pub text_rows : (vs ts : List (List ℕ)) (shells : List Shell) → Wide 5 vs → Wide 3 ts
    → text_of (mesh_of vs ts shells) ≡ lettered letter_m (length vs ∷ length ts ∷ length shells ∷ []) ++ (flat_map (lettered letter_v) vs ++ (flat_map (lettered letter_t) ts ++ flat_map shell_text shells))
unfolding text_of mesh_text front_text mesh_of shells_text
text_rows vs ts shells wide_v wide_t =
    rw (points_rows vs wide_v, triangles_rows ts wide_t, length-map vs (λ row. get_or row 4 0), corners_count ts, join_flat none shell_text shells, append_assoc, append_assoc)

-- the rows of a mesh
abbrev pub point_rows : Mesh → List (List ℕ)
point_rows m = list_to (length m.marks) (point_numbers m.points m.edges m.marks)

abbrev pub triangle_rows : Mesh → List (List ℕ)
triangle_rows m = list_to (length m.triangles / 3) (triangle_numbers m.triangles)

-- a mesh whose lists fit each other is that of its rows
pub rows_mesh : (m : Mesh) → length m.points ≡ 3 * length m.marks → length m.edges ≡ length m.marks → length m.triangles ≡ 3 * (length m.triangles / 3)
    → mesh_of (point_rows m) (triangle_rows m) m.records ≡ m
unfolding mesh_of list_to
rows_mesh m p e t =
    let places : flat_map (λ row. three_at row 1) (point_rows m) ≡ m.points = flat_list (λ row. three_at row 1) (length m.marks) (point_numbers m.points m.edges m.marks) ∙ join_threes m.points (length m.marks) p in
    let edges : map edge_of (point_rows m) ≡ m.edges = map_join edge_of (length m.marks) (λ i. point_numbers m.points m.edges m.marks i ∷ []) ∙ all_entries m.edges (length m.marks) (sym e) in
    let marks : map (λ row. get_or row 4 0) (point_rows m) ≡ m.marks = map_join (λ row. get_or row 4 0) (length m.marks) (λ i. point_numbers m.points m.edges m.marks i ∷ []) ∙ all_entries m.marks (length m.marks) refl in
    let corners : flat_map (λ row. three_at row 0) (triangle_rows m) ≡ m.triangles = flat_list (λ row. three_at row 0) (length m.triangles / 3) (triangle_numbers m.triangles) ∙ join_threes m.triangles (length m.triangles / 3) t in
    rw (places, edges, marks, corners)
