-- Points and triangles as their lines are read one after the other into the room.
use mathlib.Core.Path.{◌≡◌, refl, ap, sym, ◌∙◌}
use mathlib.Core.List.{List, [], ◌∷◌, ◌++◌, map, flat_map, map-append, append-nil}
use Prim.Native.Nat.{ℕ, suc, ◌+◌, ◌*◌, ◌-◌, ◌≤◌, ◌<◌}
use native.Mathlib.Omega.{arith}
use lib.ListN.{length, get_or, set, drop, length-append, length-map}
use lib.Seq.{sets}
use Rattle.laws.specs.Threes.{three_at}
use Rattle.laws.proofs.Ranges.{flat_append, length_flat}
use Rattle.laws.proofs.Writes.{sets_append}
use Rattle.reading.specs.Reading.{bad}
use Rattle.reading.specs.Lined.{wrong, read_lines}
use Rattle.reading.proofs.Turns.{behind, lines_begin, lines_turn, lines_stop, lines_done}
use Rattle.columns.specs.Room.{marks_at}
use Rattle.meshread.specs.Lines.{next_edge, read_point, read_triangle}
use Rattle.meshform.specs.Form.{point_lines, triangle_lines, with_points, PointTaken, TriangleTaken, Goes}
use Rattle.meshform.proofs.Rooms.{point_more}

abbrev xyz : List ℕ → List ℕ
xyz row = three_at row 1

-- one element more at the end of a list of rows
flat_more : (w : List ℕ → List ℕ) (rows : List (List ℕ)) (row : List ℕ) → flat_map w (rows ++ (row ∷ [])) ≡ flat_map w rows ++ w row
unfolding flat_map
flat_more w rows row = flat_append w rows (row ∷ []) ∙ ap (λ t. flat_map w rows ++ t) (append-nil (w row))

-- the first i points were read
pub record PointsRead (input : List ℕ) (from v : ℕ) (old work : List ℕ) (i at bound : ℕ) : Type 0 where
  pub vs : List (List ℕ)
  pub many : length vs ≡ i
  pub few : i ≤ v
  pub so_far : point_lines v (drop from input) ≡ behind vs (read_lines read_point next_edge (v - i) bound (i + 2) (drop at input))
  pub room : work ≡ with_points v vs old

pub points_begin : (input : List ℕ) (from v : ℕ) (work : List ℕ) → PointsRead input from v work work 0 from 0
unfolding flat_map
points_begin input from v work =
    let e : v - 0 ≡ v = omega arith in
    record { vs = []; many = refl; few = omega arith; so_far = rw e (lines_begin (point_lines v (drop from input))); room = refl }

module _ (input : List ℕ) (from v : ℕ) (old work : List ℕ) (i at bound : ℕ) (p : PointsRead input from v old work i at bound) where
  module _ (less : i < v) where
    pub points_stop : read_point bound (drop at input) ≡ bad → point_lines v (drop from input) ≡ wrong (i + 2)
    points_stop b = p.so_far ∙ lines_stop read_point next_edge v i bound (i + 2) (drop at input) p.vs less b

    pub points_next : (next least : ℕ) (after : List ℕ) → PointTaken input at bound i v work next least after → PointsRead input from v old after (i + 1) next least
    points_next next least after t =
        let row = t.row in
        let line : i + 2 + 1 ≡ i + 1 + 2 = omega arith in
        let turn = lines_turn read_point next_edge v i bound (i + 2) (drop at input) p.vs less row (drop next input) t.read in
        let long-xyz : length (flat_map xyz p.vs) ≡ 3 * i = length_flat 3 xyz (λ row. refl) p.vs ∙ ap (λ k. 3 * k) p.many in
        let long_marks : length (map (λ row. get_or row 4 0) p.vs) ≡ i = length-map p.vs (λ row. get_or row 4 0) ∙ p.many in
        record {
          vs = p.vs ++ (row ∷ []);
          many = length-append p.vs (row ∷ []) ∙ ap (λ k. k + 1) p.many;
          few = omega (arith, less);
          so_far = rw (t.above, sym line) (p.so_far ∙ turn);
          room =
              t.stored ∙ ap (λ z. set (set (set (set z (3 * i) (get_or row 1 0)) (3 * i + 1) (get_or row 2 0)) (3 * i + 2) (get_or row 3 0)) (marks_at v + i) (get_or row 4 0)) p.room
              ∙ point_more old (marks_at v) (flat_map xyz p.vs) (map (λ row. get_or row 4 0) p.vs) (3 * i) i (get_or row 1 0) (get_or row 2 0) (get_or row 3 0) (get_or row 4 0) (sym long-xyz) (sym long_marks) (omega (arith, less))
              ∙ rw (flat_more xyz p.vs row, map-append (λ row. get_or row 4 0) p.vs (row ∷ []));
        }

  pub points_done : v ≤ i → Goes (point_lines v (drop from input)) input at (λ vs. work ≡ with_points v vs old)
  points_done l = record { all = p.vs; lines = p.so_far ∙ lines_done read_point next_edge v i bound (i + 2) (drop at input) p.vs (omega (arith, p.few, l)); left = p.room }

-- the first k triangles were read
pub record TrianglesRead (input : List ℕ) (from t line base : ℕ) (old work : List ℕ) (k at : ℕ) : Type 0 where
  pub ts : List (List ℕ)
  pub many : length ts ≡ k
  pub few : k ≤ t
  pub so_far : triangle_lines t line (drop from input) ≡ behind ts (read_lines (λ bound. read_triangle) (λ row. 0) (t - k) 0 (line + k) (drop at input))
  pub room : work ≡ sets old base (flat_map (λ row. three_at row 0) ts)

pub triangles_begin : (input : List ℕ) (from t line base : ℕ) (work : List ℕ) → TrianglesRead input from t line base work work 0 from
unfolding flat_map
triangles_begin input from t line base work =
    let e : t - 0 ≡ t = omega arith in
    let f : line + 0 ≡ line = omega arith in
    record { ts = []; many = refl; few = omega arith; so_far = rw (e, f) (lines_begin (triangle_lines t line (drop from input))); room = refl }

module _ (input : List ℕ) (from t line base : ℕ) (old work : List ℕ) (k at : ℕ) (p : TrianglesRead input from t line base old work k at) where
  module _ (less : k < t) where
    pub triangles_stop : read_triangle (drop at input) ≡ bad → triangle_lines t line (drop from input) ≡ wrong (line + k)
    triangles_stop b = p.so_far ∙ lines_stop (λ bound. read_triangle) (λ row. 0) t k 0 (line + k) (drop at input) p.ts less b

    pub triangles_next : (next : ℕ) (after : List ℕ) → TriangleTaken input at (base + 3 * k) work next after → TrianglesRead input from t line base old after (k + 1) next
    triangles_next next after x =
        let row = x.row in
        let next-line : line + k + 1 ≡ line + (k + 1) = omega arith in
        let turn = lines_turn (λ bound. read_triangle) (λ row. 0) t k 0 (line + k) (drop at input) p.ts less row (drop next input) x.read in
        let xs : List ℕ = flat_map (λ row. three_at row 0) p.ts in
        let long : length xs ≡ 3 * k = length_flat 3 (λ row. three_at row 0) (λ row. refl) p.ts ∙ ap (λ n. 3 * n) p.many in
        let one : base + 3 * k + 1 ≡ suc (base + length xs) = omega arith in
        let two : base + 3 * k + 2 ≡ suc (suc (base + length xs)) = omega arith in
        let zero-th : base + 3 * k ≡ base + length xs = omega arith in
        record {
          ts = p.ts ++ (row ∷ []);
          many = length-append p.ts (row ∷ []) ∙ ap (λ n. n + 1) p.many;
          few = omega (arith, less);
          so_far = rw (sym next-line) (p.so_far ∙ turn);
          room =
              x.stored ∙ ap (λ z. set (set (set z (base + 3 * k) (get_or row 0 0)) (base + 3 * k + 1) (get_or row 1 0)) (base + 3 * k + 2) (get_or row 2 0)) p.room
              ∙ rw (one, two, zero-th) (sets_append old base xs (three_at row 0)) ∙ ap (sets old base) (sym (flat_more (λ row. three_at row 0) p.ts row));
        }

  pub triangles_done : t ≤ k → Goes (triangle_lines t line (drop from input)) input at (λ ts. work ≡ sets old base (flat_map (λ row. three_at row 0) ts))
  triangles_done l = record { all = p.ts; lines = p.so_far ∙ lines_done (λ bound. read_triangle) (λ row. 0) t k 0 (line + k) (drop at input) p.ts (omega (arith, p.few, l)); left = p.room }
