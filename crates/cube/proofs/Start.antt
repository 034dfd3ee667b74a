-- Where fans start (document 02, request (ii)), and what it gives: no side of a case comes twice, and the sides that join two edges of one face are that face's segments. Each law
-- is one test that is computed over all 256 cases, and the law at a case.
use mathlib.Core.Path.{◌≡◌, refl, ap, sym, ◌∙◌}
use mathlib.Core.List.{List, [], ◌∷◌, ◌++◌, map, flat_map}
use mathlib.Core.Bool.{Bool, true, false, cond, ◌&&◌, and_comm, false≢true}
use Prim.Native.Nat.{ℕ, ◌+◌, ◌<◌, ◌≤◌}
use native.Mathlib.Omega.{arith}
use lib.Dec.{eqb, ltb}
use lib.ListN.{length}
use borrow.Author.Tests.{eqb-true}
use Rattle.laws.specs.Range.{one_if, sum_to, all_to}
use Rattle.laws.specs.Sum.{sum_of, all_of, keep_of, All}
use Rattle.laws.specs.Order.{is_in, without, rearranged, single}
use Rattle.laws.specs.Bits.{bit}
use Rattle.laws.specs.Mesh.{Arrow, flip, same_arrow, sides, total, times}
use Rattle.laws.proofs.Tests.{all_at, all_of_lem}
use Rattle.laws.proofs.Sums.{all_weaken, all_both, sum_same, sum_kept}
use Rattle.laws.proofs.Sides.{total_append, total_flip, total_rearranged, single_times}
use Rattle.cube.specs.Cube.{cases, case_of, is_above, edge_between, cube_edges}
use Rattle.cube.specs.Face.{go_round, cuts, way_round, face_segments, segments_of}
use Rattle.cube.specs.Loop.{loops, may_start}
use Rattle.cube.specs.Answer.{cube_faces, segments, fan_of, triangles}
use Rattle.cube.proofs.Corners.{faces_small, case_small, ring_of_case}

-- which diagonals are inner: of a loop of six from its first edge, those to the third, fourth and fifth. Each is tested alone, by a face that has only the two edges.
pub inner_diagonals : map (λ e. may_start ((0 ∷ e ∷ []) ∷ []) (0 ∷ 1 ∷ 2 ∷ 3 ∷ 4 ∷ 5 ∷ []) 0) (1 ∷ 2 ∷ 3 ∷ 4 ∷ 5 ∷ []) ≡ true ∷ false ∷ false ∷ false ∷ true ∷ []
unfolding may_start
inner_diagonals = refl

-- the edges at which the fan of a loop may start
unfoldable pub starts : List ℕ → List ℕ
starts loop = keep_of (may_start (map (go_round edge_between) cube_faces) loop) cube_edges

-- every loop of every case has a start
pub every_loop_starts : all_to cases (λ k. all_of (λ loop. ltb 0 (length (starts loop))) (loops cube_edges (segments k))) ≡ true
unfolding all_to all_of starts keep_of may_start loops segments segments_of flat_map face_segments cuts way_round is_above bit
every_loop_starts = refl

-- how many loops have so many edges, and how many of these may start at so many of them
unfoldable pub loops_like : ℕ → ℕ → ℕ
loops_like edges many = sum_to cases (λ k. sum_of (λ loop. one_if (eqb (length loop) edges && eqb (length (starts loop)) many)) (loops cube_edges (segments k)))

pub loop_classes : loops_like 3 3 ∷ loops_like 4 4 ∷ loops_like 5 5 ∷ loops_like 6 6 ∷ loops_like 6 2 ∷ loops_like 7 3 ∷ [] ≡ 144 ∷ 66 ∷ 72 ∷ 40 ∷ 12 ∷ 24 ∷ []
unfolding loops_like sum_to sum_of starts keep_of may_start loops segments segments_of flat_map face_segments cuts way_round is_above bit
loop_classes = refl

-- no side of a case comes twice
every_side_once : all_to cases (λ k. single same_arrow (sides (triangles k))) ≡ true
unfolding all_to single is_in same_arrow sides triangles fan_of loops segments segments_of flat_map face_segments cuts way_round is_above bit
every_side_once = refl

pub side_once : (k : ℕ) → k < cases → (e f : ℕ) → times (sides (triangles k)) e f ≤ 1
side_once k h = single_times (sides (triangles k)) (all_at cases (λ k. single same_arrow (sides (triangles k))) every_side_once k h)

-- an edge lies in a face, which is the ring of its corners
unfoldable pub in_face : List ℕ → ℕ → Bool
in_face ring e = is_in eqb e (go_round edge_between ring)

abbrev joins : List ℕ → Arrow → Bool
joins ring s = in_face ring s.from && in_face ring s.to

-- the sides that join two edges of a face are the segments of that face
face_kept : ℕ → List ℕ → Bool
face_kept k ring = rearranged same_arrow (keep_of (joins ring) (sides (triangles k))) (face_segments (is_above k) edge_between ring)

every_face_kept : all_to cases (λ k. all_of (face_kept k) cube_faces) ≡ true
unfolding all_to all_of face_kept rearranged is_in without keep_of in_face same_arrow sides triangles fan_of loops segments segments_of flat_map face_segments cuts way_round is_above bit
every_face_kept = refl

kept : (k : ℕ) (ring : List ℕ) → face_kept k ring ≡ true → (e f : ℕ) → in_face ring e ≡ true → in_face ring f ≡ true
    → times (sides (triangles k)) e f ≡ times (face_segments (is_above k) edge_between ring) e f
unfolding face_kept total
kept k ring h e f he hf =
    let w : ℕ → ℕ → ℕ = λ i j. one_if (eqb i e && eqb j f) in
    let v : Arrow → ℕ = λ s. w s.from s.to in
    sym (sum_kept (joins ring) v (sides (triangles k)) ∙ sum_same (λ s. cond (joins ring s) (v s) 0) v (λ s. alike s (joins ring s) refl) (sides (triangles k)))
    ∙ total_rearranged w (keep_of (joins ring) (sides (triangles k))) (face_segments (is_above k) edge_between ring) h
  where
    elsewhere : (s : Arrow) → joins ring s ≡ false → one_if (eqb s.from e && eqb s.to f) ≡ 0
    elsewhere s out = go (eqb s.from e) refl (eqb s.to f) refl
      where
        go : (b : Bool) → eqb s.from e ≡ b → (c : Bool) → eqb s.to f ≡ c → one_if (b && c) ≡ 0
        go true p true q = absurd (false≢true (sym out ∙ rw (eqb-true s.from e p, eqb-true s.to f q, he, hf)))
        go true p false q = refl
        go false p c q = refl

    alike : (s : Arrow) (b : Bool) → joins ring s ≡ b → cond b (one_if (eqb s.from e && eqb s.to f)) 0 ≡ one_if (eqb s.from e && eqb s.to f)
    alike s true h = refl
    alike s false h = sym (elsewhere s h)

-- no segment of a face comes twice, nor runs back where another runs
face_one_way : ℕ → List ℕ → Bool
face_one_way k ring = let ss = face_segments (is_above k) edge_between ring in single same_arrow (ss ++ map flip ss)

every_face_one_way : all_to cases (λ k. all_of (face_one_way k) cube_faces) ≡ true
unfolding all_to all_of face_one_way single is_in same_arrow face_segments cuts way_round is_above bit
every_face_one_way = refl

one_way : (ss : List Arrow) → single same_arrow (ss ++ map flip ss) ≡ true → (e f : ℕ) → times ss e f + times ss f e ≤ 1
one_way ss h e f =
    let w : ℕ → ℕ → ℕ = λ i j. one_if (eqb i e && eqb j f) in
    omega (
      arith,
      single_times (ss ++ map flip ss) h e f,
      total_append w ss (map flip ss),
      total_flip w ss,
      ap (λ w. total w ss) (λ i a b. one_if (and_comm (eqb b e) (eqb a f) i)),
    )

-- The same of a cube whose corners are given: a ring's segments are those of the case.
module _ (above : ℕ → Bool) where
  abbrev sides_there : List Arrow
  sides_there = sides (triangles (case_of above))

  at_rings : (test : ℕ → List ℕ → Bool) (Q : List ℕ → Type 0) → all_to cases (λ k. all_of (test k) cube_faces) ≡ true
      → ((ring : List ℕ) → test (case_of above) ring ≡ true → face_segments (is_above (case_of above)) edge_between ring ≡ face_segments above edge_between ring → Q ring) → All Q cube_faces
  at_rings test Q h then =
      let k = case_of above in
      let Passed : List ℕ → Type 0 = λ ring. test k ring ≡ true in
      let passed = all_of_lem (test k) Passed (λ ring t. t) cube_faces (all_at cases (λ k. all_of (test k) cube_faces) h k (case_small above)) in
      all_weaken (λ ring. Passed ring × All (λ c. c < 8) ring) Q (λ ring b. then ring b.0 (ring_of_case above edge_between ring b.1)) cube_faces
      (all_both Passed (All (λ c. c < 8)) cube_faces passed faces_small)

  -- a side that joins two edges of one face is a segment of that face, in the segment's direction
  abbrev pub SideIn : List ℕ → Type 0
  SideIn ring = (e f : ℕ) → in_face ring e ≡ true → in_face ring f ≡ true → times sides_there e f ≡ times (face_segments above edge_between ring) e f

  pub side_in_face : All SideIn cube_faces
  side_in_face = at_rings face_kept SideIn every_face_kept (λ ring t same e f he hf. kept (case_of above) ring t e f he hf ∙ ap (λ ss. times ss e f) same)

  -- no face has a segment from e to f and another from f to e, nor two from e to f
  abbrev pub OneWay : List ℕ → Type 0
  OneWay ring = (e f : ℕ) → times (face_segments above edge_between ring) e f + times (face_segments above edge_between ring) f e ≤ 1

  pub face_one_way_lem : All OneWay cube_faces
  unfolding face_one_way
  face_one_way_lem = at_rings face_one_way OneWay every_face_one_way (λ ring t same. rw (← same) (one_way (face_segments (is_above (case_of above)) edge_between ring) t))
