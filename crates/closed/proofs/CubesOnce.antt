-- What whole cubes owe so that no two triangles run the same way, and show: by the table's tests over all cases, and by tests over the edges of a cube and its sides.
use mathlib.Core.Path.{◌≡◌, refl, ap, ap₂, sym, ◌∙◌}
use mathlib.Core.List.{[], ◌∷◌, map}
use mathlib.Core.Bool.{Bool, true, not, ◌&&◌, ◌||◌, and_comm}
use mathlib.Core.Logic.{◌⊎◌, inl, inr}
use Prim.Native.Nat.{ℕ, zero, suc, ◌+◌, ◌*◌, ◌^◌, ◌<◌, ◌≤◌}
use native.Mathlib.Omega.{arith}
use lib.Dec.{eqb}
use borrow.Author.Tests.{eqb-true, eq-eqb}
use Rattle.laws.specs.Range.{one_if, all_to}
use Rattle.laws.specs.Sum.{sum_of}
use Rattle.laws.specs.Order.{is_in}
use Rattle.laws.specs.Mesh.{sides, total, times}
use Rattle.laws.proofs.Tests.{all_at, either, let_pass}
use Rattle.laws.proofs.Lists.{all_get}
use Rattle.cube.specs.Cube.{cube_edge_count, case_of, edge_between}
use Rattle.cube.specs.Face.{go_round, face_segments, segments_of, back}
use Rattle.cube.specs.Answer.{cube_faces, triangles}
use Rattle.cube.proofs.Cases.{edge_between_lem}
use Rattle.cube.proofs.Corners.{case_small}
use Rattle.cube.proofs.Rings.{ring}
use Rattle.cube.proofs.Turned.{face_turned}
use Rattle.cube.proofs.Start.{side_once, in_face, SideIn, side_in_face, OneWay, face_one_way_lem}
use Rattle.grid.specs.Grid.{along}
use Rattle.grid.specs.Mode.{cubes, direction_of, CubeEdge}
use Rattle.closed.specs.Pattern.{Ring, further, AtSide, low_faces, OwedOnce, cube_pattern}
use Rattle.closed.proofs.Pattern.{ring_by_ring}
use Rattle.closed.proofs.Cubes.{edge_either_way, cubes_owed}

edge_small : (e : ℕ) → CubeEdge cubes e → e < cube_edge_count
edge_small e c = omega (arith, c.coded)

told : (e f : ℕ) → CubeEdge cubes e → CubeEdge cubes f → cubes.low e ≡ cubes.low f → cubes.code e ≡ cubes.code f → e ≡ f
told e f a b low code =
    sym (edge_between_lem e (edge_small e a)) ∙ ap₂ (λ c a. edge_between c (c + 2 ^ a)) low code ∙ edge_between_lem f (edge_small f b)

-- whether two edges lie in one side across an axis
unfoldable in_one_side : ℕ → ℕ → ℕ → Bool
in_one_side axis e f =
    eqb (along (direction_of cubes e) axis) 0
    && (eqb (along (direction_of cubes f) axis) 0 && eqb (along (cubes.low e) axis) (along (cubes.low f) axis))

in_one_side_lem : (axis at e f : ℕ) → AtSide cubes axis at e → AtSide cubes axis at f → in_one_side axis e f ≡ true
unfolding in_one_side
in_one_side_lem axis at e f a b =
    rw (
      eq-eqb (along (direction_of cubes e) axis) 0 a.flat,
      eq-eqb (along (direction_of cubes f) axis) 0 b.flat,
      eq-eqb (along (cubes.low e) axis) (along (cubes.low f) axis) (a.stands ∙ sym b.stands),
    )

-- two edges that lie in one side across each of two axes are one edge, or the axes are one
sides_differ : ℕ → ℕ → ℕ → ℕ → Bool
sides_differ e f axis axis' = not (in_one_side axis e f && in_one_side axis' e f) || (eqb e f || eqb axis axis')

every_sides_differ : all_to cube_edge_count (λ e. all_to cube_edge_count (λ f. all_to 3 (λ axis. all_to 3 (λ axis'. sides_differ e f axis axis')))) ≡ true
unfolding all_to sides_differ in_one_side
every_sides_differ = refl

one_side : (e f : ℕ) → CubeEdge cubes e → CubeEdge cubes f → (e ≡ f → ⊥) → (axis at axis' at' : ℕ) → axis < 3 → axis' < 3
    → AtSide cubes axis at e → AtSide cubes axis at f → AtSide cubes axis' at' e → AtSide cubes axis' at' f → axis ≡ axis'
unfolding sides_differ
one_side e f ce cf apart axis at axis' at' l l' a b a' b' =
    let at-e = all_at cube_edge_count _ every_sides_differ e (edge_small e ce) in
    let at_f = all_at cube_edge_count _ at-e f (edge_small f cf) in
    let t = all_at 3 _ (all_at 3 _ at_f axis l) axis' l' in
    go (either (eqb e f) (eqb axis axis') (let_pass (in_one_side axis e f && in_one_side axis' e f) _ t (rw (in_one_side_lem axis at e f a b, in_one_side_lem axis' at' e f a' b'))))
  where
    go : (eqb e f ≡ true) ⊎ (eqb axis axis' ≡ true) → axis ≡ axis'
    go (inl q) = absurd (apart (eqb-true e f q))
    go (inr q) = eqb-true axis axis' q

-- the face at the low or the high side across an axis
abbrev face_at : ℕ → ℕ → Ring
face_at axis at = ring (2 * axis + at)

-- an edge at a side lies in its face
in_its_face : ℕ → ℕ → ℕ → Bool
in_its_face axis at e = not (eqb (along (direction_of cubes e) axis) 0 && eqb (along (cubes.low e) axis) at) || in_face (face_at axis at) e

every_edge_in_face : all_to 3 (λ axis. all_to 2 (λ at. all_to cube_edge_count (in_its_face axis at))) ≡ true
unfolding all_to in_its_face in_face is_in go_round
every_edge_in_face = refl

in_its_face_lem : (axis at e : ℕ) → axis < 3 → at < 2 → CubeEdge cubes e → AtSide cubes axis at e → in_face (face_at axis at) e ≡ true
unfolding in_its_face
in_its_face_lem axis at e l k c a =
    let t = all_at cube_edge_count (in_its_face axis at) (all_at 2 _ (all_at 3 _ every_edge_in_face axis l) at k) e (edge_small e c) in
    let_pass (eqb (along (direction_of cubes e) axis) 0 && eqb (along (cubes.low e) axis) at) _ t
    (rw (eq-eqb (along (direction_of cubes e) axis) 0 a.flat, eq-eqb (along (cubes.low e) axis) at a.stands))

-- what is said of the faces, in the words of the pattern
module _ (above : ℕ → Bool) where
  in_face_lem : (axis at e f : ℕ) → axis < 3 → at < 2 → CubeEdge cubes e → CubeEdge cubes f → AtSide cubes axis at e → AtSide cubes axis at f
      → times (sides (triangles (case_of above))) e f ≡ times (face_segments above edge_between (face_at axis at)) e f
  in_face_lem axis at e f l k ce cf a b =
      all_get (SideIn above) cube_faces (2 * axis + at) [] (side_in_face above) (omega arith) e f (in_its_face_lem axis at e l k ce a) (in_its_face_lem axis at f l k cf b)

  one_ring : (r : Ring) (e f : ℕ) → times (segments_of above edge_between (r ∷ [])) e f ≡ times (face_segments above edge_between r) e f
  unfolding sum_of
  one_ring r e f = omega (arith, ring_by_ring above edge_between (λ i j. one_if (eqb i e && eqb j f)) (r ∷ []))

  low_ring : (axis : ℕ) → axis < 3 → (e f : ℕ) → times (segments_of above edge_between (low_faces cube_pattern axis)) e f ≡ times (face_segments above edge_between (face_at axis 0)) e f
  low_ring zero l = one_ring (face_at 0 0)
  low_ring (suc zero) l = one_ring (face_at 1 0)
  low_ring (suc (suc zero)) l = one_ring (face_at 2 0)
  low_ring (suc (suc (suc axis))) l = absurd (omega arith)

  turned_ring : (i j k l e f : ℕ)
      → let r = i ∷ j ∷ k ∷ l ∷ [] in
      times (face_segments above edge_between (back r)) e f ≡ times (segments_of above edge_between (r ∷ [])) f e
  turned_ring i j k l e f =
      let r : Ring = i ∷ j ∷ k ∷ l ∷ [] in
      face_turned above edge_between edge_either_way (λ a b. one_if (eqb a e && eqb b f)) i j k l
      ∙ ap (λ w. total w (face_segments above edge_between r)) (λ t a b. one_if (and_comm (eqb b e) (eqb a f) t))
      ∙ sym (one_ring r f e)

  high_ring : (axis : ℕ) → axis < 3 → (e f : ℕ)
      → times (face_segments above edge_between (face_at axis 1)) e f ≡ times (segments_of above edge_between (map (further (2 ^ axis)) (low_faces cube_pattern axis))) f e
  unfolding back
  high_ring zero l = turned_ring 1 5 7 3
  high_ring (suc zero) l = turned_ring 2 3 7 6
  high_ring (suc (suc zero)) l = turned_ring 4 6 7 5
  high_ring (suc (suc (suc axis))) l = absurd (omega arith)

  one_way : (axis : ℕ) → axis < 3 → (e f : ℕ)
      → let cuts = segments_of above edge_between (low_faces cube_pattern axis) in
      times cuts e f + times cuts f e ≤ 1
  one_way axis l e f =
      omega (
        arith,
        low_ring axis l e f,
        low_ring axis l f e,
        all_get (OneWay above) cube_faces (2 * axis + 0) [] (face_one_way_lem above) (omega arith) e f,
      )

pub cubes_once : OwedOnce cubes
unfolding cubes_owed
cubes_once =
    record {
      owed = cubes_owed;
      told = told;
      one_side = one_side;
      once = λ above. side_once (case_of above) (case_small above);
      low_segment = λ axis l above e f ce cf a b. omega (arith, in_face_lem above axis 0 e f l (omega arith) ce cf a b, low_ring above axis l e f);
      high_segment = λ axis l above e f ce cf a b. omega (arith, in_face_lem above axis 1 e f l (omega arith) ce cf a b, high_ring above axis l e f);
      one_way = λ axis l above. one_way above axis l;
    }
