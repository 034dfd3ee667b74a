-- What a granted call of the extractor left, read out of the front of the lent rooms: the defined points, marks and triangles.
use mathlib.Core.Path.{◌≡◌, refl, ap, sym, ◌∙◌, subst}
use mathlib.Core.List.{List, [], ◌∷◌, map, flat_map}
use mathlib.Core.Bool.{Bool, true, false, cond, not}
use Prim.Native.Nat.{ℕ, zero, suc, ◌+◌, ◌*◌, ◌<◌, ◌≤◌, min}
use native.Mathlib.Nat.{mul-one}
use native.Mathlib.Omega.{arith}
use lib.Dec.{eqb, ltb}
use lib.ListN.{length, get_or, length-map}
use lib.Seq.{ext_get_or, get_or-append-add}
use borrow.Author.Tests.{ltb-false}
use Rattle.laws.specs.Range.{join_to}
use Rattle.laws.specs.Mesh.{Triangle, triangle, corners_of, flat}
use Rattle.laws.proofs.Ranges.{length_flat}
use Rattle.laws.proofs.Rooms.{laid_read}
use Rattle.laws.proofs.Rows.{length_rows, entry_at}
use Rattle.laws.proofs.Sides.{length_corners}
use Rattle.grid.specs.Limits.{most_points, most_triangles}
use Rattle.grid.specs.Grid.{Size, Kind, sample_count, edge_count, mark}
use Rattle.grid.specs.Point.{place}
use Rattle.grid.specs.Mode.{Mode}
use Rattle.grid.specs.Sides.{sides_fit}
use Rattle.grid.specs.Work.{size, SidesFit}
use Rattle.grid.proofs.Sides.{sides_within}
use Rattle.extract.specs.Extraction.{Rooms, Outcome, refused, cleared, point_list, triangle_list, point_room, triangle_room, granted, measured, extracted}
use Rattle.extract.specs.Promise.{Extracts}
use Rattle.mesh.specs.Mesh.{triangle_count, triangle_at, triangles_of}
use Rattle.closed.specs.Left.{mesh_left, edges_left}

-- triangles written flat and read again
past_one : (t : Triangle) (ts : List Triangle) (k at : ℕ) → at ≡ 3 + k → get_or (flat (t ∷ ts)) at 0 ≡ get_or (flat ts) k 0
unfolding flat flat_map
past_one t ts k at e = rw e (get_or-append-add (corners_of t) (flat ts) k 0)

pub triangle_at_flat : (ts : List Triangle) (i : ℕ) (d : Triangle) → i < length ts → triangle_at (flat ts) i ≡ get_or ts i d
unfolding flat flat_map
triangle_at_flat [] i d l = absurd (omega arith)
triangle_at_flat (t ∷ ts) zero d l = refl
triangle_at_flat (t ∷ ts) (suc i) d l =
    let a = past_one t ts (3 * i) (3 * suc i) (omega arith) in
    let b = past_one t ts (3 * i + 1) (3 * suc i + 1) (omega arith) in
    let c = past_one t ts (3 * i + 2) (3 * suc i + 2) (omega arith) in
    (λ j. triangle (a j) (b j) (c j)) ∙ triangle_at_flat ts i d (omega arith)

pub triangles_of_flat : (ts : List Triangle) → triangles_of (flat ts) ≡ ts
unfolding triangles_of
triangles_of_flat ts = ext_get_or (triangle 0 0 0) (join_to (triangle_count (flat ts)) one) ts (many ∙ count) at
  where
    one : ℕ → List Triangle
    one i = triangle_at (flat ts) i ∷ []

    count : triangle_count (flat ts) ≡ length ts
    count = omega (arith, length_corners ts)

    many : length (join_to (triangle_count (flat ts)) one) ≡ triangle_count (flat ts)
    many = length_rows 1 one (λ i. refl) (triangle_count (flat ts)) ∙ mul-one (triangle_count (flat ts))

    at : (i : ℕ) → i < length (join_to (triangle_count (flat ts)) one)
        → get_or (join_to (triangle_count (flat ts)) one) i (triangle 0 0 0) ≡ get_or ts i (triangle 0 0 0)
    at i l =
        let place : i ≡ i * 1 + 0 = omega arith in
        ap (λ i. get_or (join_to (triangle_count (flat ts)) one) i (triangle 0 0 0)) place
        ∙ entry_at 1 one (λ i. refl) (triangle_count (flat ts)) i 0 (triangle 0 0 0) (omega (arith, many)) (omega arith)
        ∙ triangle_at_flat ts i (triangle 0 0 0) (omega (arith, many, count))

-- no refusal has the number 0
module _ (r : Rooms) (g : Outcome) where
  only_granted : (sides samples work points triangles : Bool)
      → let o = cond (not sides) (refused 1 r)
      (cond (not samples) (refused 2 r)
      (cond (not work) (refused 3 r) (cond points (refused 4 (cleared r)) (cond triangles (refused 5 (cleared r)) g)))) in
      o.number ≡ 0 → (o ≡ g) × (sides ≡ true) × (points ≡ false) × (triangles ≡ false)
  unfolding refused
  only_granted false samples work points triangles e = absurd (omega (arith, e))
  only_granted true false work points triangles e = absurd (omega (arith, e))
  only_granted true true false points triangles e = absurd (omega (arith, e))
  only_granted true true true true triangles e = absurd (omega (arith, e))
  only_granted true true true false true e = absurd (omega (arith, e))
  only_granted true true true false false e = (refl, refl, refl, refl)

module _ (mode : Mode) (nx ny nz grey : ℕ) (samples : List ℕ) (before : Rooms) where
  abbrev k : Kind
  k = mode.kind

  abbrev n : Size
  n = size nx ny nz

  abbrev points : List ℕ
  points = point_list mode n grey samples before

  abbrev triangles : List Triangle
  triangles = triangle_list mode n grey samples before

  -- the sides fit, the counts are within the limits, and what is left in the front of the rooms is what is defined
  pub record Granted (after : Outcome) : Type 0 where
    pub sides_fit_lem : SidesFit nx ny nz
    pub points_fit : length points ≤ most_points
    pub triangles_fit_lem : length triangles ≤ most_triangles
    pub edges_are : edges_left after ≡ points
    pub places_are : (mesh_left after).points ≡ flat_map (place k n grey samples) points
    pub marks_are : (mesh_left after).marks ≡ map (mark k n) points
    pub triangles_are : (mesh_left after).triangles ≡ flat triangles

  pub place_three : (e : ℕ) → length (place k n grey samples e) ≡ 3
  unfolding place
  place_three e = refl

  left_by_granted : SidesFit nx ny nz → length points ≤ most_points → length triangles ≤ most_triangles → Granted (granted mode n grey samples before)
  unfolding edges_left mesh_left granted
  left_by_granted s p t =
      record {
        sides_fit_lem = s;
        points_fit = p;
        triangles_fit_lem = t;
        edges_are = laid_read points before.edges (length points) refl;
        places_are =
            laid_read (flat_map (place k n grey samples) points) before.points (3 * length points) (length_flat 3 (place k n grey samples) place_three points);
        marks_are = laid_read (map (mark k n) points) before.marks (length points) (length-map points (mark k n));
        triangles_are = laid_read (flat triangles) before.triangles (3 * length triangles) (length_corners triangles);
      }

  pub left_granted : (after : Outcome) → Extracts mode nx ny nz grey samples before after → after.number ≡ 0 → Granted after
  unfolding extracted measured
  left_granted after e none =
      let g =
      only_granted before (granted mode n grey samples before) (sides_fit nx ny nz) (eqb (length samples) (sample_count n))
      (eqb (length before.work) (edge_count k n))
      (ltb (min most_points (point_room mode n grey samples before)) (length points))
      (ltb (min most_triangles (triangle_room mode n grey samples before)) (length triangles))
      (ap (λ o. o.number) (sym e) ∙ none) in
      subst Granted (sym (e ∙ g.0))
      (left_by_granted (sides_within nx ny nz g.1)
      (omega (arith, ltb-false (min most_points (point_room mode n grey samples before)) (length points) g.2))
      (omega (arith, ltb-false (min most_triangles (triangle_room mode n grey samples before)) (length triangles) g.3)))
