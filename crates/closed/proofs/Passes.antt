-- A mesh that the extractor left passes every check of a caller's mesh, so that no call on a mesh refuses it by 6, 7, 8 or 9.
use mathlib.Core.Path.{◌≡◌, ap, ◌∙◌}
use mathlib.Core.List.{List, [], ◌∷◌, map, flat_map}
use mathlib.Core.Bool.{Bool, true}
use Prim.Native.Nat.{ℕ, zero, suc, ◌*◌, ◌/◌, ◌%◌, ◌<◌, ◌≤◌}
use native.Mathlib.Omega.{arith}
use lib.ListN.{length, get_or, length-map}
use borrow.Author.Tests.{eq-eqb, ne_eqb, lt-ltb, le-leb}
use Rattle.laws.specs.Sum.{All}
use Rattle.laws.specs.Mesh.{Arrow, Triangle, triangle, sides, flat}
use Rattle.laws.proofs.Tests.{all_holds}
use Rattle.laws.proofs.Ranges.{length_flat}
use Rattle.laws.proofs.Lists.{all_get, all_of_places, all_flat}
use Rattle.laws.proofs.Sums.{all_map, all_weaken}
use Rattle.laws.proofs.Sides.{length_corners}
use Rattle.grid.specs.Limits.{most_side, most_points, most_triangles, most_coordinate}
use Rattle.grid.specs.Grid.{is_above_grey, mark, side}
use Rattle.grid.specs.Point.{point_edges, place}
use Rattle.grid.specs.Mode.{Mode}
use Rattle.grid.specs.Mesh.{mesh}
use Rattle.grid.specs.Work.{size}
use Rattle.grid.proofs.Points.{place_small, mark_small, point_of_edge}
use Rattle.grid.proofs.Sound.{PointSide, mesh_sound}
use Rattle.extract.specs.Extraction.{Rooms, Outcome}
use Rattle.extract.specs.Promise.{Extracts}
use Rattle.mesh.specs.Mesh.{triangle_count}
use Rattle.mesh.specs.Check.{lengths_fit, names_three, triangles_fit, all_within, mesh_number}
use Rattle.closed.specs.Pattern.{Owed}
use Rattle.closed.specs.Left.{mesh_left}
use Rattle.closed.proofs.Granted.{Granted, left_granted, triangle_at_flat, place_three}

within : (most : ℕ) (xs : List ℕ) → All (λ x. x ≤ most) xs → all_within most xs ≡ true
unfolding all_within
within most xs a = all_holds (length xs) _ (λ i l. le-leb (get_or xs i 0) most (all_get (λ x. x ≤ most) xs i 0 a l))

-- 7: where every side joins two different points below v, every triangle names three different points below v
module _ (v : ℕ) where
  abbrev Joins : Arrow → Type 0
  Joins s = (s.from < v) × (s.to < v) × (s.from ≡ s.to → ⊥)

  three_named : (ts : List Triangle) → All Joins (sides ts) → All (λ t. names_three v t ≡ true) ts
  unfolding sides names_three
  three_named [] a = tt
  three_named (t ∷ ts) a =
      let first = a.0 in
      let second = a.1.0 in
      let third = a.1.1.0 in (
        rw (
          lt-ltb t.one v first.0,
          lt-ltb t.two v second.0,
          lt-ltb t.three v third.0,
          ne_eqb t.one t.two first.2,
          ne_eqb t.two t.three second.2,
          ne_eqb t.three t.one third.2,
        ),
        three_named ts a.1.1.1,
      )

  flat_fits : (ts : List Triangle) → All Joins (sides ts) → triangles_fit (flat ts) v ≡ true
  unfolding triangles_fit
  flat_fits ts a =
      all_holds (triangle_count (flat ts)) _
      (λ i l.
      let below : i < length ts = omega (arith, l, length_corners ts) in
      ap (names_three v) (triangle_at_flat ts i (triangle 0 0 0) below)
      ∙ all_get (λ t. names_three v t ≡ true) ts i (triangle 0 0 0) (three_named ts a) below)

-- 6: three numbers a point and three a triangle, within the limits
lengths_fit_lem : (points triangles v t : ℕ) → points ≡ 3 * v → triangles ≡ 3 * t → v ≤ most_points → t ≤ most_triangles → lengths_fit points triangles v ≡ true
unfolding lengths_fit
lengths_fit_lem points triangles v t p q hv ht =
    rw (
      eq-eqb points (3 * v) p,
      eq-eqb (triangles % 3) 0 (omega arith),
      le-leb v most_points hv,
      le-leb (triangles / 3) most_triangles (omega arith),
    )

module _ (mode : Mode) (owed : Owed mode) (nx ny nz grey : ℕ) (samples : List ℕ) (before : Rooms) (after : Outcome) (extracts : Extracts mode nx ny nz grey samples before after)
    (none : after.number ≡ 0) where
  left : Granted mode nx ny nz grey samples before after
  left = left_granted mode nx ny nz grey samples before after extracts none

  abbrev above : ℕ → Bool
  above = is_above_grey grey samples

  abbrev points : List ℕ
  points = point_edges mode.kind (size nx ny nz) above

  abbrev v : ℕ
  v = length points

  -- 8: each point's place is within the limit
  most : (axis : ℕ) → side (size nx ny nz) axis ≤ most_side
  unfolding side
  most zero = left.sides_fit_lem.most_x
  most (suc zero) = left.sides_fit_lem.most_y
  most (suc (suc axis)) = left.sides_fit_lem.most_z

  places_fit : All (λ c. c ≤ most_coordinate) (flat_map (place mode.kind (size nx ny nz) grey samples) points)
  places_fit =
      all_flat (λ c. c ≤ most_coordinate) (place mode.kind (size nx ny nz) grey samples) points
      (all_of_places (λ e. All (λ c. c ≤ most_coordinate) (place mode.kind (size nx ny nz) grey samples e)) 0 points
      (λ p l. place_small mode.kind (size nx ny nz) grey samples most (get_or points p 0) (point_of_edge mode.kind (size nx ny nz) above p l).passes))

  marks_fit : All (λ m. m ≤ 1) (map (mark mode.kind (size nx ny nz)) points)
  marks_fit =
      all_map (λ m. m ≤ 1) (mark mode.kind (size nx ny nz)) points
      (all_of_places (λ e. mark mode.kind (size nx ny nz) e ≤ 1) 0 points (λ p l. mark_small mode.kind (size nx ny nz) above (get_or points p 0)))

  sides_join : All (Joins v) (sides (mesh mode (size nx ny nz) above))
  sides_join =
      all_weaken (PointSide mode (size nx ny nz) above) (Joins v) (λ s h. (h.start, h.end, h.apart)) (sides (mesh mode (size nx ny nz) above))
      (mesh_sound mode (size nx ny nz) above owed.cut)

  pub extract_passes : mesh_number (mesh_left after).points (mesh_left after).triangles (mesh_left after).marks ≡ 0
  unfolding mesh_number
  extract_passes =
      let ts = mesh mode (size nx ny nz) above in
      let many = length-map points (mark mode.kind (size nx ny nz)) in
      rw (left.places_are, left.triangles_are, left.marks_are, many)
      (rw (
        lengths_fit_lem (length (flat_map (place mode.kind (size nx ny nz) grey samples) points)) (length (flat ts)) v (length ts)
            (length_flat 3 (place mode.kind (size nx ny nz) grey samples) (place_three mode nx ny nz grey samples before) points)
            (length_corners ts)
            left.points_fit
            left.triangles_fit_lem,
        flat_fits v ts sides_join,
        within most_coordinate (flat_map (place mode.kind (size nx ny nz) grey samples) points) places_fit,
        within 1 (map (mark mode.kind (size nx ny nz)) points) marks_fit,
      ))
