-- How large a point's sums are: after n triangles at most 6n times as large as one addend may be, so they are finite.
use mathlib.Core.Bool.{Bool, true, false, cond}
use mathlib.Core.List.{List}
use mathlib.Core.Logic.{inl}
use mathlib.Core.Path.{◌≡◌, refl}
use Prim.Native.Nat.{ℕ, zero, suc, ◌+◌, ◌*◌, ◌^◌, ◌≤◌, ◌<◌}
use native.Mathlib.Omega.{arith}
use lib.Dec.{eqb}
use lib.IntN.{ℤ, nat_abs}
use lib.Ieee.{Float, binary64, of_int, add}
use lib.ListN.{get_or}
use borrow.Author.Tests.{eqb-false}
use Rattle.laws.specs.Mesh.{Triangle}
use Rattle.grid.specs.Limits.{coordinate_digits, root_digits, most_coordinate, most_triangles}
use Rattle.mesh.specs.Mesh.{triangle_at}
use Rattle.mesh.specs.declared.Place.{Place}
use Rattle.mesh.specs.Place.{place_of, Near}
use Rattle.measures.specs.declared.sides.Side.{Side}
use Rattle.measures.specs.declared.corners.Corners.{Corners}
use Rattle.measures.specs.declared.vectors.Vector.{Vector}
use Rattle.measures.specs.Sides.{between, cross_at}
use Rattle.measures.specs.Sizes.{Within}
use Rattle.measures.specs.Vectors.{of_side, plus, times}
use Rattle.measures.specs.Corners.{dots_of, squares_of, double_area, cotangents, shares}
use Rattle.sums.specs.Sums.{Sum, start, add_sides, add_corner, at_point, add_corners, add_places, add_triangle, sum_after}
use Rattle.measures.proofs.Bounds.{between_within, cross_at_small, dots_small}
use Rattle.finite.proofs.AtMost.{AtMost, at_most_more, whole_at_most, add_at_most, mul_at_most}
use Rattle.finite.proofs.AtLeast.{Grain, add_grain}
use Rattle.finite.proofs.Cotangents.{Each, double_most, double_least, squares_most, squares_grain, cotangents_most, cotangents_grain}
use Rattle.finite.proofs.Shares.{share_digits, share_grain, Share, acute_each, shares_each}

-- a cotangent times a coordinate of a side
abbrev pub vector_digits : ℕ
vector_digits = root_digits + coordinate_digits

-- each number of a vector is at most q·2^j in size
pub record VectorMost (q j : ℕ) (v : Vector) : Type 0 where
  pub x : AtMost q j v.x
  pub y : AtMost q j v.y
  pub z : AtMost q j v.z

coordinate_most : (a : ℤ) → nat_abs a ≤ most_coordinate → AtMost 1 coordinate_digits (of_int binary64 a)
coordinate_most a h = whole_at_most 1 coordinate_digits a (omega arith) (omega arith) (omega arith)

side_most : (u : Side) → Within most_coordinate u → VectorMost 1 coordinate_digits (of_side u)
unfolding of_side
side_most u h = record { x = coordinate_most u.x h.x; y = coordinate_most u.y h.y; z = coordinate_most u.z h.z }

times_most : (k : Float) (v : Vector) → AtMost 1 root_digits k → VectorMost 1 coordinate_digits v → VectorMost 1 vector_digits (times k v)
unfolding times
times_most k v h g =
    record {
      x = mul_at_most root_digits coordinate_digits k v.x (omega arith) h g.x;
      y = mul_at_most root_digits coordinate_digits k v.y (omega arith) h g.y;
      z = mul_at_most root_digits coordinate_digits k v.z (omega arith) h g.z;
    }

plus_most : (q : ℕ) (v w : Vector) → q + 1 < 2 ^ 53 → VectorMost q vector_digits v → VectorMost 1 vector_digits w → VectorMost (q + 1) vector_digits (plus v w)
unfolding plus
plus_most q v w l h g =
    record {
      x = add_at_most q 1 vector_digits v.x w.x l (omega arith) h.x g.x;
      y = add_at_most q 1 vector_digits v.y w.y l (omega arith) h.y g.y;
      z = add_at_most q 1 vector_digits v.z w.z l (omega arith) h.z g.z;
    }

vector_more : (q r : ℕ) (v : Vector) → q ≤ r → VectorMost q vector_digits v → VectorMost r vector_digits v
vector_more q r v l h =
    record {
      x = at_most_more q vector_digits r vector_digits v.x (omega arith) h.x;
      y = at_most_more q vector_digits r vector_digits v.y (omega arith) h.y;
      z = at_most_more q vector_digits r vector_digits v.z (omega arith) h.z;
    }

-- a point's sums: an area that is not negative, and a running vector
pub record SumMost (q : ℕ) (s : Sum) : Type 0 where
  pub area_most : AtMost q share_digits s.area
  pub area_grain : Grain share_grain s.area
  pub vector_most : VectorMost q vector_digits s.vector

sum_more : (q r : ℕ) (s : Sum) → q ≤ r → SumMost q s → SumMost r s
sum_more q r s l h =
    record { area_most = at_most_more q share_digits r share_digits s.area (omega arith) h.area_most; area_grain = h.area_grain; vector_most = vector_more q r s.vector l h.vector_most }

start_most : SumMost 0 start
start_most = record { area_most = omega arith; area_grain = (refl, inl refl); vector_most = record { x = omega arith; y = omega arith; z = omega arith } }

-- one corner
module _ (n : ℕ) (few : n + 2 < 2 ^ 53) (p q r : Place) (hp : Near p) (hq : Near q) (hr : Near r) where
  sides_most : (cotj cotk : Float) (v : Vector) → AtMost 1 root_digits cotj → AtMost 1 root_digits cotk → VectorMost n vector_digits v → VectorMost (n + 2) vector_digits (add_sides p q r cotj cotk v)
  unfolding add_sides
  sides_most cotj cotk v hj hk h =
      let one = times cotk (of_side (between p q)) in
      let two = times cotj (of_side (between p r)) in
      let first : VectorMost 1 vector_digits one = times_most cotk (of_side (between p q)) hk (side_most (between p q) (between_within p q hp hq)) in
      let second : VectorMost 1 vector_digits two = times_most cotj (of_side (between p r)) hj (side_most (between p r) (between_within p r hp hr)) in
      vector_more (n + 1 + 1) (n + 2) (plus (plus v one) two) (omega arith) (plus_most (n + 1) (plus v one) two (omega arith) (plus_most n v one (omega arith) h first) second)

  corner_most : (share cotj cotk : Float) (s : Sum) → Share share → AtMost 1 root_digits cotj → AtMost 1 root_digits cotk → SumMost n s → SumMost (n + 2) (add_corner p q r share cotj cotk s)
  unfolding add_corner
  corner_most share cotj cotk s hs hj hk h =
      let area : AtMost (n + 2) share_digits (add binary64 s.area share) = add_at_most n 2 share_digits s.area share few (omega arith) h.area_most hs.most in
      record {
        area_most = area;
        area_grain = add_grain share_grain (n + 2) share_digits s.area share (omega arith) h.area_grain hs.grain area;
        vector_most = sides_most cotj cotk s.vector hj hk h.vector_most;
      }

at_point_most : (n corner point : ℕ) (more : Sum → Sum) (s : Sum) → SumMost (n + 2) (more s) → SumMost n s → SumMost (n + 2) (at_point corner point more s)
unfolding at_point
at_point_most n corner point more s h g = go (eqb corner point)
  where
    go : (b : Bool) → SumMost (n + 2) (cond b (more s) s)
    go true = h
    go false = sum_more n (n + 2) s (omega arith) g

above : (n : ℕ) → (n ≡ 0 → ⊥) → 0 < n
above zero h = absurd (h refl)
above (suc n) h = omega arith

-- three corners
module _ (n : ℕ) (few : n + 6 < 2 ^ 53) (t : Triangle) (p q r : Place) (hp : Near p) (hq : Near q) (hr : Near r) (point : ℕ) (s : Sum) (h : SumMost n s) where
  corners_most : (share cot : Corners) → Each Share share → Each (AtMost 1 root_digits) cot → SumMost (n + 6) (add_corners t p q r share cot point s)
  unfolding add_corners
  corners_most share cot hs hc =
      let first = add_corner p q r share.one cot.two cot.three in
      let second = add_corner q r p share.two cot.three cot.one in
      let third = add_corner r p q share.three cot.one cot.two in
      let one = at_point t.one point first s in
      let two = at_point t.two point second one in
      let h1 : SumMost (n + 2) one = at_point_most n t.one point first s (corner_most n (omega arith) p q r hp hq hr share.one cot.two cot.three s hs.one hc.two hc.three h) h in
      let h2 : SumMost (n + 2 + 2) two = at_point_most (n + 2) t.two point second one (corner_most (n + 2) (omega arith) q r p hq hr hp share.two cot.three cot.one one hs.two hc.three hc.one h1) h1 in
      sum_more (n + 2 + 2 + 2) (n + 6) (at_point t.three point third two) (omega arith)
      (at_point_most (n + 2 + 2) t.three point third two (corner_most (n + 2 + 2) (omega arith) r p q hr hp hq share.three cot.one cot.two two hs.three hc.one hc.two h2) h2)

  places_most : 0 < cross_at p q r → SumMost (n + 6) (add_places t p q r point s)
  unfolding add_places
  places_most positive =
      let d = dots_of p q r in
      let small = dots_small p q r hp hq hr in
      let double = double_area (cross_at p q r) in
      let most = double_most (cross_at p q r) positive (cross_at_small p q r hp hq hr) in
      let least = double_least (cross_at p q r) positive (cross_at_small p q r hp hq hr) in
      let cot = cotangents d double in
      let l = squares_of p q r in
      let cot-most = cotangents_most double most least d small in
      corners_most (shares d l cot double) cot
      (shares_each d l cot double most least
      (λ a b c. acute_each l cot (squares_most p q r hp hq hr) (squares_grain p q r hp hq hr) cot-most (cotangents_grain double most least d small a b c)))
      cot-most

  -- nothing is given where N = 0
  given_most : (b : Bool) → eqb (cross_at p q r) 0 ≡ b → SumMost (n + 6) (cond b s (add_places t p q r point s))
  given_most true e = sum_more n (n + 6) s (omega arith) h
  given_most false e = places_most (above (cross_at p q r) (eqb-false (cross_at p q r) 0 e))

-- the triangles
module _ (points : List ℕ) (small : (i : ℕ) → get_or points i 0 ≤ most_coordinate) where
  any_place : (p : ℕ) → Near (place_of points p)
  any_place p = record { x = small (3 * p); y = small (3 * p + 1); z = small (3 * p + 2) }

  triangle_most : (n : ℕ) (t : Triangle) (point : ℕ) (s : Sum) → n + 6 < 2 ^ 53 → SumMost n s → SumMost (n + 6) (add_triangle points t point s)
  unfolding add_triangle
  triangle_most n t point s few h =
      let p = place_of points t.one in
      let q = place_of points t.two in
      let r = place_of points t.three in
      given_most n few t p q r (any_place t.one) (any_place t.two) (any_place t.three) point s h (eqb (cross_at p q r) 0) refl

  pub sums_most : (triangles : List ℕ) (point n : ℕ) → n ≤ most_triangles → SumMost (6 * n) (sum_after points triangles point n start)
  unfolding sum_after
  sums_most triangles point zero h = start_most
  sums_most triangles point (suc n) h =
      let before = sum_after points triangles point n start in
      sum_more (6 * n + 6) (6 * suc n) (add_triangle points (triangle_at triangles n) point before) (omega arith)
      (triangle_most (6 * n) (triangle_at triangles n) point before (omega arith) (sums_most triangles point n (omega arith)))
