-- A point's area sum and running vector (document 01, "Areas and mean curvature", second paragraph).
use Rattle.std.specs.Prelude.{List, cond, ℕ, zero, suc, eqb, Float}
use Rattle.std.specs.Float.{binary64}
use Rattle.std.specs.Float.Ieee.{add}
use Rattle.laws.specs.Mesh.{Triangle}
use Rattle.mesh.specs.Mesh.{triangle_at}
use Rattle.mesh.specs.declared.Place.{Place}
use Rattle.mesh.specs.Place.{place_of}
use Rattle.measures.specs.declared.corners.Corners.{Corners}
use Rattle.measures.specs.declared.vectors.Vector.{Vector}
use Rattle.measures.specs.Sides.{between, cross_at}
use Rattle.measures.specs.Vectors.{plus_zero, no_vector, of_side, plus, times}
use Rattle.measures.specs.Corners.{dots_of, squares_of, double_area, cotangents, shares}

pub record Sum : Type 0 where
  pub area : Float
  pub vector : Vector

abbrev pub sums : Float → Vector → Sum
sums area vector = record { area = area; vector = vector }

-- sums start at +0.0
abbrev pub start : Sum
start = sums plus_zero no_vector

-- the running vector at corner p of p, q, r: first adds cot_k·(p - q), then cot_j·(p - r), with j the corner q and k the corner r
unfoldable pub add_sides : Place → Place → Place → Float → Float → Vector → Vector
add_sides p q r cotj cotk v = plus (plus v (times cotk (of_side (between p q)))) (times cotj (of_side (between p r)))

-- what corner p adds: its share, and to the vector as above
unfoldable pub add_corner : Place → Place → Place → Float → Float → Float → Sum → Sum
add_corner p q r share cotj cotk s =
    sums (add binary64 s.area share) (add_sides p q r cotj cotk s.vector)

-- only the point at that corner takes it
unfoldable pub at_point : ℕ → ℕ → (Sum → Sum) → Sum → Sum
at_point corner point more s = cond (eqb corner point) (more s) s

-- the corners in order
unfoldable pub add_corners : Triangle → Place → Place → Place → Corners → Corners → ℕ → Sum → Sum
add_corners t p q r share cot point s =
    at_point t.three point (add_corner r p q share.three cot.one cot.two)
    (at_point t.two point (add_corner q r p share.two cot.three cot.one)
    (at_point t.one point (add_corner p q r share.one cot.two cot.three) s))

-- a triangle of three places whose N is not 0
unfoldable pub add_places : Triangle → Place → Place → Place → ℕ → Sum → Sum
add_places t p q r point s =
    let d = dots_of p q r in
    let double = double_area (cross_at p q r) in
    let cot = cotangents d double in
    add_corners t p q r (shares d (squares_of p q r) cot double) cot point s

-- N = 0: the triangle gives nothing
unfoldable pub add_triangle : List ℕ → Triangle → ℕ → Sum → Sum
add_triangle points t point s =
    let p = place_of points t.one in
    let q = place_of points t.two in
    let r = place_of points t.three in
    cond (eqb (cross_at p q r) 0) s (add_places t p q r point s)

-- the sums of a point after the first n triangles, in list order
unfoldable pub sum_after : List ℕ → List ℕ → ℕ → ℕ → Sum → Sum
sum_after points triangles point zero s = s
sum_after points triangles point (suc n) s = add_triangle points (triangle_at triangles n) point (sum_after points triangles point n s)
