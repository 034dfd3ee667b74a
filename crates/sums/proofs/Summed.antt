-- What a triangle adds to the sums of a point, from the parts that are worked out on the way.
use mathlib.Core.List.{List}
use mathlib.Core.Path.{◌≡◌}
use Prim.Native.Nat.{ℕ, ◌+◌}
use native.Mathlib.Numerals.{add-one}
use lib.Ieee.{Float}
use borrow.Author.Tests.{eq-eqb, ne_eqb}
use Rattle.laws.specs.Mesh.{Triangle}
use Rattle.mesh.specs.Mesh.{triangle_at}
use Rattle.mesh.specs.declared.Place.{Place}
use Rattle.mesh.specs.Place.{place_of}
use Rattle.measures.specs.declared.corners.Dots.{Dots}
use Rattle.measures.specs.declared.corners.Corners.{Corners}
use Rattle.measures.specs.Sides.{cross_at}
use Rattle.measures.specs.Corners.{dots_of, squares_of, double_area, cotangents, shares}
use Rattle.sums.specs.Sums.{Sum, at_point, add_corner, add_corners, add_places, add_triangle, sum_after}

pub places_add : (t : Triangle) (p q r : Place) (n : ℕ) (double : Float) (d : Dots) (l cot share : Corners) (x : ℕ) (s : Sum) → n ≡ cross_at p q r → double ≡ double_area n → d ≡ dots_of p q r
    → cot ≡ cotangents d double → l ≡ squares_of p q r → share ≡ shares d l cot double → add_corners t p q r share cot x s ≡ add_places t p q r x s
unfolding add_places
places_add t p q r n double d l cot share x s en ed edots ec el es = cc

-- the corners one after the other
pub corners_add : (t : Triangle) (p q r : Place) (share cot : Corners) (x : ℕ) (s one two three : Sum)
    → one ≡ at_point t.one x (add_corner p q r share.one cot.two cot.three) s
    → two ≡ at_point t.two x (add_corner q r p share.two cot.three cot.one) one
    → three ≡ at_point t.three x (add_corner r p q share.three cot.one cot.two) two → three ≡ add_corners t p q r share cot x s
unfolding add_corners
corners_add t p q r share cot x s one two three e f g = cc

-- from the places that were read
pub cross_of : {n : ℕ} {p q r p' q' r' : Place} → n ≡ cross_at p q r → p ≡ p' → q ≡ q' → r ≡ r' → n ≡ cross_at p' q' r'
cross_of h a b c = cc

pub same_places : (t : Triangle) (x : ℕ) (s : Sum) {p q r p' q' r' : Place} → p ≡ p' → q ≡ q' → r ≡ r' → add_places t p q r x s ≡ add_places t p' q' r' x s
same_places t x s a b c = cc

-- a triangle whose N is 0, and one whose N is not
module _ (points : List ℕ) (t : Triangle) (x : ℕ) (s : Sum) where
  pub nothing_added : cross_at (place_of points t.one) (place_of points t.two) (place_of points t.three) ≡ 0 → s ≡ add_triangle points t x s
  unfolding add_triangle
  nothing_added h = rw (eq-eqb _ _ h)

  pub something_added : (cross_at (place_of points t.one) (place_of points t.two) (place_of points t.three) ≡ 0 → ⊥)
      → add_places t (place_of points t.one) (place_of points t.two) (place_of points t.three) x s ≡ add_triangle points t x s
  unfolding add_triangle
  something_added h = rw (ne_eqb _ _ h)

-- one triangle more
pub sum_next : (points triangles : List ℕ) (x n : ℕ) (s : Sum) → sum_after points triangles x (n + 1) s ≡ add_triangle points (triangle_at triangles n) x (sum_after points triangles x n s)
unfolding sum_after
sum_next points triangles x n s = rw (add-one)
