-- What a triangle gives its corners (document 01, "Areas and mean curvature", first paragraph). The corners are p, q, r; "one", "two", "three" stand for them.
use Rattle.std.specs.Prelude.{cond, ℕ, ◌^◌, pos, Float}
use Rattle.std.specs.Float.{binary64}
use Rattle.std.specs.Float.Ieee.{add, mul, div}
use Rattle.root.specs.Root.{scale_of, root_of}
use Rattle.mesh.specs.declared.Place.{Place}
use Rattle.measures.specs.declared.corners.Dots.{Dots}
use Rattle.measures.specs.declared.corners.Corners.{Corners}
use Rattle.laws.specs.Signed.{negative}
use Rattle.measures.specs.Sides.{dot_at, opposite_at}
use Rattle.measures.specs.Vectors.{whole}

-- a number for each corner
abbrev pub corners : Float → Float → Float → Corners
corners a b c = record { one = a; two = b; three = c }

-- each d
unfoldable pub dots_of : Place → Place → Place → Dots
dots_of p q r = record { one = dot_at p q r; two = dot_at q r p; three = dot_at r p q }

-- each L
unfoldable pub squares_of : Place → Place → Place → Corners
squares_of p q r = corners (whole (pos (opposite_at p q r))) (whole (pos (opposite_at q r p))) (whole (pos (opposite_at r p q)))

-- D = r / 2^s, twice the area, from N
unfoldable pub double_area : ℕ → Float
double_area n = div binary64 (whole (pos (root_of n))) (whole (pos (2 ^ scale_of n)))

-- cot = d / D
unfoldable pub cotangents : Dots → Float → Corners
cotangents d double = corners (div binary64 (whole d.one) double) (div binary64 (whole d.two) double) (div binary64 (whole d.three) double)

-- (L_j·cot_j + L_k·cot_k) / 8, each product rounded, then the sum
unfoldable pub acute_share : Float → Float → Float → Float → Float
acute_share lj cotj lk cotk = div binary64 (add binary64 (mul binary64 lj cotj) (mul binary64 lk cotk)) (whole (pos 8))

-- the share of each corner if no d is negative
unfoldable pub acute_shares : Corners → Corners → Corners
acute_shares l cot =
    corners
    (acute_share l.two cot.two l.three cot.three)
    (acute_share l.three cot.three l.one cot.one)
    (acute_share l.one cot.one l.two cot.two)

-- if d_i is negative, corner i gets D/4 and the other two D/8
unfoldable pub shares : Dots → Corners → Corners → Float → Corners
shares d l cot double =
    let quarter = div binary64 double (whole (pos 4)) in
    let eighth = div binary64 double (whole (pos 8)) in
    cond (negative d.one) (corners quarter eighth eighth)
    (cond (negative d.two) (corners eighth quarter eighth)
    (cond (negative d.three) (corners eighth eighth quarter) (acute_shares l cot)))
