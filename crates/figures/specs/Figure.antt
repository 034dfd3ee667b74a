-- Document 01, "Figures to hold it against": the rows marked P, with case 246 as request (ii) of document 02 has it, and what a row says of the definitions.
use Rattle.std.specs.Prelude.{◌≡◌, List, [], ◌∷◌, ℕ, length, pos, Float}
use Rattle.laws.specs.Mesh.{Triangle, triangle}
use Rattle.cube.specs.Answer.{triangles}
use Rattle.laws.specs.Sum.{sum_of}
use Rattle.grid.specs.Point.{offset}
use Rattle.rounds.specs.Round.{moved}
use Rattle.root.specs.Root.{scale_of}
use Rattle.measures.specs.declared.corners.Corners.{Corners}
use Rattle.mesh.specs.Place.{place_of}
use Rattle.measures.specs.Sides.{cross_at}
use Rattle.measures.specs.Vectors.{whole}
use Rattle.measures.specs.Corners.{corners, dots_of, squares_of, double_area, cotangents, shares}

-- document 01's s, D and shares of a triangle of three points, whose coordinates stand in a list
pub record Parts : Type 0 where
  pub scale : ℕ
  pub double : Float
  pub share : Corners

abbrev parts_of : List ℕ → Parts
parts_of points =
    let p = place_of points 0 in
    let q = place_of points 1 in
    let r = place_of points 2 in
    let n = cross_at p q r in
    let d = dots_of p q r in
    record { scale = scale_of n; double = double_area n; share = shares d (squares_of p q r) (cotangents d (double_area n)) (double_area n) }

-- a row of the table, by its kind
pub data Figure : Type 0 where
  -- a case has these triangles
  case_has : ℕ → List Triangle → Figure
  -- between samples v0 and v1, at a grey value, the point stands this far along
  offset_is : ℕ → ℕ → ℕ → ℕ → Figure
  -- a coordinate with neighbours at these moves to this by this weight
  moves_to : ℕ → List ℕ → ℕ → ℕ → Figure
  -- a triangle at these coordinates has this s, this D and these three shares, all whole numbers
  triangle_has : List ℕ → ℕ → ℕ → ℕ → ℕ → ℕ → Figure

abbrev pub FigureHolds : Figure → Type 0
FigureHolds (case_has k ts) = triangles k ≡ ts
FigureHolds (offset_is v0 v1 grey o) = offset v0 v1 grey ≡ o
FigureHolds (moves_to p ns w to) = moved w (length ns) p (sum_of (λ n. n) ns) ≡ to
FigureHolds (triangle_has points s double a b c) =
    parts_of points
    ≡ record { scale = s; double = whole (pos double); share = corners (whole (pos a)) (whole (pos b)) (whole (pos c)) }

abbrev pub figures : List Figure
figures =
    case_has 0 []
    ∷ case_has 255 []
    ∷ case_has 1 (triangle 0 4 8 ∷ [])
    ∷ case_has 254 (triangle 0 8 4 ∷ [])
    ∷ case_has 3 (triangle 4 8 9 ∷ triangle 4 9 5 ∷ [])
    ∷ case_has 9 (triangle 0 4 8 ∷ triangle 1 5 11 ∷ [])
    ∷ case_has 246 (triangle 8 4 1 ∷ triangle 8 1 11 ∷ triangle 8 11 5 ∷ triangle 8 5 0 ∷ [])
    ∷ offset_is 0 3 1 85
    ∷ offset_is 0 512 1 1
    ∷ offset_is 10 0 10 0
    ∷ offset_is 0 5 5 256
    ∷ moves_to 10 (20 ∷ 21 ∷ 21 ∷ []) 256 21
    ∷ moves_to 10 (20 ∷ 21 ∷ 21 ∷ []) 128 15
    ∷ triangle_has (0 ∷ 0 ∷ 0 ∷ 256 ∷ 0 ∷ 0 ∷ 0 ∷ 256 ∷ 0 ∷ []) 13 65536 16384 8192 8192
    ∷ []
