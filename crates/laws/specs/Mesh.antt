-- Triangles and the ways that their sides run.
use mathlib.Core.List.{List, [], ◌∷◌, flat_map}
use Rattle.std.specs.Prelude.{Bool, ◌&&◌, ℕ, eqb}
use Rattle.laws.specs.Range.{one_if}
use Rattle.laws.specs.Sum.{sum_of}

-- an arrow runs from one number to another: a segment between two edges of a cube, or the side of a triangle
pub record Arrow : Type 0 where
  pub from : ℕ
  pub to : ℕ

abbrev pub arrow : ℕ → ℕ → Arrow
arrow a b = record { from = a; to = b }

-- both ends of an arrow have the property
abbrev pub Ends : (ℕ → Type 0) → Arrow → Type 0
Ends P a = P a.from × P a.to

-- the arrow that runs back
abbrev pub flip : Arrow → Arrow
flip a = arrow a.to a.from

pub record Triangle : Type 0 where
  pub one : ℕ
  pub two : ℕ
  pub three : ℕ

abbrev pub triangle : ℕ → ℕ → ℕ → Triangle
triangle a b c = record { one = a; two = b; three = c }

-- the same triangle with its corners renamed
abbrev pub rename : (ℕ → ℕ) → Triangle → Triangle
rename f t = triangle (f t.one) (f t.two) (f t.three)

-- the three sides of each triangle, as they run
unfoldable pub sides : List Triangle → List Arrow
sides [] = []
sides (t ∷ ts) = arrow t.one t.two ∷ arrow t.two t.three ∷ arrow t.three t.one ∷ sides ts

-- what the arrows weigh together, an arrow from a to b weighing w a b
unfoldable pub total : (ℕ → ℕ → ℕ) → List Arrow → ℕ
total w xs = sum_of (λ a. w a.from a.to) xs

-- how many of the arrows run from a to b
abbrev pub times : List Arrow → ℕ → ℕ → ℕ
times xs a b = total (λ i j. one_if (eqb i a && eqb j b)) xs

unfoldable pub same_arrow : Arrow → Arrow → Bool
same_arrow a b = eqb a.from b.from && eqb a.to b.to

-- a triangle's three numbers in a list, and those of a list of triangles one after the other
abbrev pub corners_of : Triangle → List ℕ
corners_of t = t.one ∷ t.two ∷ t.three ∷ []

unfoldable pub flat : List Triangle → List ℕ
flat ts = flat_map corners_of ts
