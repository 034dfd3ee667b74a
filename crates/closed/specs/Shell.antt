-- Demand 3: "So a shell with no point on an outer face is closed."
use Rattle.std.specs.Prelude.{◌≡◌, List, Bool, true, ℕ, get_or}
use Rattle.laws.specs.Sum.{keep_of, All}
use Rattle.laws.specs.Mesh.{Triangle, sides}
use Rattle.closed.specs.Runs.{Even, JoinedOnce}
use Rattle.closed.specs.Left.{Mesh}

-- a set of points that no triangle side leads out of or into, as every shell is
abbrev pub SidesStay : (ℕ → Bool) → List Triangle → Type 0
SidesStay inside ts = All (λ s. inside s.from ≡ inside s.to) (sides ts)

-- none of them is marked
abbrev pub Unmarked : (ℕ → Bool) → Mesh → Type 0
Unmarked inside m = (p : ℕ) → inside p ≡ true → get_or m.marks p 0 ≡ 0

-- its triangles, by their first corners
abbrev pub triangles_in : (ℕ → Bool) → List Triangle → List Triangle
triangles_in inside ts = keep_of (λ t. inside t.one) ts

-- triangles that by themselves are closed: between any two points they run one way as often as back
abbrev pub Closed : List Triangle → Type 0
Closed ts = (p q : ℕ) → Even ts p q

-- triangles that by themselves are joined once: between any two points that they join, exactly one runs each way
abbrev pub Paired : List Triangle → Type 0
Paired ts = (p q : ℕ) → JoinedOnce ts p q
