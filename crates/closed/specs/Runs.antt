-- Demand 3: "where two points don't lie on one outer face of the grid, triangles run from the first to the second as often as back"; and, by document 02, request (ii), two that
-- are joined by a triangle side are joined by exactly one triangle each way.
use Rattle.std.specs.Prelude.{◌≡◌, List, Bool, false, ◌&&◌, ◌||◌, ℕ, ◌+◌, ◌<◌, eqb, length, get_or}
use Rattle.laws.specs.Range.{one_if}
use Rattle.laws.specs.Sum.{sum_of}
use Rattle.laws.specs.Mesh.{Triangle, sides, times}
use Rattle.grid.specs.Grid.{Size, Kind, some_face, on_face}

-- how many sides run from p to q, each side taken as its triangle runs: first corner to second, second to third, third to first
unfoldable pub runs : List Triangle → ℕ → ℕ → ℕ
runs ts p q = times (sides ts) p q

-- a triangle runs from p to q if it has such a side, and how many do
abbrev pub runs_from : Triangle → ℕ → ℕ → Bool
runs_from t p q = eqb t.one p && eqb t.two q || (eqb t.two p && eqb t.three q || eqb t.three p && eqb t.one q)

unfoldable pub triangles_from : List Triangle → ℕ → ℕ → ℕ
triangles_from ts p q = sum_of (λ t. one_if (runs_from t p q)) ts

-- triangles run from p to q as often as back
abbrev pub Even : List Triangle → ℕ → ℕ → Type 0
Even ts p q = runs ts p q ≡ runs ts q p

-- where triangles run from p to q or back at all, exactly one runs each way
abbrev pub JoinedOnce : List Triangle → ℕ → ℕ → Type 0
JoinedOnce ts p q = 0 < runs ts p q + runs ts q p → (runs ts p q ≡ 1) × (runs ts q p ≡ 1)

-- two grid edges lie on one outer face: both on x = 0, or both on the last x, or both on y = 0, and so on
unfoldable pub on_one_face : Kind → Size → ℕ → ℕ → Bool
on_one_face k n e f = some_face (λ axis last. on_face k n axis last e && on_face k n axis last f)

-- the balance, of triangles between points whose grid edges are listed
abbrev pub Balanced : Kind → Size → List ℕ → List Triangle → Type 0
Balanced k n edges ts =
    (p q : ℕ) → p < length edges → q < length edges → on_one_face k n (get_or edges p 0) (get_or edges q 0) ≡ false → Even ts p q

-- one triangle each way, of the same
abbrev pub OneEachWay : Kind → Size → List ℕ → List Triangle → Type 0
OneEachWay k n edges ts =
    (p q : ℕ) → p < length edges → q < length edges → on_one_face k n (get_or edges p 0) (get_or edges q 0) ≡ false → JoinedOnce ts p q
