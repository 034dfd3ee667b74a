-- A round of smoothing, and rounds one after the other (document 01, "Smoothing").
use Rattle.std.specs.Prelude.{List, [], ◌∷◌, cond, ◌&&◌, ℕ, zero, suc, ◌+◌, ◌*◌, ◌-◌, eqb, leb, length, get_or}
use Rattle.laws.specs.Range.{join_to}
use Rattle.laws.specs.Sum.{sum_of}
use Rattle.laws.specs.Nearest.{nearest}
use Rattle.laws.specs.Mesh.{Triangle}
use Rattle.grid.specs.Limits.{most_weight}
use Rattle.mesh.specs.Neighbours.{neighbours}

-- ((256 - w)·d·p + w·S) / (256·d) to the nearest, halves up
unfoldable pub moved : ℕ → ℕ → ℕ → ℕ → ℕ
moved w d p s = nearest ((most_weight - w) * d * p + w * s) (most_weight * d)

-- one coordinate after a round, of a point that has this mark and d neighbours: with mark 0 and d ≥ 1 it moves, else it stays
unfoldable pub moved_if : ℕ → ℕ → ℕ → ℕ → ℕ → ℕ
moved_if mark w d p s = cond (eqb mark 0 && leb 1 d) (moved w d p s) p

-- coordinate a of point p
abbrev pub coordinate_of : List ℕ → ℕ → ℕ → ℕ
coordinate_of points p a = get_or points (3 * p + a) 0

-- coordinate a of point p after a round, given its mark and its neighbours ns; all points of a round read the old places
abbrev pub moved_from : ℕ → ℕ → List ℕ → ℕ → List ℕ → ℕ → ℕ
moved_from mark w old p ns a = moved_if mark w (length ns) (coordinate_of old p a) (sum_of (λ q. coordinate_of old q a) ns)

module _ (ts : List Triangle) (marks : List ℕ) (w : ℕ) where
  unfoldable pub round : List ℕ → List ℕ
  round old =
      join_to
      (length marks)
      (λ p. let new = moved_from (get_or marks p 0) w old p (neighbours (length marks) ts p) in new 0 ∷ new 1 ∷ new 2 ∷ [])

  -- k rounds, each from the places that the one before it left
  unfoldable pub rounds : ℕ → List ℕ → List ℕ
  rounds zero points = points
  rounds (suc k) points = round (rounds k points)
