-- Sides that lead from one point to another (demand 3).
use Rattle.std.specs.Prelude.{◌≡◌, List, true, ℕ}
use Rattle.laws.specs.Mesh.{Triangle}
use Rattle.mesh.specs.Neighbours.{share_side}

-- triangle sides lead from p to q: by no step at all, or by a step along a side and then on from there
pub data Led (ts : List Triangle) : ℕ → ℕ → Type 0 where
  here : {p : ℕ} → Led ts p p
  along : {p q r : ℕ} → share_side ts p q ≡ true → Led ts q r → Led ts p r
