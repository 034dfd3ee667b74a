-- Where a point stands.
use Rattle.std.specs.Prelude.{List, ℕ, ◌+◌, ◌*◌, ◌≤◌, get_or}
use Rattle.grid.specs.Limits.{most_coordinate}
use Rattle.mesh.specs.declared.Place.{Place}

-- the place of a point: its three coordinates
abbrev pub place_of : List ℕ → ℕ → Place
place_of points p = record { x = get_or points (3 * p) 0; y = get_or points (3 * p + 1) 0; z = get_or points (3 * p + 2) 0 }

-- no coordinate of a place is beyond the limit
pub record Near (p : Place) : Type 0 where
  pub x : p.x ≤ most_coordinate
  pub y : p.y ≤ most_coordinate
  pub z : p.z ≤ most_coordinate
