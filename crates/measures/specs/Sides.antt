-- A triangle in whole numbers (document 01, "Areas and mean curvature"): for its corners p, q, r, taken round, what is said of corner p.
use Rattle.std.specs.Prelude.{ℕ, ◌+◌, ◌*◌, ℤ, pos, nat_abs, ◌+ℤ◌, ◌-ℤ◌, ◌*ℤ◌}
use Rattle.mesh.specs.declared.Place.{Place}
use Rattle.measures.specs.declared.sides.Side.{Side}

-- p - q: the side that leads to p from q
unfoldable pub between : Place → Place → Side
between p q = record { x = pos p.x -ℤ pos q.x; y = pos p.y -ℤ pos q.y; z = pos p.z -ℤ pos q.z }

unfoldable pub dot : Side → Side → ℤ
dot u v = u.x *ℤ v.x +ℤ u.y *ℤ v.y +ℤ u.z *ℤ v.z

unfoldable pub cross : Side → Side → Side
cross u v =
    record {
      x = u.y *ℤ v.z -ℤ u.z *ℤ v.y;
      y = u.z *ℤ v.x -ℤ u.x *ℤ v.z;
      z = u.x *ℤ v.y -ℤ u.y *ℤ v.x;
    }

unfoldable pub squared : Side → ℕ
squared u = nat_abs u.x * nat_abs u.x + nat_abs u.y * nat_abs u.y + nat_abs u.z * nat_abs u.z

-- d: the dot product of the two sides that leave p
unfoldable pub dot_at : Place → Place → Place → ℤ
dot_at p q r = dot (between q p) (between r p)

-- L: the squared side opposite p
unfoldable pub opposite_at : Place → Place → Place → ℕ
opposite_at p q r = squared (between r q)

-- N: the squared cross product of two sides
unfoldable pub cross_at : Place → Place → Place → ℕ
cross_at p q r = squared (cross (between q p) (between r p))
