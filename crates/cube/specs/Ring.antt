-- What a ring of corners is by their places: one that goes round a face of the cube counterclockwise as seen from outside (document 01, "One cube", second paragraph).
use Rattle.std.specs.Prelude.{◌≡◌, List, [], ◌∷◌, map, cond, ℕ, zero, suc, ◌*◌, eqb, ℤ, pos, ◌+ℤ◌, ◌-ℤ◌, ◌*ℤ◌, replicate}
use Rattle.cube.specs.Cube.{corner_x, corner_y, corner_z}

-- so far along x, along y and along z
pub record Way : Type 0 where
  pub x : ℤ
  pub y : ℤ
  pub z : ℤ

-- from corner c to corner d
unfoldable pub way_to : ℕ → ℕ → Way
way_to c d =
    record {
      x = pos (corner_x d) -ℤ pos (corner_x c);
      y = pos (corner_y d) -ℤ pos (corner_y c);
      z = pos (corner_z d) -ℤ pos (corner_z c);
    }

unfoldable pub cross_way : Way → Way → Way
cross_way u v =
    record {
      x = u.y *ℤ v.z -ℤ u.z *ℤ v.y;
      y = u.z *ℤ v.x -ℤ u.x *ℤ v.z;
      z = u.x *ℤ v.y -ℤ u.y *ℤ v.x;
    }

unfoldable pub squared_way : Way → ℤ
squared_way u = u.x *ℤ u.x +ℤ u.y *ℤ u.y +ℤ u.z *ℤ u.z

-- the sides of a ring: from each corner to the next, and from the last back to the first
ways_on : ℕ → ℕ → List ℕ → List Way
ways_on first c [] = way_to c first ∷ []
ways_on first c (d ∷ ds) = way_to c d ∷ ways_on first d ds

unfoldable pub sides_of : List ℕ → List Way
unfolding ways_on
sides_of [] = []
sides_of (c ∷ cs) = ways_on c c cs

-- the turns of a ring, given its sides: the cross product of each side and the next, and of the last and the first
turns_on : Way → Way → List Way → List Way
turns_on first u [] = cross_way u first ∷ []
turns_on first u (v ∷ vs) = cross_way u v ∷ turns_on first v vs

unfoldable pub turns_of : List Way → List Way
unfolding turns_on
turns_of [] = []
turns_of (u ∷ us) = turns_on u u us

-- the coordinate of corner c along an axis (0 is x, 1 is y, 2 is z)
unfoldable pub corner_along : ℕ → ℕ → ℕ
corner_along zero c = corner_x c
corner_along (suc zero) c = corner_y c
corner_along (suc (suc axis)) c = corner_z c

-- The face across an axis at coordinate 0 or 1. Its outward normal: one along the axis, up from coordinate 1 and down from coordinate 0.
unfoldable pub outward : ℕ → ℕ → Way
outward axis at =
    let part : ℕ → ℤ = λ a. cond (eqb a axis) (pos (2 * at) -ℤ pos 1) (pos 0) in
    record { x = part 0; y = part 1; z = part 2 }

-- a ring goes round that face, counterclockwise as seen from outside
pub record GoesRound (axis at : ℕ) (ring : List ℕ) : Type 0 where
  -- it has four corners, all on the face
  pub corners : map (corner_along axis) ring ≡ replicate 4 at
  -- each side is an edge of the cube: its squared length is 1
  pub edges : map squared_way (sides_of ring) ≡ replicate 4 (pos 1)
  -- at each corner it turns left as seen from outside: the cross product of the side that comes and the side that leaves is the outward normal, by the right hand
  pub turns : turns_of (sides_of ring) ≡ replicate 4 (outward axis at)
