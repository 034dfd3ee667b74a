-- A record that grows, point by point and triangle by triangle.
use Rattle.std.specs.Prelude.{List, ◌≡◌, true, cond, ℕ, ◌+◌, ◌*◌, ◌/◌, ◌<◌, ◌^◌, min, max, eqb, ℤ, pos, ◌+ℤ◌, length}
use Rattle.std.specs.Int.{w64}
use Rattle.std.proofs.Common.{SFits}
use Rattle.grid.specs.Limits.{most_triangles, most_coordinate}
use Rattle.mesh.specs.Check.{triangles_fit, all_within}
use Rattle.mesh.specs.declared.Place.{Place}
use Rattle.records.specs.declared.Shell.{Shell}

-- the record of a shell with nothing in it
abbrev pub none : Shell
none =
    record {
      low = 0;
      points = 0;
      triangles = 0;
      touches = 0;
      volume = pos 0;
      least_x = 0;
      greatest_x = 0;
      least_y = 0;
      greatest_y = 0;
      least_z = 0;
      greatest_z = 0;
    }

-- a side of the box with one point more, which stands at x: the first point sets it, each later one widens it
abbrev pub widened : ℕ → (ℕ → ℕ → ℕ) → ℕ → ℕ → ℕ
widened points wider had x = cond (eqb points 0) x (wider had x)

-- one point more, with its place and its mark: the first is the lowest, and its place is the box
unfoldable pub with_point : ℕ → Place → ℕ → Shell → Shell
with_point p place mark s =
    record {
      low = cond (eqb s.points 0) p s.low;
      points = s.points + 1;
      triangles = s.triangles;
      touches = cond (eqb mark 1) 1 s.touches;
      volume = s.volume;
      least_x = widened s.points min s.least_x place.x;
      greatest_x = widened s.points max s.greatest_x place.x;
      least_y = widened s.points min s.least_y place.y;
      greatest_y = widened s.points max s.greatest_y place.y;
      least_z = widened s.points min s.least_z place.z;
      greatest_z = widened s.points max s.greatest_z place.z;
    }

-- one triangle more, with its determinant
unfoldable pub with_triangle : ℤ → Shell → Shell
with_triangle d s =
    record {
      low = s.low;
      points = s.points;
      triangles = s.triangles + 1;
      touches = s.touches;
      volume = s.volume +ℤ d;
      least_x = s.least_x;
      greatest_x = s.greatest_x;
      least_y = s.least_y;
      greatest_y = s.greatest_y;
      least_z = s.least_z;
      greatest_z = s.greatest_z;
    }

-- the record has room for one more
unfoldable pub PointFits : Shell → Type 0
PointFits s = s.points + 1 < 2 ^ 32

pub record TriangleFits (d : ℤ) (s : Shell) : Type 0 where
  pub count : s.triangles + 1 < 2 ^ 32
  pub sum : SFits w64 (s.volume +ℤ d)

-- every triangle names points whose places are in the list, and every coordinate is within the limit
pub record MeshFits (points triangles : List ℕ) : Type 0 where
  pub corners : triangles_fit triangles (length points / 3) ≡ true
  pub near : all_within most_coordinate points ≡ true

-- the greatest product of three coordinates
abbrev pub most_product : ℕ
most_product = most_coordinate * most_coordinate * most_coordinate

-- no shell's sixfold volume is larger in size: a determinant of places is at most twice that product (`determinant_within`), and there are so many triangles at most
abbrev pub most_volume : ℕ
most_volume = 2 * most_triangles * most_product
