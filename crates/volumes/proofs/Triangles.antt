-- The triangles of the work room, read in their places: their corners, the places of those, and what a volume becomes with one of them.
use mathlib.Core.Path.{◌≡◌, ap, sym, ◌∙◌, subst}
use mathlib.Core.List.{List}
use Prim.Native.Nat.{ℕ, ◌+◌, ◌*◌, ◌<◌}
use native.Mathlib.Omega.{arith}
use lib.ListN.{get_or}
use Rattle.mesh.specs.Mesh.{triangle_at}
use Rattle.mesh.specs.Place.{place_of, Near}
use Rattle.mesh.proofs.Places.{near_place}
use Rattle.mesh.proofs.Passed.{Corners, corners}
use Rattle.columns.specs.Room.{triangles_at, numbers_at, points_in, triangles_in, point_number, triangle_number}
use Rattle.columns.proofs.Rooms.{coordinate_at, corner_at, number_at, many_triangles}
use Rattle.volumes.specs.Volumes.{words_in}
use Rattle.volumes.specs.Turns.{gain_of, loss_of, changed, corners_at, Placed, Turnable, VolumeTurn}

-- a point's place, in the front of the room and in the part of the points
pub place_there : (v : ℕ) (work : List ℕ) (p : ℕ) → p < v → place_of work p ≡ place_of (points_in v work) p
place_there v work p l =
    rw (sym (coordinate_at v work (3 * p) (omega arith)), sym (coordinate_at v work (3 * p + 1) (omega arith)), sym (coordinate_at v work (3 * p + 2) (omega arith)))

module _ (v t : ℕ) (work : List ℕ) (k : ℕ) (T : VolumeTurn v t work k) where
  abbrev at : ℕ
  at = triangles_at v + 3 * k

  -- a triangle's corners
  pub triangle_there : corners_at work at ≡ triangle_at (triangles_in v t work) k
  triangle_there =
      let one = corner_at v work t (3 * k) (omega (arith, T.small)) in
      let two = corner_at v work t (3 * k + 1) (omega (arith, T.small)) in
      let three = corner_at v work t (3 * k + 2) (omega (arith, T.small)) in
      let second : triangles_at v + 3 * k + 1 ≡ triangles_at v + (3 * k + 1) = omega arith in
      let third : triangles_at v + 3 * k + 2 ≡ triangles_at v + (3 * k + 2) = omega arith in
      rw (second, third, one, two, three)

  named : Corners v (triangle_at (triangles_in v t work) k)
  named = corners (triangles_in v t work) v k T.corners (omega (arith, T.small, many_triangles v t work T.whole))

  named_there : Corners v (corners_at work at)
  named_there = subst (Corners v) (sym triangle_there) named

  placed : (p : ℕ) → p < v → Placed work p
  placed p l = record { there = omega (arith, T.whole); near = subst Near (sym (place_there v work p l)) (near_place (points_in v work) T.near p) }

  -- both sides of its determinant
  gain_there : gain_of work (corners_at work at) ≡ gain_of (points_in v work) (triangle_at (triangles_in v t work) k)
  gain_there =
      ap (gain_of work) triangle_there
      ∙ rw (place_there v work _ named.first, place_there v work _ named.second, place_there v work _ named.third)

  loss_there : loss_of work (corners_at work at) ≡ loss_of (points_in v work) (triangle_at (triangles_in v t work) k)
  loss_there =
      ap (loss_of work) triangle_there
      ∙ rw (place_there v work _ named.first, place_there v work _ named.second, place_there v work _ named.third)

  pub turnable : Turnable work at (words_in v t work (triangle_number v t work k))
  turnable =
      record {
        there = omega (arith, T.whole, T.small);
        one = placed _ named_there.first;
        two = placed _ named_there.second;
        three = placed _ named_there.third;
        fits = record { most = T.fits.most; least = rw (gain_there, loss_there) T.fits.least };
      }

  pub changed_there : (stored : ℕ) → changed work (corners_at work at) stored ≡ changed (points_in v work) (triangle_at (triangles_in v t work) k) stored
  changed_there stored = rw (gain_there, loss_there)

  -- its shell number, by its first corner
  pub first_named : get_or work at 0 < v
  first_named = named_there.first

  pub number_there : triangle_number v t work k ≡ get_or work (numbers_at v t + get_or work at 0) 0
  number_there = ap (λ c. point_number v t work c.one) (sym triangle_there) ∙ number_at v work t (get_or work at 0) first_named
