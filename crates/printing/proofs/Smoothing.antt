-- The smoothing of a small mesh is granted, and what it leaves is what is defined.
use mathlib.Core.Path.{◌≡◌, refl}
use mathlib.Core.List.{List}
use Prim.Native.Nat.{ℕ, ◌+◌, ◌*◌, ◌≤◌}
use lib.ListN.{length}
use borrow.Author.Tests.{eq-eqb, le-leb}
use Rattle.grid.specs.Limits.{most_rounds, most_weight}
use Rattle.mesh.specs.Mesh.{triangle_count, triangles_of}
use Rattle.mesh.specs.Check.{mesh_number}
use Rattle.rounds.specs.Round.{rounds}
use Rattle.smooth.specs.Smooth.{smooth_rooms_fit, smooth_number, smoothed}

module _ (points triangles marks : List ℕ) (k w : ℕ) (second work : List ℕ) (passes : mesh_number points triangles marks ≡ 0) (few : k ≤ most_rounds) (light : w ≤ most_weight)
    (places : length second ≡ 3 * length marks) (room : length work ≡ 6 * triangle_count triangles + 5 * length marks + 1) where
  number_none : smooth_number points triangles marks k w second work ≡ 0
  unfolding smooth_number smooth_rooms_fit
  number_none =
      rw (
        passes,
        le-leb k most_rounds few,
        le-leb w most_weight light,
        eq-eqb (length second) (3 * length marks) places,
        eq-eqb (length work) (6 * triangle_count triangles + 5 * length marks + 1) room,
      )

  pub smooth_granted : (smoothed points triangles marks k w second work).second ≡ rounds (triangles_of triangles) marks w k points
  unfolding smoothed
  smooth_granted = rw number_none

  pub none_refused : (smoothed points triangles marks k w second work).number ≡ 0
  unfolding smoothed
  none_refused = rw number_none refl
