-- The extraction of a small grid is granted, and what it leaves is what is defined.
use mathlib.Core.Path.{◌≡◌, ap, ◌∙◌}
use mathlib.Core.List.{List}
use mathlib.Core.Bool.{true}
use Prim.Native.Nat.{ℕ, ◌*◌, ◌≤◌, min}
use native.Mathlib.Omega.{arith}
use lib.ListN.{length}
use borrow.Author.Tests.{eq-eqb, le-ltb}
use Rattle.grid.specs.Limits.{most_points, most_triangles, most_small}
use Rattle.grid.specs.Sides.{sides_fit}
use Rattle.grid.specs.Grid.{Size, axes, is_above_grey, sample_count, edge_count}
use Rattle.grid.specs.Mode.{cubes}
use Rattle.grid.specs.Work.{size}
use Rattle.extract.specs.Extraction.{Rooms, point_list, triangle_list, point_room, triangle_room, granted, measured, extracted}
use Rattle.printing.specs.Sizes.{most_small_points, most_small_triangles}
use Rattle.small.proofs.Few.{few_points, few_triangles}

-- the rooms that the program lends the extractor
pub record RoomsHold (samples : ℕ) (r : Rooms) : Type 0 where
  pub points : length r.points ≡ 3 * most_small_points
  pub edges : length r.edges ≡ most_small_points
  pub marks : length r.marks ≡ most_small_points
  pub triangles : length r.triangles ≡ 3 * most_small_triangles
  pub work : length r.work ≡ 3 * samples

module _ (nx ny nz grey : ℕ) (samples : List ℕ) (r : Rooms) (fit : sides_fit nx ny nz ≡ true) (small : nx * (ny * nz) ≤ most_small) (all : length samples ≡ nx * (ny * nz)) (hold : RoomsHold (length samples) r) where
  abbrev n : Size
  n = size nx ny nz

  pub points_few : length (point_list cubes n grey samples r) ≤ most_small_points
  points_few = omega (arith, few_points n (is_above_grey grey samples))

  pub triangles_few : length (triangle_list cubes n grey samples r) ≤ most_small_triangles
  triangles_few = omega (arith, few_triangles n (is_above_grey grey samples))

  pub extract_granted : extracted cubes nx ny nz grey samples r ≡ granted cubes n grey samples r
  unfolding extracted measured
  extract_granted =
      rw (
        fit,
        eq-eqb (length samples) (sample_count n) all,
        eq-eqb (length r.work) (edge_count axes n) (hold.work ∙ ap (λ k. 3 * k) all),
        le-ltb (min most_points (point_room cubes n grey samples r)) (length (point_list cubes n grey samples r)) (omega (arith, points_few, hold.points, hold.edges, hold.marks)),
        le-ltb (min most_triangles (triangle_room cubes n grey samples r)) (length (triangle_list cubes n grey samples r)) (omega (arith, triangles_few, hold.triangles)),
      )
