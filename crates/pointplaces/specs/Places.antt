-- The points' rooms while the points are placed.
use Rattle.std.specs.Prelude.{◌≡◌, List, map, true, ℕ, ◌+◌, ◌*◌, ◌/◌, ◌%◌, ◌≤◌, length}
use Rattle.laws.specs.Range.{keep_from}
use Rattle.masks.specs.Masks.{Masked}
use Rattle.rows.specs.declared.Sides.{Sides}
use Rattle.rows.specs.declared.Cuts.{Cuts}
use Rattle.rows.specs.Rows.{Ready, size_of, grid_samples, cut, next_number}
use Rattle.edgepoints.specs.declared.Point.{Point}
use Rattle.edgepoints.specs.EdgePoint.{PointRooms, point_from, Placeable, with_placed, placed_from}

-- what it takes to place the points of the three edges that leave the sample at a place, the first of which is point n
pub record SamplePlaceable (sides : Sides) (samples : List ℕ) (place n : ℕ) (cuts : Cuts) (r : PointRooms) : Type 0 where
  pub along_x : cuts.x ≡ true → Placeable (size_of sides) samples place 0 n r
  pub along_y : cuts.y ≡ true → Placeable (size_of sides) samples place 1 (next_number cuts.x n) r
  pub along_z : cuts.z ≡ true → Placeable (size_of sides) samples place 2 (next_number cuts.y (next_number cuts.x n)) r

-- the point on the edge that leaves sample s along an axis, by the samples lent
abbrev pub point_of : Sides → ℕ → List ℕ → ℕ → ℕ → Point
point_of sides grey samples s axis = point_from (size_of sides) grey (grid_samples sides samples) s axis

-- the next number and the rooms past the three edges that leave a sample
pub record SamplePlaced (sides : Sides) (grey : ℕ) (samples : List ℕ) (s n next : ℕ) (cuts : Cuts) (before after : PointRooms) : Type 0 where
  pub counted : next ≡ next_number cuts.z (next_number cuts.y (next_number cuts.x n))
  pub placed : after
      ≡ with_placed cuts.z (next_number cuts.y (next_number cuts.x n)) (point_of sides grey samples s 2)
      (with_placed cuts.y (next_number cuts.x n) (point_of sides grey samples s 1) (with_placed cuts.x n (point_of sides grey samples s 0) before))

-- the layers that have words have their samples, and the words say which of them are above
pub record Given (sides : Sides) (z grey : ℕ) (samples masks : List ℕ) : Type 0 where
  pub ready : Ready sides z masks
  pub held : sides.nx * (sides.ny * ready.layers) ≤ length samples
  pub masked : Masked sides.nx (sides.ny * ready.layers) grey samples masks

-- the crossed edges from `first` on and below `past`, in rising order, and the points on them
abbrev pub crossings : Sides → List ℕ → ℕ → ℕ → List ℕ
crossings sides masks first past = keep_from first past (cut sides masks)

unfoldable pub point_at : Sides → ℕ → List ℕ → ℕ → Point
point_at sides grey samples e = point_of sides grey samples (e / 3) (e % 3)

-- how many numbers are taken past those edges, the first of which is n
abbrev pub number_past : Sides → List ℕ → ℕ → ℕ → ℕ → ℕ
number_past sides masks first past n = n + length (crossings sides masks first past)

-- their points are written to the rooms, the first of them as point n, and `next` is the number after the last
pub record Placed (sides : Sides) (grey : ℕ) (samples masks : List ℕ) (first past n next : ℕ) (before after : PointRooms) : Type 0 where
  pub rising : first ≤ past
  pub counted : next ≡ number_past sides masks first past n
  pub placed : after ≡ placed_from before n (map (point_at sides grey samples) (crossings sides masks first past))
