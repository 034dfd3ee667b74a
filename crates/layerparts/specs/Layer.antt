-- What the layers of a volume have (document 02, request (v)), by document 01's own points, marks and triangles.
use Rattle.std.specs.Prelude.{◌≡◌, Bool, ℕ, ◌+◌, ◌*◌, ◌-◌, ◌<◌, ◌≤◌}
use mathlib.Core.List.{List, [], map, flat_map}
use Rattle.laws.specs.Range.{join_to, keep_from}
use Rattle.laws.specs.Mesh.{Triangle}
use Rattle.grid.specs.Grid.{Size, sample_count, axes, is_above_grey, crossed, mark}
use Rattle.grid.specs.Point.{place}
use Rattle.grid.specs.Mode.{cubes}
use Rattle.grid.specs.Mesh.{cube_triangles}

-- the number of the first sample of layer z
abbrev pub first_sample : Size → ℕ → ℕ
first_sample n z = n.nx * (n.ny * z)

-- the same is said of every sample in layers z and z + 1 of the grid
abbrev pub AlikeFrom : {A : Type 0} → Size → ℕ → (ℕ → A) → (ℕ → A) → Type 0
AlikeFrom n z one other = (s : ℕ) → first_sample n z ≤ s → s < first_sample n (z + 2) → s < sample_count n → one s ≡ other s

-- `above` says which samples are above
module _ (n : Size) (above : ℕ → Bool) (z : ℕ) where
  -- the crossed grid edges that leave a sample of layer z, in rising order
  unfoldable pub layer_edges : List ℕ
  layer_edges = keep_from (3 * first_sample n z) (3 * first_sample n (z + 1)) (crossed axes n above)

  -- the triangles of the cubes between layers z and z + 1, x fastest, then y, each corner named by its grid edge
  unfoldable pub layer_triangles : List Triangle
  layer_triangles = join_to (n.ny - 1) (λ y. join_to (n.nx - 1) (λ x. cube_triangles cubes n above x y z))

-- what a call hands out: points with their places, grid edges and marks, and triangles that name points by grid edge
pub record Handed : Type 0 where
  pub places : List ℕ
  pub edges : List ℕ
  pub marks : List ℕ
  pub triangles : List Triangle

abbrev pub nothing : Handed
nothing = record { places = []; edges = []; marks = []; triangles = [] }

-- the points on some grid edges of a volume, and some triangles
abbrev pub handed : Size → ℕ → List ℕ → List ℕ → List Triangle → Handed
handed n grey samples edges triangles =
    record { places = flat_map (place axes n grey samples) edges; edges = edges; marks = map (mark axes n) edges; triangles = triangles }

-- the points of layer z of a volume and the triangles of the cubes between it and the next; and of the last layer the points alone
unfoldable pub layer_through : Size → ℕ → List ℕ → ℕ → Handed
layer_through n grey samples z = let above = is_above_grey grey samples in handed n grey samples (layer_edges n above z) (layer_triangles n above z)

unfoldable pub last_layer : Size → ℕ → List ℕ → ℕ → Handed
last_layer n grey samples z = handed n grey samples (layer_edges n (is_above_grey grey samples) z) []
