-- Document 01, "Figures to hold it against": the grid of 3×3×3 samples, the centre 100 and the others 0, at grey value 50.
use Rattle.std.specs.Prelude.{◌≡◌, ℕ, pos, length, replicate}
use mathlib.Core.List.{List, [], ◌∷◌, ◌++◌, map, flat_map}
use Rattle.laws.specs.Values.{list_to}
use Rattle.laws.specs.Mesh.{triangle, flat}
use Rattle.grid.specs.Grid.{Size, axes, is_above_grey, mark}
use Rattle.grid.specs.Point.{point_edges, place}
use Rattle.grid.specs.Mode.{cubes}
use Rattle.grid.specs.Mesh.{mesh}
use Rattle.mesh.specs.Mesh.{triangle_count, triangle_at, triangles_of}
use Rattle.rounds.specs.Round.{rounds}
use Rattle.shellnumbers.specs.Numbering.{Numbering}
use Rattle.records.specs.declared.Shell.{Shell}
use Rattle.records.specs.Record.{record_of}
use Rattle.curvature.specs.declared.answers.Answer.TheVariants.{Flat}
use Rattle.curvature.specs.Curved.{answer_for}

abbrev pub centre_size : Size
centre_size = record { nx = 3; ny = 3; nz = 3 }

-- sample (1, 1, 1) stands at 13
abbrev pub centre_samples : List ℕ
centre_samples = replicate 13 0 ++ 100 ∷ replicate 13 0

abbrev pub centre_grey : ℕ
centre_grey = 50

-- its mesh, by the definitions: the grid edges of its points, their places and marks, and its triangles
unfoldable pub centre_edges : List ℕ
centre_edges = point_edges axes centre_size (is_above_grey centre_grey centre_samples)

unfoldable pub centre_points : List ℕ
centre_points = flat_map (place axes centre_size centre_grey centre_samples) centre_edges

unfoldable pub centre_marks : List ℕ
centre_marks = map (mark axes centre_size) centre_edges

unfoldable pub centre_triangles : List ℕ
centre_triangles = flat (mesh cubes centre_size (is_above_grey centre_grey centre_samples))

-- the points after one round of weight 256
unfoldable pub centre_smoothed : List ℕ
centre_smoothed = rounds (triangles_of centre_triangles) centre_marks 256 1 centre_points

-- its record: this volume, and this box along each axis
abbrev pub centre_record : ℕ → ℕ → ℕ → Shell
centre_record volume least greatest =
    record {
      low = 0;
      points = 6;
      triangles = 8;
      touches = 0;
      volume = pos volume;
      least_x = least;
      greatest_x = greatest;
      least_y = least;
      greatest_y = greatest;
      least_z = least;
      greatest_z = greatest;
    }

-- what document 01 says of it, and of its box document 02 (i)
pub record CentreFigure : Type 0 where
  pub grid_edges : centre_edges ≡ 14 ∷ 31 ∷ 36 ∷ 39 ∷ 40 ∷ 41 ∷ []
  pub places : centre_points ≡ 256 ∷ 256 ∷ 128 ∷ 256 ∷ 128 ∷ 256 ∷ 128 ∷ 256 ∷ 256 ∷ 384 ∷ 256 ∷ 256 ∷ 256 ∷ 384 ∷ 256 ∷ 256 ∷ 256 ∷ 384 ∷ []
  pub inside : centre_marks ≡ replicate 6 0
  pub eight : triangle_count centre_triangles ≡ 8
  pub first : triangle_at centre_triangles 0 ≡ triangle 2 0 1
  -- every point has shell number 0, and there is one shell; it touches nothing
  pub one_shell : Numbering (triangles_of centre_triangles) (length centre_marks) (replicate 6 0) 1
  pub listed : record_of centre_points centre_triangles centre_marks (replicate 6 0) 0 ≡ centre_record 16777216 128 384
  -- one round of weight 256
  pub one_place : centre_smoothed ≡ replicate 18 256
  pub listed_there : record_of centre_smoothed centre_triangles centre_marks (replicate 6 0) 0 ≡ centre_record 0 256 256
  pub all_flat : list_to 6 (answer_for centre_smoothed centre_triangles centre_marks) ≡ replicate 6 Flat
