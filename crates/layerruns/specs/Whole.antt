-- What is put together of a closed run, and what the whole extractor leaves of the same volume.
use Rattle.std.specs.Prelude.{◌≡◌, ℕ, ◌*◌, ◌/◌, ◌≤◌, length, replicate}
use mathlib.Core.List.{List, map, flat_map}
use Rattle.laws.specs.Room.{laid}
use Rattle.laws.specs.Mesh.{flat}
use Rattle.cube.specs.Answer.{most_case_triangles}
use Rattle.grid.specs.Grid.{Size, sample_count, axes, is_above_grey, mark}
use Rattle.grid.specs.Point.{point_edges, number, place}
use Rattle.grid.specs.Mode.{cubes}
use Rattle.grid.specs.Mesh.{edge_mesh}
use Rattle.extract.specs.Extraction.{Rooms, Outcome}
use Rattle.layerstate.specs.State.{layer_size}
use Rattle.layers.specs.Outcome.{Rooms as LayerRooms, point_room, triangle_room}
use Rattle.layerruns.specs.Run.{Received}

-- all layers of a volume were taken, and what was handed out are the points of its mesh, in their order, with their places and marks, and its triangles, each corner by its grid edge
pub record Whole (n : Size) (grey : ℕ) (samples : List ℕ) (got : Received) : Type 0 where
  pub volume : length samples ≡ sample_count n
  pub edges : got.edges ≡ point_edges axes n (is_above_grey grey samples)
  pub places : got.places ≡ flat_map (place axes n grey samples) (point_edges axes n (is_above_grey grey samples))
  pub marks : got.marks ≡ map (mark axes n) (point_edges axes n (is_above_grey grey samples))
  pub corners : got.corners ≡ flat (edge_mesh cubes n (is_above_grey grey samples))

-- what a granted call of the whole extractor leaves, told by what a run has handed out: each corner becomes the number of its point
unfoldable pub leaves : Size → ℕ → List ℕ → Received → Rooms → Outcome
leaves n grey samples got r =
    record {
      number = 0;
      point_count = length got.edges;
      triangle_count = length got.corners / 3;
      rooms =
          record {
            points = laid got.places r.points;
            edges = laid got.edges r.edges;
            marks = laid got.marks r.marks;
            triangles = laid (map (number axes n (is_above_grey grey samples)) got.corners) r.triangles;
            work = replicate (length r.work) 0;
          };
    }

-- rooms that hold whatever one call can hand out: three points a sample, and five triangles a cube, of which there are fewer than samples
abbrev pub HoldsLayer : Size → LayerRooms → Type 0
HoldsLayer n r = (3 * layer_size n ≤ point_room r) × (most_case_triangles * layer_size n ≤ triangle_room r)
