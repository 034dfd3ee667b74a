-- What a call of the extractor leaves behind (document 01, "Points and order" and "Numbers that refuse").
use mathlib.Core.List.{List, map, flat_map}
use Rattle.std.specs.Prelude.{cond, not, ℕ, ◌/◌, min, eqb, ltb, length, replicate}
use Rattle.laws.specs.Room.{laid}
use Rattle.laws.specs.Mesh.{Triangle, flat}
use Rattle.grid.specs.Limits.{most_points, most_triangles}
use Rattle.grid.specs.Sides.{sides_fit}
use Rattle.grid.specs.Grid.{Size, sample_count, edge_count, is_above_grey, mark}
use Rattle.grid.specs.Point.{point_edges, place}
use Rattle.grid.specs.Mode.{Mode}
use Rattle.grid.specs.Mesh.{mesh}
use Rattle.grid.specs.Work.{size}

-- the lent rooms
pub record Rooms : Type 0 where
  pub points : List ℕ
  pub edges : List ℕ
  pub marks : List ℕ
  pub triangles : List ℕ
  pub work : List ℕ

-- the number and the counts that are answered, and the whole content of each room
pub record Outcome : Type 0 where
  pub number : ℕ
  pub point_count : ℕ
  pub triangle_count : ℕ
  pub rooms : Rooms

-- a refusal gives the number and zero counts
unfoldable pub refused : ℕ → Rooms → Outcome
refused number rooms = record { number = number; point_count = 0; triangle_count = 0; rooms = rooms }

-- the same rooms with the work room zero
unfoldable pub cleared : Rooms → Rooms
cleared r =
    record { points = r.points; edges = r.edges; marks = r.marks; triangles = r.triangles; work = replicate (length r.work) 0 }

-- the cubes cut by a mode; document 01's is `cubes`, for which proofs/Plain.antt writes the outcome out
module _ (m : Mode) (n : Size) (grey : ℕ) (samples : List ℕ) (r : Rooms) where
  -- the crossed grid edges in rising order, a point on each, and the triangles
  abbrev pub point_list : List ℕ
  point_list = point_edges m.kind n (is_above_grey grey samples)

  abbrev pub triangle_list : List Triangle
  triangle_list = mesh m n (is_above_grey grey samples)

  -- a room for points or triangles counts its whole threes
  abbrev pub point_room : ℕ
  point_room = min (length r.points / 3) (min (length r.edges) (length r.marks))

  abbrev pub triangle_room : ℕ
  triangle_room = length r.triangles / 3

  -- points, grid edges, marks and triangles fill their rooms from the front, and the work room is zero
  unfoldable pub granted : Outcome
  granted =
      record {
        number = 0;
        point_count = length point_list;
        triangle_count = length triangle_list;
        rooms =
            record {
              points = laid (flat_map (place m.kind n grey samples) point_list) r.points;
              edges = laid point_list r.edges;
              marks = laid (map (mark m.kind n) point_list) r.marks;
              triangles = laid (flat triangle_list) r.triangles;
              work = replicate (length r.work) 0;
            };
      }

  -- what comes after the lengths: the rooms' sizes, then the granted case
  unfoldable pub measured : Outcome
  measured =
      cond (ltb (min most_points point_room) (length point_list)) (refused 4 (cleared r))
      (cond (ltb (min most_triangles triangle_room) (length triangle_list)) (refused 5 (cleared r)) granted)

-- the refusals in the document's order, and the granted case
unfoldable pub extracted : Mode → ℕ → ℕ → ℕ → ℕ → List ℕ → Rooms → Outcome
extracted m nx ny nz grey samples r =
    let n = size nx ny nz in
    cond (not (sides_fit nx ny nz)) (refused 1 r)
    (cond (not (eqb (length samples) (sample_count n))) (refused 2 r)
    (cond (not (eqb (length r.work) (edge_count m.kind n))) (refused 3 r) (measured m n grey samples r)))
