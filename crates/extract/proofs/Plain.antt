-- What a call leaves behind, for document 01's cubes: what is defined of a mode, read with its kind of grid edges written out.
use mathlib.Core.Path.{◌≡◌, refl}
use mathlib.Core.List.{List, map, flat_map}
use mathlib.Core.Bool.{cond, not}
use Prim.Native.Nat.{ℕ, ◌*◌}
use lib.Dec.{eqb}
use lib.ListN.{length, replicate}
use Rattle.laws.specs.Room.{laid}
use Rattle.laws.specs.Mesh.{flat}
use Rattle.grid.specs.Sides.{sides_fit}
use Rattle.grid.specs.Grid.{Size, axes, is_above_grey, mark}
use Rattle.grid.specs.Point.{point_edges, place}
use Rattle.grid.specs.Mode.{cubes}
use Rattle.grid.specs.Mesh.{mesh}
use Rattle.grid.specs.Work.{size}
use Rattle.extract.specs.Extraction.{Rooms, refused, granted, measured, extracted}
use Rattle.extract.specs.Promise.{rooms, left}

-- the refusals in order: the sides, nx·ny·nz samples, and a work room of exactly 3·nx·ny·nz numbers
pub extracted_is : (nx ny nz grey : ℕ) (samples : List ℕ) (r : Rooms) → extracted cubes nx ny nz grey samples r
    ≡ cond (not (sides_fit nx ny nz)) (refused 1 r)
    (cond (not (eqb (length samples) (nx * (ny * nz)))) (refused 2 r)
    (cond (not (eqb (length r.work) (3 * (nx * (ny * nz))))) (refused 3 r) (measured cubes (size nx ny nz) grey samples r)))
unfolding extracted
extracted_is nx ny nz grey samples r = refl

-- the granted case: a point on each crossed grid edge 3s + a, in rising order, and the triangles of the cubes
pub granted_is : (n : Size) (grey : ℕ) (samples : List ℕ) (r : Rooms)
    → let points = point_edges axes n (is_above_grey grey samples) in
    let triangles = mesh cubes n (is_above_grey grey samples) in
    granted cubes n grey samples r
    ≡ left 0 (length points) (length triangles)
    (rooms (laid (flat_map (place axes n grey samples) points) r.points) (laid points r.edges) (laid (map (mark axes n) points) r.marks) (laid (flat triangles) r.triangles)
    (replicate (length r.work) 0))
unfolding granted
granted_is n grey samples r = refl
