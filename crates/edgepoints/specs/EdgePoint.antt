-- The point on a grid edge, and the points' rooms.
use Rattle.std.specs.Prelude.{◌≡◌, Bool, cond, ℕ, ◌+◌, ◌*◌, ◌^◌, ◌<◌, ◌≤◌, length, get_or}
use mathlib.Core.List.{List, [], ◌∷◌, map, flat_map}
use Rattle.std.proofs.lemmas.List.Edits.{sets}
use Rattle.laws.specs.Range.{one_if}
use Rattle.grid.specs.Limits.{most_number, unit}
use Rattle.grid.specs.Grid.{Size, site, coordinate, along, axes, other_end, some_face, on_face_from}
use Rattle.grid.specs.Point.{offset}
use Rattle.grid.specs.Work.{SidesFit}
use Rattle.rows.specs.declared.Sides.{Sides}
use Rattle.rows.specs.Rows.{layer_first}
use Rattle.edgepoints.specs.declared.Axis.{Axis}
use Rattle.edgepoints.specs.declared.Axis.TheVariants.{X, Y, Z}
use Rattle.edgepoints.specs.declared.Sample.{Sample}
use Rattle.edgepoints.specs.declared.Point.{Point}

-- as far as the rule for an offset can come, whatever the samples
abbrev pub most_offset : ℕ
most_offset = (2 * unit + 1) * most_number

-- the axes by their numbers
abbrev pub axis_number : Axis → ℕ
axis_number X = 0
axis_number Y = 1
axis_number Z = 2

-- the three rooms
pub record PointRooms : Type 0 where
  pub points : List ℕ
  pub edges : List ℕ
  pub marks : List ℕ

abbrev pub point_rooms : List ℕ → List ℕ → List ℕ → PointRooms
point_rooms ps es ms = record { points = ps; edges = es; marks = ms }

-- there is room for so many points
pub record RoomsFor (count : ℕ) (r : PointRooms) : Type 0 where
  pub points : 3 * count ≤ length r.points
  pub edges : count ≤ length r.edges
  pub marks : count ≤ length r.marks

-- points written to the rooms one after the other, the first of them at number n
abbrev pub coordinates : Point → List ℕ
coordinates p = p.x ∷ p.y ∷ p.z ∷ []

unfoldable pub placed_from : PointRooms → ℕ → List Point → PointRooms
placed_from r n ps =
    point_rooms (sets r.points (3 * n) (flat_map coordinates ps)) (sets r.edges n (map (λ p. p.edge) ps)) (sets r.marks n (map (λ p. p.mark) ps))

-- the point on the edge that leaves sample s along an axis, so far along it
unfoldable pub point_by : Size → ℕ → ℕ → ℕ → Point
point_by n s axis far = record {
  x = unit * coordinate n 0 s + along (2 ^ axis) 0 * far;
  y = unit * coordinate n 1 s + along (2 ^ axis) 1 * far;
  z = unit * coordinate n 2 s + along (2 ^ axis) 2 * far;
  edge = 3 * s + axis;
  mark = one_if (some_face (λ across last. on_face_from axes n across last s (2 ^ axis)));
}

-- the same, as far along it as its samples and the grey value say
unfoldable pub point_from : Size → ℕ → List ℕ → ℕ → ℕ → Point
point_from n grey samples s axis = point_by n s axis (offset (get_or samples s 0) (get_or samples (other_end n s (2 ^ axis)) 0) grey)

-- a sample stands at its coordinates in a grid within the limits, and at its place among the samples lent
pub record Standing (sides : Sides) (at : Sample) : Type 0 where
  pub fit : SidesFit sides.nx sides.ny sides.nz
  pub below_x : at.x < sides.nx
  pub below_y : at.y < sides.ny
  pub below_z : at.z < sides.nz
  pub site : at.s ≡ at.x + sides.nx * (at.y + sides.ny * at.z)
  pub lent : at.s ≡ layer_first sides sides.below + at.place

-- how much further on the next sample along an axis stands
abbrev pub step_of : Size → ℕ → ℕ
step_of n axis = site n (along (2 ^ axis) 0) (along (2 ^ axis) 1) (along (2 ^ axis) 2)

-- what it takes to place point n on the edge that leaves the sample at a place along an axis: its two ends are samples that differ, and there is room
pub record Placeable (size : Size) (samples : List ℕ) (place axis n : ℕ) (r : PointRooms) : Type 0 where
  pub there : place + step_of size axis < length samples
  pub differ : get_or samples place 0 ≡ get_or samples (place + step_of size axis) 0 → ⊥
  pub room : RoomsFor (n + 1) r

-- the rooms past an edge: they change where the edge is crossed
abbrev pub with_placed : Bool → ℕ → Point → PointRooms → PointRooms
with_placed cut n p r = cond cut (placed_from r n (p ∷ [])) r
