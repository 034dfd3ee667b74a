-- `small::answer::write_grid` meets its contract: the extraction is granted, and the mesh that it left is written.
use mathlib.Core.List.{List}
use mathlib.Core.Path.{◌≡◌, sym, subst}
use Prim.Native.Nat.{ℕ, ◌*◌, ◌≤◌}
use native.Mathlib.Omega.{arith}
use lib.ListN.{length, take}
use lib.Seq.{length-take-le}
use Rattle.grid.specs.Limits.{most_small}
use Rattle.extract.specs.Extraction.{Rooms, Outcome}
use Rattle.std.specs.Prelude.{Ok}
use Rattle.grid.specs.Mode.{cubes}
use Rattle.grid.proofs.Refused.{is_granted}
use Rattle.extract.specs.Promise.{rooms, answered, Extracts}
use Rattle.closed.specs.Left.{mesh_left, edges_left}
use Rattle.gridtext.proofs.Checks.{passed}
use Rattle.printing.specs.Sizes.{most_small_points, most_small_triangles}
use Rattle.small.specs.Answer.{grid_edges, smoothed_mesh}
use Rattle.printing.specs.Prints.{after_rounds, Prints}
use Rattle.small.proofs.Steps.{RoomsHold}
use Rattle.small.proofs.Extracted.{none as none_refused, smoothing_fits_lem, points_counted, triangles_counted, small_mesh, edges_are, mesh_is}
use Rattle.small.specs.Promise.{SmallGrid}
use Rattle.gridtext.specs.declared.Head.{Head}
use Rattle.small.proofs.answer.write_grid.Goals as goal
use Rattle.small.proofs.answer.write_grid.Goals.{After-unwrap-counts}

-- the samples are few, so that the work room holds their edges
few : (head : Head) (samples : List ℕ) → SmallGrid head samples → length samples ≤ most_small
few head samples small = omega (arith, small.1, (passed head small.0).1)

working : (head : Head) (samples work : List ℕ) → SmallGrid head samples → length work ≡ most_small_points → length (take (3 * length samples) work) ≡ 3 * length samples
working head samples work small room = length-take-le (3 * length samples) work (omega (arith, few head samples small, room))

pub slice_bounds-work-end : goal.slice_bounds-work-end
slice_bounds-work-end c = omega (arith, few c.args.head c.args.samples.now c.requires.0, c.room-work.ensures)

pub slice_bounds-extract-end-5 : goal.slice_bounds-extract-end-5
slice_bounds-extract-end-5 c = sym (working c.args.head c.args.samples.now c.room-work.result c.requires.0 c.room-work.ensures)

-- the rooms that are lent hold every small grid
rooms_hold : (head : Head) (samples points edges marks triangles work : List ℕ) → SmallGrid head samples
    → length points ≡ 3 * most_small_points → length edges ≡ most_small_points → length marks ≡ most_small_points → length triangles ≡ 3 * most_small_triangles → length work ≡ most_small_points
    → RoomsHold (length samples) (rooms points edges marks triangles (take (3 * length samples) work))
rooms_hold head samples points edges marks triangles work small p e m t w =
    record { points = p; edges = e; marks = m; triangles = t; work = working head samples work small w }

pub unwrap-counts-requires : goal.unwrap-counts-requires
unwrap-counts-requires c =
    let hold = rooms_hold c.args.head c.args.samples.now _ _ _ _ c.room-work.result c.requires.0 c.room-points.ensures c.room-edges.ensures c.room-marks.ensures c.room-triangles.ensures c.room-work.ensures in
    is_granted c.extract-done.result (none_refused c.args.head c.args.samples.now c.requires.0 _ _ hold c.extract-done.ensures)

-- what was lent, and what is left of a granted call
module _ (c : After-unwrap-counts) where
  abbrev before : Rooms
  before =
      rooms c.room-points.result c.room-edges.result c.room-marks.result c.room-triangles.result
      (take (3 * length c.args.samples.now) c.room-work.result)

  abbrev after : Outcome
  after =
      answered (Ok c.unwrap-counts.result)
      (rooms c.extract-done.new.points c.extract-done.new.edges c.extract-done.new.marks c.extract-done.new.triangles
      c.extract-done.new.work)

  held : RoomsHold (length c.args.samples.now) before
  held = rooms_hold c.args.head c.args.samples.now _ _ _ _ c.room-work.result c.requires.0 c.room-points.ensures c.room-edges.ensures c.room-marks.ensures c.room-triangles.ensures c.room-work.ensures

  extracts : Extracts cubes c.args.head.nx c.args.head.ny c.args.head.nz c.args.head.grey c.args.samples.now before after
  extracts = rw c.unwrap-counts.ensures at c.extract-done.ensures

  counted : after.point_count ≤ most_small_points
  counted = (points_counted c.args.head c.args.samples.now c.requires.0 before after held extracts).0

  made : after.triangle_count ≤ most_small_triangles
  made = triangles_counted c.args.head c.args.samples.now c.requires.0 before after held extracts

  -- each room holds what is read from its front
  places_hold : 3 * after.point_count ≤ length after.rooms.points
  places_hold = omega (arith, counted, c.extract-done.auto.points, held.points)

  edges_hold : after.point_count ≤ length after.rooms.edges
  edges_hold = omega (arith, counted, c.extract-done.auto.edges, held.edges)

  marks_hold : after.point_count ≤ length after.rooms.marks
  marks_hold = omega (arith, counted, c.extract-done.auto.marks, held.marks)

  triangles_hold : 3 * after.triangle_count ≤ length after.rooms.triangles
  triangles_hold = omega (arith, made, c.extract-done.auto.triangles, held.triangles)

pub slice_bounds-points-end : goal.slice_bounds-points-end
slice_bounds-points-end c = places_hold (goal.at.slice_bounds-points-end c).After-unwrap-counts

pub slice_bounds-mesh-end : goal.slice_bounds-mesh-end
slice_bounds-mesh-end c = sym (length-take-le _ _ (places_hold (goal.at.slice_bounds-mesh-end c).After-unwrap-counts))

pub slice_bounds-edges-end : goal.slice_bounds-edges-end
slice_bounds-edges-end c = edges_hold (goal.at.slice_bounds-edges-end c).After-unwrap-counts

pub slice_bounds-write_smoothed-end : goal.slice_bounds-write_smoothed-end
slice_bounds-write_smoothed-end c = sym (length-take-le _ _ (edges_hold (goal.at.slice_bounds-write_smoothed-end c).After-unwrap-counts))

pub slice_bounds-marks-end : goal.slice_bounds-marks-end
slice_bounds-marks-end c = marks_hold (goal.at.slice_bounds-marks-end c).After-unwrap-counts

pub slice_bounds-mesh-end-3 : goal.slice_bounds-mesh-end-3
slice_bounds-mesh-end-3 c = sym (length-take-le _ _ (marks_hold (goal.at.slice_bounds-mesh-end-3 c).After-unwrap-counts))

pub slice_bounds-triangles-end : goal.slice_bounds-triangles-end
slice_bounds-triangles-end c = triangles_hold (goal.at.slice_bounds-triangles-end c).After-unwrap-counts

pub slice_bounds-mesh-end-2 : goal.slice_bounds-mesh-end-2
slice_bounds-mesh-end-2 c = sym (length-take-le _ _ (triangles_hold (goal.at.slice_bounds-mesh-end-2 c).After-unwrap-counts))

pub write_smoothed-requires : goal.write_smoothed-requires
unfolding mesh_left edges_left
write_smoothed-requires c = record { small_mesh = small_mesh c.args.head c.args.samples.now c.requires.0 (before (goal.at.write_smoothed-requires c).After-unwrap-counts) (after (goal.at.write_smoothed-requires c).After-unwrap-counts) (held (goal.at.write_smoothed-requires c).After-unwrap-counts) (extracts (goal.at.write_smoothed-requires c).After-unwrap-counts) _ c.requires.1; rounds_le_most_rounds = smoothing_fits_lem c.args.head c.args.samples.now c.requires.0 }

pub returns : goal.returns
unfolding mesh_left edges_left smoothed_mesh
returns c =
    let a = c.args in
    let text = take c.write_smoothed.result c.write_smoothed.new.output in
    let mesh = mesh_is a.head a.samples.now c.requires.0 (before (goal.at.returns c).After-unwrap-counts) (after (goal.at.returns c).After-unwrap-counts) (held (goal.at.returns c).After-unwrap-counts) (extracts (goal.at.returns c).After-unwrap-counts) in
    let edges = edges_are a.head a.samples.now c.requires.0 (before (goal.at.returns c).After-unwrap-counts) (after (goal.at.returns c).After-unwrap-counts) (held (goal.at.returns c).After-unwrap-counts) (extracts (goal.at.returns c).After-unwrap-counts) in record {
      inside = c.write_smoothed.ensures.inside;
      text = subst (λ m. Prints (after_rounds a.head.rounds a.head.weight m) (grid_edges a.head a.samples.now) text) mesh
          (subst (λ g. Prints (after_rounds a.head.rounds a.head.weight (mesh_left (after (goal.at.returns c).After-unwrap-counts))) g text) edges c.write_smoothed.ensures.text);
    }
