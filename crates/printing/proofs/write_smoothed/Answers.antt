-- `printing::write_smoothed` meets its contract: smoothing is granted, and the mesh is written with the smoothed points.
use mathlib.Core.Path.{◌≡◌, ap, sym, ◌∙◌, subst}
use mathlib.Core.List.{List, ◌++◌}
use Prim.Native.Nat.{ℕ, ◌+◌, ◌*◌, ◌/◌}
use native.Mathlib.Omega.{arith}
use lib.ListN.{length, take, drop, length-append}
use lib.Seq.{length-take-le, take_at}
use Rattle.std.specs.Result.{IsOk}
use Rattle.mesh.specs.Mesh.{triangles_of}
use Rattle.rounds.specs.Round.{rounds}
use Rattle.rounds.proofs.Within.{smoothed_passes}
use Rattle.printing.specs.Prints.{after_rounds, Prints}
use Rattle.printing.specs.SmallMesh.{mesh_of}
use Rattle.grid.proofs.Refused.{is_granted}
use Rattle.printing.proofs.Smoothing.{smooth_granted, none_refused}
use Rattle.printing.proofs.write_smoothed.Goals as goal
use Rattle.printing.proofs.write_smoothed.Goals.{After-room-smoothed, After-smooth, After-room-work}

pub slice_bounds-smooth-end : goal.slice_bounds-smooth-end
slice_bounds-smooth-end c =
    sym (length-take-le (3 * length c.args.mesh.marks.now) c.room-smoothed.result (omega (arith, c.room-smoothed.ensures, c.requires.small_mesh.few_points)))

pub slice_bounds-smooth-end-2 : goal.slice_bounds-smooth-end-2
slice_bounds-smooth-end-2 c =
    sym (length-take-le (6 * (length c.args.mesh.triangles.now / 3) + 5 * length c.args.mesh.marks.now + 1) c.room-work.result
    (omega (arith, c.room-work.ensures, c.requires.small_mesh.few_points, c.requires.small_mesh.few_triangles)))

-- the smoothed points are read again from the front of their room
module _ (c : After-smooth) where
  abbrev exit : List ℕ
  exit = c.smooth.new.smoothed

  abbrev moved : List ℕ
  moved = rounds (triangles_of c.args.mesh.triangles.now) c.args.mesh.marks.now c.args.weight c.args.rounds c.args.mesh.points.now

  -- a room for the second points, and the work room
  second : length (take (3 * length c.args.mesh.marks.now) c.room-smoothed.result) ≡ 3 * length c.args.mesh.marks.now
  second = length-take-le (3 * length c.args.mesh.marks.now) c.room-smoothed.result (omega (arith, c.room-smoothed.ensures, c.requires.small_mesh.few_points))

  working : let many = 6 * (length c.args.mesh.triangles.now / 3) + 5 * length c.args.mesh.marks.now + 1 in length (take many c.room-work.result) ≡ many
  working =
      length-take-le (6 * (length c.args.mesh.triangles.now / 3) + 5 * length c.args.mesh.marks.now + 1) c.room-work.result
      (omega (arith, c.room-work.ensures, c.requires.small_mesh.few_points, c.requires.small_mesh.few_triangles))

  long : length exit ≡ 3 * length c.args.mesh.marks.now
  long = c.smooth.auto.smoothed ∙ second

  front : take (3 * length c.args.mesh.marks.now) (exit ++ drop (3 * length c.args.mesh.marks.now) c.room-smoothed.result) ≡ moved
  front =
      let a = c.args in
      take_at exit (drop (3 * length a.mesh.marks.now) c.room-smoothed.result) (3 * length a.mesh.marks.now) long
      ∙ (ap (λ o. o.second) c.smooth.ensures
      ∙ smooth_granted a.mesh.points.now a.mesh.triangles.now a.mesh.marks.now a.rounds a.weight _ _ c.requires.small_mesh.passes c.requires.rounds_le_most_rounds.0 c.requires.rounds_le_most_rounds.1 second working)

  granted : IsOk c.smooth.result
  granted =
      let a = c.args in
      is_granted c.smooth.result (ap (λ o. o.number) c.smooth.ensures ∙ none_refused a.mesh.points.now a.mesh.triangles.now a.mesh.marks.now a.rounds a.weight _ _ c.requires.small_mesh.passes c.requires.rounds_le_most_rounds.0 c.requires.rounds_le_most_rounds.1 second working)

pub unwrap-requires : goal.unwrap-requires
unwrap-requires c = granted (goal.at.unwrap-requires c).After-smooth

pub slice_bounds-smoothed-end-2 : goal.slice_bounds-smoothed-end-2
slice_bounds-smoothed-end-2 c =
    omega (arith, length-append (exit (goal.at.slice_bounds-smoothed-end-2 c).After-smooth) (drop (3 * length c.args.mesh.marks.now) c.room-smoothed.result), long (goal.at.slice_bounds-smoothed-end-2 c).After-smooth)

pub slice_bounds-moved-end : goal.slice_bounds-moved-end
slice_bounds-moved-end c =
    sym (ap length (take_at (exit (goal.at.slice_bounds-moved-end c).After-smooth) (drop (3 * length c.args.mesh.marks.now) c.room-smoothed.result) (3 * length c.args.mesh.marks.now) (long (goal.at.slice_bounds-moved-end c).After-smooth)) ∙ long (goal.at.slice_bounds-moved-end c).After-smooth)

pub write_listed-requires : goal.write_listed-requires
write_listed-requires c =
    let a = c.args in
    let p = c.requires.small_mesh in
    record {
      passes = rw (front (goal.at.write_listed-requires c).After-smooth) (smoothed_passes a.mesh.points.now a.mesh.triangles.now a.mesh.marks.now a.weight a.rounds c.requires.rounds_le_most_rounds.1 p.passes);
      edged = p.edged;
      few_points = p.few_points;
      few_triangles = p.few_triangles;
      room = p.room;
    }

pub returns : goal.returns
unfolding after_rounds
returns c =
    let a = c.args in record { inside = c.write_listed.ensures.inside; text = subst (λ p. Prints (mesh_of p a.mesh.triangles.now a.mesh.marks.now) a.edges.now (take c.write_listed.result c.write_listed.new.output)) (front (goal.at.returns c).After-smooth) c.write_listed.ensures.text }
