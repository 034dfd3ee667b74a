-- `triangles::write_layer` meets its contract. The loop's invariant: the cubes before a stretch are written.
use mathlib.Core.Path.{◌≡◌, ap, ap₂, subst, subst⁻¹, ◌∙◌}
use Prim.Native.Nat.{◌-◌}
use native.Mathlib.Omega.{arith}
use Rattle.rows.specs.Rows.{Stands, first_x, cubes_mask, first_stretch}
use Rattle.rows.proofs.Stretches.{stands_first, word_there}
use Rattle.cuberows.specs.Cubes.{corners_at, BusyCubes}
use Rattle.cuberows.proofs.Layers.{Within, corners_there}
use Rattle.cuberows.proofs.Found.{row_found}
use Rattle.triangles.specs.Walk.{Written}
use Rattle.triangles.proofs.Names.{written_none}
use Rattle.triangles.proofs.Layers.{named_to, named_none, named_all, stretch_room, stretch_next}
use Rattle.triangles.proofs.write_layer.Goals as goal
use Rattle.triangles.proofs.write_layer.Goals.{After-busy_cubes-busy}

pub loop-at-init : goal.loop-at-init
loop-at-init c =
    let a = c.args in
    let ready = c.requires.ready in
    let none : first_x a.sides (first_stretch a.sides a.z) ≡ 0 = omega arith in
    subst⁻¹
    (λ at. Stands a.sides a.z at × Within a.sides (first_x a.sides at) at.y
    × Written a.triangles.now a.triangles.now a.from (named_to a.tables.offsets.now a.names.now a.sides a.masks.now a.z (first_x a.sides at) at.y) a.from)
    c.first-at.ensures (
      stands_first a.sides ready.fit ready.words a.z ready.from,
      (omega (arith, ready.fit.least_y), λ e. none),
      rw (none, named_none a.tables.offsets.now a.names.now a.sides a.masks.now a.z) (written_none a.triangles.now a.from),
    )

-- from a turn back to the function's entry

pub corners_at-corners-requires : goal.corners_at-corners-requires
corners_at-corners-requires c =
    let l = c.loop-at in
    corners_there c.args.sides c.args.masks.now c.args.z c.requires.ready l.at l.invariant.0 c.loop-at-test.true c.requires.z_bound

pub busy_cubes-busy-requires : goal.busy_cubes-busy-requires
busy_cubes-busy-requires c =
    let a = c.args in
    let l = c.loop-at in
    rw (c.corners_at-corners.ensures, c.cubes_mask-cubes.ensures)
    (row_found a.sides a.masks.now a.z c.requires.ready l.at l.invariant.0 c.loop-at-test.true c.requires.z_bound a.found.now c.requires.found_in)

-- the busy cubes of the grid's words
busy_is : (c : After-busy_cubes-busy)
    → let a = c.args in
    let at = c.loop-at.at in
    BusyCubes (corners_at a.masks.now a.sides.words a.sides.ny at.word) (cubes_mask a.sides at.left) c.busy_cubes-busy.result
busy_is c = rw (← c.corners_at-corners.ensures, ← c.cubes_mask-cubes.ensures) c.busy_cubes-busy.ensures

pub write_stretch-to-requires : goal.write_stretch-to-requires
write_stretch-to-requires c =
    let a = c.args in
    let l = c.loop-at in record {
      read = c.requires.read;
      stretch_room = stretch_room a.tables.offsets.now a.names.now a.sides a.masks.now a.z c.requires.ready l.at l.invariant.0 c.loop-at-test.true c.requires.z_bound
          c.busy_cubes-busy.result
          (busy_is (goal.at.write_stretch-to-requires c).After-busy_cubes-busy)
          l.invariant.2
          c.corners_at-corners.result
          c.corners_at-corners.ensures
          c.requires.layer_room;
    }

pub loop-at-smaller : goal.loop-at-smaller
loop-at-smaller c =
    let l = c.loop-at in
    omega (arith, ap (λ at. at.word) c.next-at.ensures, word_there c.args.sides c.args.masks.now c.args.z c.requires.ready l.at l.invariant.0 l.invariant.1.0)

pub loop-at-preserved : goal.loop-at-preserved
loop-at-preserved c =
    let a = c.args in
    let l = c.loop-at in
    stretch_next a.tables.offsets.now a.names.now a.sides a.masks.now a.z c.requires.ready l.at l.invariant.0 c.loop-at-test.true c.requires.z_bound
    c.busy_cubes-busy.result
    (busy_is (goal.at.loop-at-preserved c).After-busy_cubes-busy)
    l.invariant.2
    c.corners_at-corners.result
    c.corners_at-corners.ensures
    c.next-at.result
    c.next-at.ensures
    c.write_stretch-to.ensures

pub returns : goal.returns
returns c =
    let a = c.args in
    let l = c.loop-at in
    let last : l.at.y ≡ a.sides.ny - 1 = omega (arith, l.invariant.1.0, c.loop-at-test.false) in
    let first = l.invariant.1.1 (omega (arith, last, l.invariant.1.0)) in
    let named = named_to a.tables.offsets.now a.names.now a.sides a.masks.now a.z in
    subst (λ list. Written a.triangles.now l.triangles a.from list l.to)
    (ap₂ named first last ∙ named_all a.tables.offsets.now a.names.now a.sides a.masks.now a.z)
    l.invariant.2
