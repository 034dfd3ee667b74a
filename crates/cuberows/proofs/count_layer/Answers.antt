-- `cuberows::count_layer` meets its contract. The loop's invariant: the cubes before a stretch are counted.
use mathlib.Core.Path.{◌≡◌, refl, ap, ap₂, subst⁻¹, ◌∙◌}
use Prim.Native.Nat.{◌+◌, ◌-◌}
use native.Mathlib.Omega.{arith}
use Rattle.laws.proofs.Ranges.{sum_split}
use Rattle.cube.specs.Answer.{count}
use Rattle.rows.specs.Rows.{Stands, first_x, own_cubes, cubes_mask, first_stretch}
use Rattle.rows.proofs.Stretches.{stands_first, stands_next, word_there, cubes_most}
use Rattle.cuberows.specs.Cubes.{corners_at, BusyCubes, stretch_count, cube_case}
use Rattle.cuberows.proofs.Layers.{counted_to, counted_none, counted_row, counted_all, counted_most, Within, cubes_next, corners_there, stretch_count_lem}
use Rattle.cuberows.proofs.Found.{row_found}
use Rattle.cuberows.proofs.count_layer.Goals as goal
use Rattle.cuberows.proofs.count_layer.Goals.{After-count_stretch-sum}

pub loop-at-init : goal.loop-at-init
loop-at-init c =
    let a = c.args in
    let ready = c.requires.ready in
    let none : first_x a.sides (first_stretch a.sides a.z) ≡ 0 = omega arith in
    subst⁻¹ (λ at. Stands a.sides a.z at × Within a.sides (first_x a.sides at) at.y × (0 ≡ counted_to a.sides a.masks.now a.z (first_x a.sides at) at.y))
    c.first-at.ensures (
      stands_first a.sides ready.fit ready.words a.z ready.from,
      (omega (arith, ready.fit.least_y), λ e. none),
      rw none (counted_none a.sides a.masks.now a.z),
    )

-- from a turn back to the function's entry

pub corners_at-corners-requires : goal.corners_at-corners-requires
corners_at-corners-requires c =
    let l = c.loop-at in
    corners_there c.args.sides c.args.masks.now c.args.z c.requires.ready l.at l.invariant.0 c.loop-at-test.true c.requires.z_bound

pub busy_cubes-busy-requires : goal.busy_cubes-busy-requires
busy_cubes-busy-requires c =
    let a = c.args in
    let l = c.loop-at in
    rw (c.corners_at-corners.ensures, c.cubes_mask-cubes.ensures)
    (row_found a.sides a.masks.now a.z c.requires.ready l.at l.invariant.0 c.loop-at-test.true c.requires.z_bound a.found.now c.requires.found_in)

-- what is counted of the stretch, and what then is counted in all
added : (c : After-count_stretch-sum)
    → let a = c.args in
    let l = c.loop-at in
    l.sum + c.count_stretch-sum.result ≡ counted_to a.sides a.masks.now a.z (first_x a.sides l.at + own_cubes l.at.left) l.at.y
added c =
    let a = c.args in
    let l = c.loop-at in
    let corners = c.corners_at-corners.ensures in
    let mask = c.cubes_mask-cubes.ensures in
    let busy : BusyCubes (corners_at a.masks.now a.sides.words a.sides.ny l.at.word) (cubes_mask a.sides l.at.left) c.busy_cubes-busy.result
    = rw (← corners, ← mask) c.busy_cubes-busy.ensures in
    let mine = ap (λ m. stretch_count m c.busy_cubes-busy.result) corners in
    omega (
      arith,
      l.invariant.2,
      c.count_stretch-sum.ensures,
      mine,
      stretch_count_lem a.sides a.masks.now a.z c.requires.ready l.at l.invariant.0 c.loop-at-test.true c.requires.z_bound c.busy_cubes-busy.result busy,
      sum_split (first_x a.sides l.at) (own_cubes l.at.left) (λ x. count (cube_case a.sides a.masks.now a.z x l.at.y)),
    )

pub overflow_add-sum : goal.overflow_add-sum
overflow_add-sum c =
    let a = c.args in
    let l = c.loop-at in
    let fit = c.requires.ready.fit in
    omega (
      arith,
      added (goal.at.overflow_add-sum c).After-count_stretch-sum,
      counted_most a.sides a.masks.now a.z (first_x a.sides l.at + own_cubes l.at.left) l.at.y fit.most_x,
      cubes_most a.sides a.z l.at l.invariant.0,
      l.invariant.0.along,
      l.invariant.1.0,
      fit.most_x,
      fit.most_y,
    )

pub loop-at-smaller : goal.loop-at-smaller
loop-at-smaller c =
    let l = c.loop-at in
    omega (arith, ap (λ at. at.word) c.next-at.ensures, word_there c.args.sides c.args.masks.now c.args.z c.requires.ready l.at l.invariant.0 l.invariant.1.0)

pub loop-at-preserved : goal.loop-at-preserved
loop-at-preserved c =
    let a = c.args in
    let l = c.loop-at in
    let sum = l.sum + c.count_stretch-sum.result in
    let next =
    cubes_next a.sides a.masks.now a.z c.requires.ready l.at l.invariant.0
    (λ x y. Within a.sides x y × (sum ≡ counted_to a.sides a.masks.now a.z x y))
    (λ p. ((c.loop-at-test.true, λ e. refl), p.1 ∙ counted_row a.sides a.masks.now a.z l.at.y))
    ((l.invariant.1.0, λ e. absurd (omega (arith, c.loop-at-test.true))), added (goal.at.loop-at-preserved c).After-count_stretch-sum) in
    subst⁻¹ (λ at. Stands a.sides a.z at × Within a.sides (first_x a.sides at) at.y × (sum ≡ counted_to a.sides a.masks.now a.z (first_x a.sides at) at.y))
    c.next-at.ensures
    (stands_next a.sides a.z l.at l.invariant.0 l.invariant.1.0, next.0, next.1)

pub returns : goal.returns
returns c =
    let a = c.args in
    let l = c.loop-at in
    let last : l.at.y ≡ a.sides.ny - 1 = omega (arith, l.invariant.1.0, c.loop-at-test.false) in
    let first = l.invariant.1.1 (omega (arith, last, l.invariant.1.0)) in
    l.invariant.2 ∙ ap₂ (counted_to a.sides a.masks.now a.z) first last ∙ counted_all a.sides a.masks.now a.z
