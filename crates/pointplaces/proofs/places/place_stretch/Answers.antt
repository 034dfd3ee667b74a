-- `pointplaces::places::place_stretch` meets its contract. The invariant: so many of the stretch's own samples are passed, the points on their edges are placed,
-- and the busy word has the bits of those left. It falls in each turn.
use mathlib.Core.Path.{◌≡◌, refl, ◌∙◌}
use mathlib.Core.List.{List}
use Prim.Native.Nat.{ℕ, ◌+◌, ◌*◌, ◌-◌, ◌<◌, ◌≤◌}
use native.Mathlib.Omega.{arith}
use lib.Count.{count_trailing_zeros}
use Rattle.laws.specs.Bits.{word_bits}
use Rattle.laws.proofs.Scan.{left_all}
use Rattle.grid.specs.Work.{lent_samples}
use Rattle.rows.specs.Rows.{first_x, own_samples, layer_first}
use Rattle.edgepoints.specs.EdgePoint.{PointRooms, point_rooms}
use Rattle.pointplaces.specs.Places.{Placed}
use Rattle.rows.proofs.Stretches.{below_before, first_x_lem, own_most, sample_is}
use Rattle.rows.proofs.Busy.{busy_of, busy_small, Tested, tested, Found, found, rest_uncut}
use Rattle.pointplaces.proofs.Placing.{room_kept, samples_passed, placed_none, placed_on, sample_passed}
use Rattle.pointplaces.proofs.Ends.{sample_placeable}
use Rattle.pointplaces.proofs.places.place_stretch.Goals as goal
use Rattle.pointplaces.proofs.places.place_stretch.Goals.{After-cuts-cuts, After-place_sample-n, At-loop-busy, In-loop-busy, Start}

-- the start, from the call of `crossed_at`, and this call, from the loop's head

-- the samples lent
abbrev samples_lent : Start → List ℕ
samples_lent s = lent_samples s.args.kept.now s.args.samples.now

-- the rooms as they come, at the loop's head, and past a sample
abbrev first_rooms : Start → PointRooms
first_rooms s = point_rooms s.args.points.now s.args.edges.now s.args.marks.now

abbrev loop_rooms : At-loop-busy → PointRooms
loop_rooms l = point_rooms l.loop-busy.points l.loop-busy.edges l.loop-busy.marks

abbrev past_sample : After-place_sample-n → PointRooms
past_sample c =
    point_rooms c.place_sample-n.new.points c.place_sample-n.new.edges c.place_sample-n.new.marks

-- the samples below those lent are before the stretch
below_samples : (c : Start) → layer_first c.args.sides c.args.sides.below ≤ c.args.at.s
below_samples c = below_before c.args.sides c.args.z c.args.at c.requires.stands

pub overflow_sub-place : goal.overflow_sub-place
overflow_sub-place c = below_samples (goal.at.overflow_sub-place c).Start

pub loop-busy-init : goal.loop-busy-init
loop-busy-init c =
    let a = c.args in
    let words = c.struct_known-7-1.given in
    let none : 3 * (a.at.s + 0) ≡ 3 * a.at.s = omega arith in (
      0,
      omega arith,
      busy_small c.crossed_at-crossed.result (omega (arith, words)) (omega (arith, words)) (omega (arith, words)),
      left_all (busy_of c.crossed_at-crossed.result),
      record { points = refl; edges = refl; marks = refl },
      rw none (placed_none a.sides a.grey (samples_lent (goal.at.loop-busy-init c).Start) a.masks.now (3 * a.at.s) a.from (first_rooms (goal.at.loop-busy-init c).Start)),
    )

-- the next busy sample; the points on the edges before its own are placed
abbrev found_at : At-loop-busy → ℕ
found_at l = count_trailing_zeros word_bits l.loop-busy.busy

next_busy : (c : In-loop-busy)
    → let a = c.args in
    Found a.sides a.masks.now a.at.s (own_samples a.at.left) (busy_of c.crossed_at-crossed.result) c.loop-busy.invariant.0 c.loop-busy.busy (count_trailing_zeros word_bits c.loop-busy.busy)
next_busy c =
    let a = c.args in
    found a.sides a.masks.now a.at.s (own_samples a.at.left) c.crossed_at-crossed.result c.crossed_at-crossed.ensures
    c.loop-busy.invariant.0
    c.loop-busy.busy
    c.loop-busy.invariant.3
    c.loop-busy.invariant.2
    c.loop-busy-test.true

placed_there : (c : In-loop-busy)
    → let a = c.args in
    Placed a.sides a.grey (lent_samples c.args.kept.now c.args.samples.now) a.masks.now (3 * a.at.s) (3 * (a.at.s + (count_trailing_zeros word_bits c.loop-busy.busy))) a.from c.loop-busy.n (point_rooms c.args.points.now c.args.edges.now c.args.marks.now) (point_rooms c.loop-busy.points c.loop-busy.edges c.loop-busy.marks)
placed_there c =
    let a = c.args in
    samples_passed a.sides a.grey (lent_samples c.args.kept.now c.args.samples.now) a.masks.now (3 * a.at.s) a.at.s c.loop-busy.invariant.0 (count_trailing_zeros word_bits c.loop-busy.busy) a.from c.loop-busy.n (point_rooms c.args.points.now c.args.edges.now c.args.marks.now) (point_rooms c.loop-busy.points c.loop-busy.edges c.loop-busy.marks)
    (next_busy c).from
    c.loop-busy.invariant.5
    (next_busy c).uncut

-- its edges are crossed as the tests say
cuts_tested : (c : After-cuts-cuts) → count_trailing_zeros word_bits c.loop-busy.busy < own_samples c.args.at.left
    → let a = c.args in
    Tested a.sides a.masks.now (3 * (a.at.s + (count_trailing_zeros word_bits c.loop-busy.busy))) c.cuts-cuts.result
cuts_tested c there =
    let a = c.args in
    rw c.cuts-cuts.ensures
    (tested a.sides a.masks.now a.at.s (own_samples a.at.left) c.crossed_at-crossed.result c.crossed_at-crossed.ensures (count_trailing_zeros word_bits c.loop-busy.busy) there)

pub place_sample-n-requires : goal.place_sample-n-requires
place_sample-n-requires c =
    let a = c.args in
    let stands = c.requires.stands in
    let x = first_x a.sides a.at + found_at (goal.at.place_sample-n-requires c).At-loop-busy in
    let inside : x < a.sides.nx = omega (arith, (next_busy (goal.at.place_sample-n-requires c).In-loop-busy).there, own_most a.sides a.z a.at stands, stands.along) in
    let site : a.at.s + found_at (goal.at.place_sample-n-requires c).At-loop-busy ≡ x + a.sides.nx * (a.at.y + a.sides.ny * a.z)
    = omega (arith, first_x_lem a.sides a.z a.at stands, sample_is a.sides a.z a.at stands (found_at (goal.at.place_sample-n-requires c).At-loop-busy)) in
    let lent : a.at.s + found_at (goal.at.place_sample-n-requires c).At-loop-busy ≡ layer_first a.sides a.sides.below + (a.at.s - layer_first a.sides a.sides.below + found_at (goal.at.place_sample-n-requires c).At-loop-busy) = omega (arith, below_samples (goal.at.place_sample-n-requires c).Start) in
    let own = own_samples a.at.left in
    let fits = room_kept c.loop-busy.invariant.4 c.requires.rooms_for in record {
      standing = record { fit = c.requires.given.ready.fit; below_x = inside; below_y = c.requires.y_lt_ny; below_z = c.requires.z_lt_nz; site = site; lent = lent };
      sample_placeable = sample_placeable a.sides a.z a.grey (samples_lent (goal.at.place_sample-n-requires c).Start) a.masks.now c.requires.given x a.at.y stands.up inside c.requires.y_lt_ny c.requires.z_lt_nz stands.layer
          (3 * a.at.s)
          (3 * (a.at.s + own))
          a.from
          c.loop-busy.n
          c.cuts-cuts.result
          (loop_rooms (goal.at.place_sample-n-requires c).At-loop-busy)
          (a.at.s + found_at (goal.at.place_sample-n-requires c).At-loop-busy)
          (a.at.s - layer_first a.sides a.sides.below + found_at (goal.at.place_sample-n-requires c).At-loop-busy)
          site
          lent
          (placed_there (goal.at.place_sample-n-requires c).In-loop-busy).rising
          (omega (arith, (next_busy (goal.at.place_sample-n-requires c).In-loop-busy).there))
          (placed_there (goal.at.place_sample-n-requires c).In-loop-busy).counted
          (cuts_tested (goal.at.place_sample-n-requires c).After-cuts-cuts (next_busy (goal.at.place_sample-n-requires c).In-loop-busy).there)
          fits;
    }

pub loop-busy-preserved : goal.loop-busy-preserved
loop-busy-preserved c =
    let a = c.args in
    let same = c.loop-busy.invariant.4 in
    let past : 3 * (a.at.s + (found_at (goal.at.loop-busy-preserved c).At-loop-busy + 1)) ≡ 3 * (a.at.s + found_at (goal.at.loop-busy-preserved c).At-loop-busy + 1) = omega arith in
    let here =
    sample_passed a.sides a.grey (samples_lent (goal.at.loop-busy-preserved c).Start) a.masks.now (a.at.s + found_at (goal.at.loop-busy-preserved c).At-loop-busy) c.loop-busy.n c.place_sample-n.result c.cuts-cuts.result
    (loop_rooms (goal.at.loop-busy-preserved c).At-loop-busy)
    (past_sample (goal.at.loop-busy-preserved c).After-place_sample-n)
    (cuts_tested (goal.at.loop-busy-preserved c).After-cuts-cuts (next_busy (goal.at.loop-busy-preserved c).In-loop-busy).there)
    c.place_sample-n.ensures in (
      found_at (goal.at.loop-busy-preserved c).At-loop-busy + 1,
      omega (arith, (next_busy (goal.at.loop-busy-preserved c).In-loop-busy).there),
      omega (arith, (next_busy (goal.at.loop-busy-preserved c).In-loop-busy).falls, c.loop-busy.invariant.2),
      (next_busy (goal.at.loop-busy-preserved c).In-loop-busy).left,
      record { points = c.place_sample-n.auto.points ∙ same.points; edges = c.place_sample-n.auto.edges ∙ same.edges; marks = c.place_sample-n.auto.marks ∙ same.marks },
      rw past (placed_on a.sides a.grey (samples_lent (goal.at.loop-busy-preserved c).Start) a.masks.now (placed_there (goal.at.loop-busy-preserved c).In-loop-busy) here),
    )

pub returns : goal.returns
returns c =
    let a = c.args in
    let own = own_samples a.at.left in
    samples_passed a.sides a.grey (samples_lent (goal.at.returns c).Start) a.masks.now (3 * a.at.s) a.at.s c.loop-busy.invariant.0 own a.from c.loop-busy.n (first_rooms (goal.at.returns c).Start) (loop_rooms (goal.at.returns c).At-loop-busy)
    c.loop-busy.invariant.1
    c.loop-busy.invariant.5
    (rest_uncut a.sides a.masks.now a.at.s own c.crossed_at-crossed.result c.crossed_at-crossed.ensures c.loop-busy.invariant.0 c.loop-busy.busy c.loop-busy.invariant.3 c.loop-busy-test.false)
