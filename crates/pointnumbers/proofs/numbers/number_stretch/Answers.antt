-- `pointnumbers::numbers::number_stretch` meets its contract. The invariant: the walk has passed some samples of the stretch, whose edges are numbered, and the busy word has the bits of those left.
--
use Prim.Native.Nat.{◌+◌, ◌*◌, ◌<◌, ◌≤◌}
use native.Mathlib.Omega.{arith}
use lib.Count.{count_trailing_zeros}
use Rattle.laws.specs.Bits.{word_bits}
use Rattle.grid.specs.Limits.{most_edges}
use Rattle.grid.specs.Grid.{axes, edge_count}
use Rattle.rows.specs.Rows.{size_of, own_samples}
use Rattle.rows.proofs.Stretches.{edges_few, own_most, sample_there}
use Rattle.rows.proofs.Busy.{busy_of, busy_small, Found}
use Rattle.pointnumbers.specs.Numbers.{NumberedTo}
use Rattle.pointnumbers.proofs.Numbering.{numbers_few}
use Rattle.pointnumbers.proofs.Walk.{walk_first, walk_last, next_busy, walk_to, walk_on}
use Rattle.pointnumbers.proofs.numbers.number_stretch.Goals as goal
use Rattle.pointnumbers.proofs.numbers.number_stretch.Goals.{After-loop-busy, In-loop-busy, Start}

pub loop-busy-init : goal.loop-busy-init
loop-busy-init c =
    let fits = c.struct_known-2-1.given in
    let crossed = c.crossed_at-crossed.result in
    let a = c.args in
    walk_first a.masks.now a.at.s (own_samples a.at.left) crossed a.from a.work.now
    (busy_small crossed (omega (arith, fits)) (omega (arith, fits)) (omega (arith, fits)))

-- the next busy sample
found_next : (c : In-loop-busy)
    → let a = c.args in
    Found a.sides a.masks.now a.at.s (own_samples a.at.left) (busy_of c.crossed_at-crossed.result) c.loop-busy.invariant.x c.loop-busy.busy
    (count_trailing_zeros word_bits c.loop-busy.busy)
found_next c =
    next_busy _ _ _ _ _ _ _ _ _ c.loop-busy.invariant c.args.sides c.crossed_at-crossed.ensures c.loop-busy-test.true

-- the edges before it are numbered
numbered_there : (c : In-loop-busy)
    → let a = c.args in
    NumberedTo a.sides a.masks.now (3 * (a.at.s + count_trailing_zeros word_bits c.loop-busy.busy)) c.loop-busy.n c.loop-busy.work
numbered_there c =
    walk_to _ _ _ _ _ _ _ _ _ c.loop-busy.invariant c.args.sides c.crossed_at-crossed.ensures c.requires.numbered_to c.loop-busy-test.true

-- its own are edges of the grid
edges_there : (c : In-loop-busy)
    → let a = c.args in
    3 * (a.at.s + count_trailing_zeros word_bits c.loop-busy.busy) + 2 < edge_count axes (size_of a.sides)
edges_there c =
    let a = c.args in
    let stands = c.requires.stands in
    omega (
      arith,
      sample_there a.sides a.z a.at stands c.requires.y_lt_ny c.requires.z_lt_nz (count_trailing_zeros word_bits c.loop-busy.busy)
          (omega (arith, (found_next c).there, own_most a.sides a.z a.at stands)),
    )

-- a grid within the limits has few edges
few : (c : Start) → edge_count axes (size_of c.args.sides) ≤ most_edges
few c = edges_few c.args.sides c.requires.ready.fit

pub number_sample-n-requires : goal.number_sample-n-requires
number_sample-n-requires c =
    let so = numbered_there (goal.at.number_sample-n-requires c).In-loop-busy in record { n_le_e = numbers_few c.args.sides c.args.masks.now _ _ _ so; e_in_bounds = omega (arith, so.whole, edges_there (goal.at.number_sample-n-requires c).In-loop-busy); work_len_bound = omega (arith, so.whole, few (goal.at.number_sample-n-requires c).Start) }

pub loop-busy-preserved : goal.loop-busy-preserved
loop-busy-preserved c =
    walk_on _ _ _ _ _ _ _ _ _ c.loop-busy.invariant c.args.sides c.crossed_at-crossed.ensures c.loop-busy-test.true _ _
    (omega (arith, (numbered_there (goal.at.loop-busy-preserved c).In-loop-busy).whole, edges_there (goal.at.loop-busy-preserved c).In-loop-busy))
    c.cuts.result
    c.cuts.ensures
    c.number_sample-n.ensures

pub returns : goal.returns
returns c =
    walk_last _ _ _ _ _ _ _ _ _ c.loop-busy.invariant c.args.sides c.crossed_at-crossed.ensures c.requires.numbered_to c.loop-busy-test.false
