-- `triangles::write_stretch` meets its contract. The loop's invariant: some cubes are passed, and those passed are written.
use mathlib.Core.Path.{◌≡◌, ap, sym, ◌∙◌}
use mathlib.Core.Bool.{cond}
use mathlib.Core.List.{List, []}
use Prim.Native.Nat.{ℕ, ◌+◌, ◌*◌, ◌^◌, ◌<◌}
use native.Mathlib.Omega.{arith}
use lib.Count.{count_trailing_zeros}
use lib.ListN.{length, get_or}
use Rattle.laws.specs.Bits.{word_bits}
use Rattle.laws.specs.Range.{join_to}
use Rattle.laws.proofs.Ranges.{join_zero, join_next, join_quiet, join_room}
use Rattle.laws.proofs.Scan.{NextBit, left_all, next_bit, none_left}
use Rattle.cuberows.specs.Cubes.{word_case}
use Rattle.cuberows.proofs.Cases.{CaseRead, case_read}
use Rattle.triangles.specs.Names.{cube_names, busy_names}
use Rattle.triangles.specs.Walk.{CubeRoom, Written}
use Rattle.triangles.proofs.Names.{length_cube, written_none, written_one, written_on, written_room, written_length}
use Rattle.triangles.proofs.write_stretch.Goals as goal
use Rattle.triangles.proofs.write_stretch.Goals.{After-case-case, After-shared_slice_known-1, In-loop-busy, Start}

-- what is written for each cube of the stretch
abbrev cube_of : Start → ℕ → List ℕ
cube_of s = busy_names s.args.tables.offsets.now s.args.names.now s.args.corners s.args.cubes s.args.edge

pub loop-busy-init : goal.loop-busy-init
loop-busy-init c =
    (0, omega arith, left_all c.args.cubes, omega (arith, c.ranges), rw (join_zero (cube_of (goal.at.loop-busy-init c).Start)) (written_none _ _))

-- in a turn: the next busy cube

abbrev cube_here : In-loop-busy → ℕ
cube_here c = count_trailing_zeros word_bits c.loop-busy.busy

next_here : (c : In-loop-busy) → NextBit word_bits c.args.cubes c.loop-busy.invariant.0 c.loop-busy.busy (cube_here c)
next_here c =
    let l = c.loop-busy in
    next_bit word_bits c.args.cubes l.invariant.0 l.busy l.invariant.2 l.invariant.3 c.loop-busy-test.true

-- its first grid edge is small
place_small : (c : In-loop-busy) → c.args.edge + 3 * cube_here c < 2 ^ 32
place_small c = omega (arith, (c.requires.stretch_room.named (cube_here c) 0 (next_here c).set (omega arith)).fits)

-- the cubes before it are written
written_here : (c : In-loop-busy)
    → let l = c.loop-busy in
    Written c.args.triangles.now l.triangles c.args.at (join_to (cube_here c) (busy_names c.args.tables.offsets.now c.args.names.now c.args.corners c.args.cubes c.args.edge)) l.to
written_here c =
    let l = c.loop-busy in
    let a = c.args in
    let f = next_here c in
    rw (join_quiet l.invariant.0 (cube_here c) (busy_names c.args.tables.offsets.now c.args.names.now c.args.corners c.args.cubes c.args.edge) f.from
    (λ i h k. ap (λ b. cond b (cube_names a.tables.offsets.now a.names.now (a.edge + 3 * i) (word_case a.corners i)) []) (f.quiet i h k)))
    l.invariant.4

pub overflow_add-here : goal.overflow_add-here
overflow_add-here c = omega (arith, place_small (goal.at.overflow_add-here c).In-loop-busy)

-- the case that was read, its count, and what is written for it
read : (c : After-case-case) → CaseRead c.args.tables.counts.now c.args.corners (count_trailing_zeros word_bits c.loop-busy.busy) c.case-case.result
read c = case_read c.args.tables.counts.now c.args.corners (count_trailing_zeros word_bits c.loop-busy.busy) _ c.requires.read.counts c.case-case.ensures

abbrev many : After-case-case → ℕ
many c = 3 * get_or c.args.tables.counts.now c.case-case.result 0

cube_written : (c : After-case-case) → NextBit word_bits c.args.cubes c.loop-busy.invariant.0 c.loop-busy.busy (count_trailing_zeros word_bits c.loop-busy.busy)
    → let a = c.args in
    cube_names a.tables.offsets.now a.names.now (a.edge + 3 * (count_trailing_zeros word_bits c.loop-busy.busy)) c.case-case.result ≡ (busy_names c.args.tables.offsets.now c.args.names.now c.args.corners c.args.cubes c.args.edge) (count_trailing_zeros word_bits c.loop-busy.busy)
cube_written c f =
    let a = c.args in
    let t = (count_trailing_zeros word_bits c.loop-busy.busy) in
    ap (cube_names a.tables.offsets.now a.names.now (a.edge + 3 * t)) (read c).is
    ∙ sym (ap (λ b. cond b (cube_names a.tables.offsets.now a.names.now (a.edge + 3 * t) (word_case a.corners t)) []) f.set)

many_is : (c : After-case-case) → NextBit word_bits c.args.cubes c.loop-busy.invariant.0 c.loop-busy.busy (count_trailing_zeros word_bits c.loop-busy.busy)
    → many c ≡ length ((busy_names c.args.tables.offsets.now c.args.names.now c.args.corners c.args.cubes c.args.edge) (count_trailing_zeros word_bits c.loop-busy.busy))
many_is c f =
    let a = c.args in
    omega (arith, (read c).counted, length_cube a.tables.offsets.now a.names.now (a.edge + 3 * (count_trailing_zeros word_bits c.loop-busy.busy)) c.case-case.result, ap length (cube_written c f))

room_here : (c : After-case-case) → NextBit word_bits c.args.cubes c.loop-busy.invariant.0 c.loop-busy.busy (count_trailing_zeros word_bits c.loop-busy.busy)
    → (let l = c.loop-busy in Written c.args.triangles.now l.triangles c.args.at (join_to (count_trailing_zeros word_bits c.loop-busy.busy) (busy_names c.args.tables.offsets.now c.args.names.now c.args.corners c.args.cubes c.args.edge)) l.to)
    → let a = c.args in
    let l = c.loop-busy in
    CubeRoom a.tables.offsets.now a.names.now l.triangles c.case-case.result (many c) (a.edge + 3 * (count_trailing_zeros word_bits c.loop-busy.busy)) l.to
room_here c f so =
    record {
      small = (read c).small;
      corners = ap (λ n. 3 * n) (read c).counted;
      named = λ e h. c.requires.stretch_room.named (count_trailing_zeros word_bits c.loop-busy.busy) e f.set h;
      holds = omega (
        arith,
        many_is c f,
        written_room (join_to (count_trailing_zeros word_bits c.loop-busy.busy) (busy_names c.args.tables.offsets.now c.args.names.now c.args.corners c.args.cubes c.args.edge)) _ _ so (join_room (count_trailing_zeros word_bits c.loop-busy.busy) word_bits (busy_names c.args.tables.offsets.now c.args.names.now c.args.corners c.args.cubes c.args.edge) f.small) c.requires.stretch_room.holds,
      );
    }

pub write_cube-requires : goal.write_cube-requires
write_cube-requires c = record { read = c.requires.read; cube_room = room_here (goal.at.write_cube-requires c).After-case-case (next_here (goal.at.write_cube-requires c).In-loop-busy) (written_here (goal.at.write_cube-requires c).In-loop-busy) }

-- from a turn's end back to the case that was read

pub overflow_add-to : goal.overflow_add-to
overflow_add-to c =
    omega (arith, (room_here (goal.at.overflow_add-to c).After-case-case (next_here (goal.at.overflow_add-to c).In-loop-busy) (written_here (goal.at.overflow_add-to c).In-loop-busy)).holds, written_length c.loop-busy.invariant.4, (goal.at.overflow_add-to c).After-shared_slice_known-1)

pub loop-busy-preserved : goal.loop-busy-preserved
loop-busy-preserved c =
    let l = c.loop-busy in
    let f = next_here (goal.at.loop-busy-preserved c).In-loop-busy in
    let t = cube_here (goal.at.loop-busy-preserved c).In-loop-busy in (
      t + 1,
      omega (arith, f.small),
      f.left,
      omega (arith, f.falls, l.invariant.3),
      rw (join_next t (cube_of (goal.at.loop-busy-preserved c).Start))
          (written_on (join_to t (cube_of (goal.at.loop-busy-preserved c).Start)) (cube_of (goal.at.loop-busy-preserved c).Start t) (written_here (goal.at.loop-busy-preserved c).In-loop-busy)
          (written_one c.write_cube.ensures (cube_written (goal.at.loop-busy-preserved c).After-case-case f) (many_is (goal.at.loop-busy-preserved c).After-case-case f))),
    )

pub returns : goal.returns
returns c =
    let a = c.args in
    let l = c.loop-busy in
    rw (join_quiet l.invariant.0 word_bits (cube_of (goal.at.returns c).Start) l.invariant.1
    (λ i h k. ap (λ b. cond b (cube_names a.tables.offsets.now a.names.now (a.edge + 3 * i) (word_case a.corners i)) [])
    (none_left a.cubes l.invariant.0 l.busy l.invariant.2 c.loop-busy-test.false i h)))
    l.invariant.4
