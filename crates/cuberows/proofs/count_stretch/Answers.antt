-- `cuberows::count_stretch` meets its contract. The loop's invariant: some cubes are passed, and the sum is theirs.
use mathlib.Core.Path.{◌≡◌, refl, ap, sym, ◌∙◌}
use mathlib.Core.Bool.{cond}
use Prim.Native.Nat.{ℕ, ◌+◌}
use native.Mathlib.Omega.{arith}
use lib.Count.{count_trailing_zeros}
use Rattle.laws.specs.Bits.{word_bits}
use Rattle.laws.specs.Range.{sum_to}
use Rattle.laws.proofs.Ranges.{sum_next, sum_quiet}
use Rattle.laws.proofs.Scan.{left_all, next_bit, none_left}
use Rattle.cube.specs.Answer.{count}
use Rattle.cuberows.specs.Cubes.{word_case, busy_count, stretch_count}
use Rattle.cuberows.proofs.Cases.{case_read}
use Rattle.cuberows.proofs.Layers.{busy_most}
use Rattle.cuberows.proofs.count_stretch.Goals as goal

pub loop-busy-init : goal.loop-busy-init
unfolding sum_to
loop-busy-init c = (0, omega arith, left_all c.args.cubes, omega (arith, c.ranges), refl)

pub overflow_add-sum : goal.overflow_add-sum
overflow_add-sum c =
    let l = c.loop-busy in
    let a = c.args in
    let seen = case_read a.counts.now a.corners (count_trailing_zeros word_bits l.busy) _ c.requires c.case-case.ensures in
    omega (arith, seen.few, l.invariant.1, l.invariant.4, busy_most a.corners a.cubes l.invariant.0)

pub loop-busy-preserved : goal.loop-busy-preserved
loop-busy-preserved c =
    let a = c.args in
    let l = c.loop-busy in
    let t = count_trailing_zeros word_bits l.busy in
    let f = next_bit word_bits a.cubes l.invariant.0 l.busy l.invariant.2 l.invariant.3 c.loop-busy-test.true in
    let seen = case_read a.counts.now a.corners t _ c.requires c.case-case.ensures in
    let known : ℕ → ℕ = busy_count a.corners a.cubes in
    let mine : known t ≡ count (word_case a.corners t) = ap (λ b. cond b (count (word_case a.corners t)) 0) f.set in (
      t + 1,
      omega (arith, f.small),
      f.left,
      omega (arith, f.falls, l.invariant.3),
      omega (
        arith,
        l.invariant.4,
        seen.counted,
        ap count seen.is,
        mine,
        sum_quiet l.invariant.0 t known f.from (λ i h k. ap (λ b. cond b (count (word_case a.corners i)) 0) (f.quiet i h k)),
        sum_next t known,
      ),
    )

pub returns : goal.returns
unfolding stretch_count
returns c =
    let a = c.args in
    let l = c.loop-busy in
    l.invariant.4
    ∙ sym (sum_quiet l.invariant.0 word_bits (busy_count a.corners a.cubes) l.invariant.1
    (λ i h k. ap (λ b. cond b (count (word_case a.corners i)) 0) (none_left a.cubes l.invariant.0 l.busy l.invariant.2 c.loop-busy-test.false i h)))
