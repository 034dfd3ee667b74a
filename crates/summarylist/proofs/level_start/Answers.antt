-- `summarylist::level_start` meets its contract: 2·8^k is two more than seven times where level k starts.
use Prim.Native.Nat.{◌*◌, ◌^◌, ◌<◌}
use native.Mathlib.Nat.{mod-eq_of_lt, pow-le-pow_right}
use native.Mathlib.Omega.{arith}
use Rattle.laws.proofs.Digits.{pow_pow}
use Rattle.grid.specs.Limits.{halvings}
use Rattle.summary.proofs.Places.{level_start_lem}
use Rattle.summarylist.proofs.level_start.Goals as goal

pub returns : goal.returns
returns c =
    let k = c.args.level in
    let small : 2 * 2 ^ (3 * k) < 2 ^ 64 = omega (arith, pow_pow 2 3 k, pow-le-pow_right {n = 8} (omega arith) {i = k} {j = halvings} (omega arith)) in
    rw (mod-eq_of_lt small) (omega (arith, pow_pow 2 3 k, level_start_lem k))
