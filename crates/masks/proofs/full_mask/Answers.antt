-- `masks::full_mask` meets its contract. The loop's invariant: after i turns the mask is 2 ^ i - 1.
use mathlib.Core.Path.{◌≡◌}
use native.Mathlib.Omega.{arith}
use Rattle.laws.proofs.Halves.{bit_of_ones}
use Rattle.masks.proofs.full_mask.Goals as goal

pub returns : goal.returns
returns c =
    let e : c.loop.counter ≡ c.args.n = omega arith in
    λ x. rw (← e) (bit_of_ones c.loop.counter c.loop.full x c.loop.invariant.1)
