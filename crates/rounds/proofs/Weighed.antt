-- A smoothed coordinate is no larger than the coordinates that it comes from.
use mathlib.Core.Path.{◌≡◌, ap, sym, ◌∙◌}
use Prim.Native.Nat.{ℕ, ◌+◌, ◌*◌, ◌-◌, ◌<◌, ◌≤◌}
use native.Mathlib.Nat.{add-mul, mul_assoc, mul_comm, mul-le-mul_left}
use native.Mathlib.Omega.{arith}
use Rattle.laws.proofs.Nearest.{nearest_most}
use Rattle.grid.specs.Limits.{most_weight}
use Rattle.rounds.specs.Round.{moved}

-- two weights that share 256 out
shared : (u w x : ℕ) → u + w ≡ most_weight → u * x + w * x ≡ most_weight * x
shared u w x h = sym (add-mul u w x) ∙ ap (λ k. k * x) h

pub weighed_most : (u w d p s most : ℕ) → u + w ≡ most_weight → p ≤ most → s ≤ d * most → u * d * p + w * s ≤ most_weight * (d * most)
weighed_most u w d p s most h lp ls =
    let a : u * d * p ≤ u * d * most = mul-le-mul_left (u * d) lp in
    let b : w * s ≤ w * (d * most) = mul-le-mul_left w ls in
    omega (arith, mul_assoc u d most, shared u w (d * most) h)

pub moved_small : (w d p s most : ℕ) → w ≤ most_weight → 0 < d → p ≤ most → s ≤ d * most → moved w d p s ≤ most
unfolding moved
moved_small w d p s most lw ld lp ls =
    let n : (most_weight - w) * d * p + w * s ≤ most_weight * (d * most) = weighed_most (most_weight - w) w d p s most (omega arith) lp ls in
    nearest_most ((most_weight - w) * d * p + w * s) (most_weight * d) most (omega arith) (omega (arith, n, mul_comm d most))
