-- The sums over a point's neighbours, one neighbour at a time.
use mathlib.Core.Path.{◌≡◌, sym}
use mathlib.Core.List.{List}
use Prim.Native.Nat.{ℕ, ◌+◌, ◌*◌, ◌-◌, ◌<◌, ◌≤◌}
use native.Mathlib.Nat.{mul_comm}
use native.Mathlib.Omega.{arith}
use lib.ListN.{length, get_or}
use Rattle.laws.specs.Range.{sum_to}
use Rattle.laws.proofs.Ranges.{sum_next, sum_most}
use Rattle.grid.specs.Limits.{most_coordinate}
use Rattle.rounds.specs.Round.{coordinate_of}
use Rattle.rounds.specs.Steps.{SmallPlaces, NamesTo, held_sum}

module _ (old work : List ℕ) (from : ℕ) where
  pub held_first : (a : ℕ) → 0 ≡ held_sum old work from (from - from) a
  unfolding held_sum sum_to
  held_first a = let e : from - from ≡ 0 = omega arith in rw e

  -- the point at place i is one more; its coordinate stands at a place of the old ones
  pub held_next : (i a place : ℕ) → from ≤ i → place ≡ 3 * get_or work i 0 + a
      → held_sum old work from (i - from) a + get_or old place 0 ≡ held_sum old work from (i + 1 - from) a
  unfolding held_sum
  held_next i a place l is =
      let n : i + 1 - from ≡ i - from + 1 = omega arith in
      let here : from + (i - from) ≡ i = omega arith in
      sym (rw (n, sum_next (i - from) (λ k. coordinate_of old (get_or work (from + k) 0) a), here, is))

  pub held_most : SmallPlaces old → (n a : ℕ) → held_sum old work from n a ≤ n * most_coordinate
  unfolding held_sum
  held_most small n a =
      omega (arith, sum_most most_coordinate n (λ k. coordinate_of old (get_or work (from + k) 0) a) (λ k l. small (3 * get_or work (from + k) 0 + a)), mul_comm most_coordinate n)

  -- a point that is named at place i
  pub named_at : (end i : ℕ) → NamesTo (end - from) from old work → from ≤ i → i < end → 3 * get_or work i 0 + 2 < length old
  named_at end i names a l =
      let here : from + (i - from) ≡ i = omega arith in
      rw here at (names (i - from) (omega arith))
