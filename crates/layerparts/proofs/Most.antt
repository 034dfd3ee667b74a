-- What is too many, and what is then refused.
use mathlib.Core.Path.{◌≡◌, refl, ap₂}
use mathlib.Core.Bool.{Bool, true, false, cond, ◌||◌}
use Prim.Native.Nat.{ℕ, ◌+◌, ◌≤◌}
use native.Mathlib.Omega.{arith}
use lib.Dec.{ltb}
use borrow.Author.Tests.{le-ltb, ltb-false}
use Rattle.laws.proofs.Tests.{neither}
use Rattle.grid.specs.Limits.{most_points, most_triangles}
use Rattle.layerstate.specs.declared.Head.{Head}
use Rattle.layerparts.specs.Parts.{too_many, refusal_for}

-- what is not too many is within the bound and the room
module _ (most so_far room count : ℕ) where
  pub few_of : too_many most so_far room count ≡ false → (so_far + count ≤ most) × (count ≤ room)
  few_of h =
      let n = neither (ltb most (so_far + count)) (ltb room count) h in
      (ltb-false most (so_far + count) n.0, ltb-false room count n.1)

  pub not_many : so_far + count ≤ most → count ≤ room → too_many most so_far room count ≡ false
  not_many h k = ap₂ ◌||◌ (le-ltb most (so_far + count) h) (le-ltb room count k)

-- and fewer are not too many either
pub fewer : (most so_far room many count : ℕ) → count ≤ many → too_many most so_far room many ≡ false → too_many most so_far room count ≡ false
fewer most so_far room many count h t =
    let f = few_of most so_far room many t in
    not_many most so_far room count (omega (arith, f.0)) (omega (arith, f.1))

-- the refusal by what is too many, and what is not too many where there is none
module _ (head : Head) (room triangle_room points triangles : ℕ) where
  pub refused_points : too_many most_points head.points room points ≡ true → 4 ≡ refusal_for head room triangle_room points triangles
  unfolding refusal_for
  refused_points h = rw h

  pub refused_triangles : too_many most_points head.points room points ≡ false → too_many most_triangles head.triangles triangle_room triangles ≡ true
      → 5 ≡ refusal_for head room triangle_room points triangles
  unfolding refusal_for
  refused_triangles h k = rw (h, k)

  pub refused_none : too_many most_points head.points room points ≡ false → too_many most_triangles head.triangles triangle_room triangles ≡ false
      → 0 ≡ refusal_for head room triangle_room points triangles
  unfolding refusal_for
  refused_none h k = rw (h, k)

  pub not_refused : refusal_for head room triangle_room points triangles ≡ 0
      → (too_many most_points head.points room points ≡ false) × (too_many most_triangles head.triangles triangle_room triangles ≡ false)
  unfolding refusal_for
  not_refused = go (too_many most_points head.points room points) (too_many most_triangles head.triangles triangle_room triangles)
    where
      go : (a b : Bool) → ◌≡◌ {A = ℕ} (cond a 4 (cond b 5 0)) 0 → (a ≡ false) × (b ≡ false)
      go true b e = absurd (omega arith)
      go false true e = absurd (omega arith)
      go false false e = (refl, refl)
