-- Lists that pass the check of their elements, and the places of their points.
use mathlib.Core.Path.{◌≡◌, refl, sym, ◌∙◌}
use mathlib.Core.List.{List}
use mathlib.Core.Bool.{Bool, true, false}
use Rattle.std.proofs.Common.{IsTrue, EachIndex, ◌↔◌}
use Prim.Native.Nat.{ℕ, ◌+◌, ◌*◌, ◌<◌, ◌≤◌}
use native.Mathlib.Decide.{dec_lt}
use native.Mathlib.Omega.{arith}
use lib.Dec.{leb}
use lib.ListN.{length, get_or, get_or-eq_default}
use borrow.Author.Tests.{leb-true, le-leb}
use Rattle.laws.proofs.Tests.{all_at, all_holds, all_none, all_more}
use Rattle.grid.specs.Limits.{most_coordinate}
use Rattle.mesh.specs.Check.{all_within}
use Rattle.mesh.specs.Place.{place_of, Near}

-- the steps of a test along a range
pub ruleset all_steps = (all_none, all_more)

-- a list whose elements are within a limit
within : (most : ℕ) (xs : List ℕ) (i : ℕ) → all_within most xs ≡ true → i < length xs → get_or xs i 0 ≤ most
unfolding all_within
within most xs i h l = leb-true _ _ (all_at (length xs) (λ k. leb (get_or xs k 0) most) h i l)

-- a test that says of each element if it is within a limit
pub within_is : (most : ℕ) (xs : List ℕ) (b : Bool) → (IsTrue b ↔ EachIndex xs (λ k. get_or xs k 0 ≤ most)) → b ≡ all_within most xs
unfolding all_within
within_is most xs true h = sym (all_holds (length xs) _ (λ k l. le-leb _ _ (h.0 refl k l)))
within_is most xs false h = go (all_within most xs) refl
  where
    go : (t : Bool) → all_within most xs ≡ t → false ≡ all_within most xs
    go false e = sym e
    go true e = h.1 (λ k l. within most xs k e l) ∙ sym e

-- a place beyond its end reads as 0
pub within_any : (most : ℕ) (xs : List ℕ) (i : ℕ) → all_within most xs ≡ true → get_or xs i 0 ≤ most
within_any most xs i h = go (dec_lt i (length xs))
  where
    go : Dec (i < length xs) → get_or xs i 0 ≤ most
    go (yes l) = within most xs i h l
    go (no ge) = omega (arith, get_or-eq_default xs 0 {n = i} (omega arith))

pub near_place : (points : List ℕ) → all_within most_coordinate points ≡ true → (p : ℕ) → Near (place_of points p)
near_place points h p =
    record {
      x = within_any most_coordinate points (3 * p) h;
      y = within_any most_coordinate points (3 * p + 1) h;
      z = within_any most_coordinate points (3 * p + 2) h;
    }
