-- Smoothing keeps every coordinate within the limit, so what it leaves passes check 8 again.
use mathlib.Core.Path.{◌≡◌, refl, sym, ◌∙◌}
use mathlib.Core.List.{List, [], ◌∷◌, ◌++◌}
use mathlib.Core.Bool.{Bool, true, false, cond, ◌&&◌}
use Prim.Native.Nat.{ℕ, zero, suc, ◌+◌, ◌*◌, ◌-◌, ◌<◌, ◌≤◌}
use native.Mathlib.Decide.{dec_lt}
use native.Mathlib.Omega.{arith}
use lib.Dec.{eqb, leb}
use lib.ListN.{length, get_or, get_or-append}
use lib.Seq.{get_or-append-add}
use borrow.Author.Tests.{le-leb, leb-true}
use Rattle.laws.specs.Sum.{sum_of}
use Rattle.laws.specs.Mesh.{Triangle}
use Rattle.laws.proofs.Tests.{both, all_holds}
use Rattle.laws.proofs.Sums.{sum_bounded}
use Rattle.laws.proofs.Ranges.{of_join}
use Rattle.laws.proofs.Rows.{length_rows}
use Rattle.grid.specs.Limits.{most_weight, most_coordinate}
use Rattle.mesh.specs.Neighbours.{neighbours}
use Rattle.mesh.specs.Mesh.{triangles_of}
use Rattle.mesh.specs.Check.{all_within, mesh_number}
use Rattle.mesh.proofs.Passed.{passed, passes_again}
use Rattle.rounds.specs.Round.{moved, moved_if, coordinate_of, moved_from, round, rounds}
use Rattle.rounds.specs.Steps.{SmallPlaces}
use Rattle.rounds.proofs.Weighed.{moved_small}

small_append : (xs ys : List ℕ) → SmallPlaces xs → SmallPlaces ys → SmallPlaces (xs ++ ys)
small_append xs ys a b i = go (dec_lt i (length xs))
  where
    go : Dec (i < length xs) → get_or (xs ++ ys) i 0 ≤ most_coordinate
    go (yes l) = rw (get_or-append xs ys 0 i l) (a i)
    go (no l) =
        let is : i ≡ length xs + (i - length xs) = omega arith in
        rw (is, get_or-append-add xs ys (i - length xs) 0) (b (i - length xs))

moved_if_small : (mark w d p s : ℕ) → w ≤ most_weight → p ≤ most_coordinate → s ≤ d * most_coordinate → moved_if mark w d p s ≤ most_coordinate
unfolding moved_if
moved_if_small mark w d p s lw lp ls = go (eqb mark 0 && leb 1 d) refl
  where
    go : (b : Bool) → (eqb mark 0 && leb 1 d) ≡ b → cond b (moved w d p s) p ≤ most_coordinate
    go true e = moved_small w d p s most_coordinate lw (leb-true 1 d (both (eqb mark 0) (leb 1 d) e).1) lp ls
    go false e = lp

module _ (ts : List Triangle) (marks : List ℕ) (w : ℕ) (lw : w ≤ most_weight) where
  pub round_small : (old : List ℕ) → SmallPlaces old → SmallPlaces (round ts marks w old)
  unfolding round
  round_small old small =
      of_join SmallPlaces (λ i. omega arith) small_append (length marks) (λ p. let new = moved_from (get_or marks p 0) w old p (neighbours (length marks) ts p) in new 0 ∷ new 1 ∷ new 2 ∷ []) (λ p l i. three p i)
    where
      one : (p a : ℕ) → moved_from (get_or marks p 0) w old p (neighbours (length marks) ts p) a ≤ most_coordinate
      one p a =
          let ns = neighbours (length marks) ts p in
          moved_if_small (get_or marks p 0) w (length ns) (coordinate_of old p a) (sum_of (λ q. coordinate_of old q a) ns) lw (small (3 * p + a))
          (sum_bounded most_coordinate (λ q. coordinate_of old q a) (λ q. small (3 * q + a)) ns)

      three : (p i : ℕ) → get_or (let new = moved_from (get_or marks p 0) w old p (neighbours (length marks) ts p) in new 0 ∷ new 1 ∷ new 2 ∷ []) i 0 ≤ most_coordinate
      three p zero = one p 0
      three p (suc zero) = one p 1
      three p (suc (suc zero)) = one p 2
      three p (suc (suc (suc i))) = omega arith

  pub rounds_small : (k : ℕ) (points : List ℕ) → SmallPlaces points → SmallPlaces (rounds ts marks w k points)
  unfolding rounds
  rounds_small zero points h = h
  rounds_small (suc k) points h = round_small (rounds ts marks w k points) (rounds_small k points h)

  -- check 8 of what smoothing leaves
  pub rounds_within : (k : ℕ) (points : List ℕ) → SmallPlaces points → all_within most_coordinate (rounds ts marks w k points) ≡ true
  unfolding all_within
  rounds_within k points h =
      all_holds (length (rounds ts marks w k points)) (λ i. leb (get_or (rounds ts marks w k points) i 0) most_coordinate)
      (λ i l. le-leb (get_or (rounds ts marks w k points) i 0) most_coordinate (rounds_small k points h i))

  -- and its length
  pub length_round : (old : List ℕ) → length (round ts marks w old) ≡ 3 * length marks
  unfolding round
  length_round old =
      let r = length_rows 3 (λ p. let new = moved_from (get_or marks p 0) w old p (neighbours (length marks) ts p) in new 0 ∷ new 1 ∷ new 2 ∷ []) (λ p. refl) (length marks) in
      omega (arith, r)

  pub length_rounds : (k : ℕ) (points : List ℕ) → length points ≡ 3 * length marks → length (rounds ts marks w k points) ≡ 3 * length marks
  unfolding rounds
  length_rounds zero points h = h
  length_rounds (suc k) points h = length_round (rounds ts marks w k points)

-- so a smoothed mesh passes every check that the raw one passed
pub smoothed_passes : (points triangles marks : List ℕ) (w k : ℕ) → w ≤ most_weight → mesh_number points triangles marks ≡ 0
    → mesh_number (rounds (triangles_of triangles) marks w k points) triangles marks ≡ 0
smoothed_passes points triangles marks w k lw h =
    let m = passed points triangles marks h in
    let ts = triangles_of triangles in
    passes_again points triangles marks (rounds ts marks w k points) h (length_rounds ts marks w lw k points m.threes ∙ sym m.threes)
    (rounds_within ts marks w lw k points m.small)
