-- A face has two cubes, which see it from its two sides and go round it opposite ways. From the four corner values alone, both find the same
-- segments, running opposite ways.
use mathlib.Core.Path.{◌≡◌, refl, ap, sym, ◌∙◌}
use mathlib.Core.List.{List, [], ◌∷◌, map, reverse}
use mathlib.Core.Bool.{Bool, true, false}
use Prim.Native.Nat.{ℕ}
use lib.ListN.{get_or}
use Rattle.laws.specs.Order.{rearranged, is_in, without}
use Rattle.laws.specs.Bits.{all_rows}
use Rattle.laws.specs.Mesh.{flip, same_arrow, total}
use Rattle.laws.proofs.Tests.{row_at}
use Rattle.laws.proofs.Sums.{sum_map}
use Rattle.laws.proofs.Sides.{total_rearranged, total_flip}
use Rattle.cube.specs.Face.{Step, cuts, way_round, face_segments, back}
use Rattle.cube.proofs.Way.{by_named, arrow_named, cuts_renamed}

-- the way round a face whose corners have these values, each step numbered by its place
numbered : List Bool → List Step
numbered bs = way_round (λ c. get_or bs c false) (λ c d. c) (0 ∷ 1 ∷ 2 ∷ 3 ∷ [])

-- the same steps taken back, last first
abbrev back_step : Step → Step
back_step s = record { leaving = s.coming; by = s.by; coming = s.leaving }

backward : List Step → List Step
backward ss = reverse (map back_step ss)

turns : List Bool → Bool
turns bs = rearranged same_arrow (cuts (backward (numbered bs))) (map flip (cuts (numbered bs)))

every_face_turns : all_rows 4 turns ≡ true
unfolding all_rows turns rearranged is_in without same_arrow cuts backward numbered way_round
every_face_turns = refl

total_named : (w : ℕ → ℕ → ℕ) (r : ℕ → ℕ) (ss : List Step) → total w (cuts (map (by_named r) ss)) ≡ total (λ i j. w (r i) (r j)) (cuts ss)
unfolding total
total_named w r ss = rw (cuts_renamed r ss) (sum_map (λ a. w a.from a.to) (arrow_named r) (cuts ss))

module _ (above : ℕ → Bool) (edge : ℕ → ℕ → ℕ) (even : (i j : ℕ) → edge i j ≡ edge j i) (w : ℕ → ℕ → ℕ) where
  pub face_turned : (i j k l : ℕ)
      → total w (face_segments above edge (back (i ∷ j ∷ k ∷ l ∷ []))) ≡ total (λ a b. w b a) (face_segments above edge (i ∷ j ∷ k ∷ l ∷ []))
  unfolding face_segments back turns
  face_turned i j k l =
      ap (λ ss. total w (cuts ss)) there
      ∙ total_named w name (backward (numbered values))
      ∙ total_rearranged (λ a b. w (name a) (name b)) (cuts (backward (numbered values))) (map flip (cuts (numbered values))) turn
      ∙ total_flip (λ a b. w (name a) (name b)) (cuts (numbered values))
      ∙ sym (total_named (λ a b. w b a) name (numbered values))
      ∙ ap (λ ss. total (λ a b. w b a) (cuts ss)) (sym here)
    where
      values : List Bool
      values = above i ∷ above j ∷ above k ∷ above l ∷ []

      name : ℕ → ℕ
      name n = get_or (edge i j ∷ edge j k ∷ edge k l ∷ edge l i ∷ []) n 0

      turn : turns values ≡ true
      turn = row_at 4 turns every_face_turns values refl

      here : way_round above edge (i ∷ j ∷ k ∷ l ∷ []) ≡ map (by_named name) (numbered values)
      here = unfold way_round numbered in refl

      there : way_round above edge (i ∷ l ∷ k ∷ j ∷ []) ≡ map (by_named name) (backward (numbered values))
      there = unfold way_round numbered backward in rw (even i l, even l k, even k j, even j i)
