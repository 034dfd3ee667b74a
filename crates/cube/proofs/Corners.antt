-- A case number's bits are its eight corners, so a case's segments are those of its corners.
use mathlib.Core.Path.{◌≡◌, refl, ap, ap₂, ◌∙◌}
use mathlib.Core.List.{List, [], ◌∷◌, ◌++◌, flat_map}
use mathlib.Core.Bool.{Bool, true, false}
use Prim.Native.Nat.{ℕ, zero, suc, ◌<◌}
use native.Mathlib.Omega.{arith}
use lib.Dec.{ltb}
use lib.ListN.{get_or}
use borrow.Author.Tests.{ltb-true}
use Rattle.laws.specs.Sum.{all_of, All}
use Rattle.laws.proofs.Tests.{all_of_lem}
use Rattle.laws.proofs.Binary.{bits_small, bit_of_bits}
use Rattle.cube.specs.Cube.{cases, case_of, is_above, edge_between}
use Rattle.cube.specs.Face.{step, cuts, way_round, face_segments, segments_of}
use Rattle.cube.specs.Answer.{cube_faces, segments}
use Rattle.cube.proofs.Way.{round_agrees}

every_corner_small : all_of (all_of (λ c. ltb c 8)) cube_faces ≡ true
unfolding all_of
every_corner_small = refl

pub faces_small : All (All (λ c. c < 8)) cube_faces
faces_small = all_of_lem (all_of (λ c. ltb c 8)) (All (λ c. c < 8)) (all_of_lem (λ c. ltb c 8) (λ c. c < 8) (λ c h. ltb-true c 8 h)) cube_faces every_corner_small

module _ (above : ℕ → Bool) where
  abbrev corners : List Bool
  corners = above 0 ∷ above 1 ∷ above 2 ∷ above 3 ∷ above 4 ∷ above 5 ∷ above 6 ∷ above 7 ∷ []

  pub case_small : case_of above < cases
  unfolding case_of
  case_small = bits_small corners

  pub corner_of_case : (c : ℕ) → c < 8 → is_above (case_of above) c ≡ above c
  unfolding case_of is_above
  corner_of_case c l = bit_of_bits corners c l ∙ go c l
    where
      go : (c : ℕ) → c < 8 → get_or corners c false ≡ above c
      go zero l = refl
      go (suc zero) l = refl
      go (suc (suc zero)) l = refl
      go (suc (suc (suc zero))) l = refl
      go (suc (suc (suc (suc zero)))) l = refl
      go (suc (suc (suc (suc (suc zero))))) l = refl
      go (suc (suc (suc (suc (suc (suc zero)))))) l = refl
      go (suc (suc (suc (suc (suc (suc (suc zero))))))) l = refl
      go (suc (suc (suc (suc (suc (suc (suc (suc c)))))))) l = absurd (omega arith)

  -- so the segments of rings of corners are those of the case
  step_of_case : (edge : ℕ → ℕ → ℕ) (c d : ℕ) → c < 8 → d < 8 → step (is_above (case_of above)) edge c d ≡ step above edge c d
  step_of_case edge c d h l =
      let from = corner_of_case c h in
      let to = corner_of_case d l in
      λ i. record { leaving = from i; by = edge c d; coming = to i }

  pub ring_of_case : (edge : ℕ → ℕ → ℕ) (ring : List ℕ) → All (λ c. c < 8) ring → face_segments (is_above (case_of above)) edge ring ≡ face_segments above edge ring
  unfolding face_segments way_round
  ring_of_case edge ring small =
      ap cuts (round_agrees (λ c. c < 8) (step (is_above (case_of above)) edge) (step above edge) (step_of_case edge) ring small)

  rings_of_case : (edge : ℕ → ℕ → ℕ) (rings : List (List ℕ)) → All (All (λ c. c < 8)) rings
      → segments_of (is_above (case_of above)) edge rings ≡ segments_of above edge rings
  unfolding segments_of flat_map
  rings_of_case edge [] small = refl
  rings_of_case edge (r ∷ rs) small = ap₂ ◌++◌ (ring_of_case edge r small.0) (rings_of_case edge rs small.1)

  pub segments_of_case : segments (case_of above) ≡ segments_of above edge_between cube_faces
  unfolding segments
  segments_of_case = rings_of_case edge_between cube_faces faces_small
