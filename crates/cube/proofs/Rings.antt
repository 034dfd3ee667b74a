-- The rings of the six faces go round counterclockwise as seen from outside: x = 0, x = 1, y = 0, y = 1, z = 0, z = 1.
use mathlib.Core.Path.{◌≡◌, refl, ap, sym, ◌∙◌}
use mathlib.Core.List.{List, [], map}
use Prim.Native.Nat.{ℕ, ◌/◌, ◌%◌, ◌<◌}
use lib.IntN.{pos}
use lib.ListN.{get_or, replicate}
use Rattle.laws.specs.Range.{join_to}
use Rattle.laws.specs.Values.{list_to}
use Rattle.laws.proofs.Values.{list_at}
use Rattle.cube.specs.Answer.{cube_faces}
use Rattle.cube.specs.Ring.{way_to, cross_way, squared_way, sides_of, turns_of, corner_along, outward, GoesRound}

abbrev pub ring : ℕ → List ℕ
ring f = get_or cube_faces f []

-- what two functions make of the six faces, computed, at one of them
at_face : {A : Type 0} (g h : ℕ → A) → list_to 6 g ≡ list_to 6 h → (f : ℕ) → f < 6 → g f ≡ h f
at_face g h e f l = sym (list_at 6 f g (g 0) l) ∙ ap (λ xs. get_or xs f (g 0)) e ∙ list_at 6 f h (g 0) l

every_corner : list_to 6 (λ f. map (corner_along (f / 2)) (ring f)) ≡ list_to 6 (λ f. replicate 4 (f % 2))
unfolding list_to join_to corner_along
every_corner = refl

every_side : list_to 6 (λ f. map squared_way (sides_of (ring f))) ≡ list_to 6 (λ f. replicate 4 (pos 1))
unfolding list_to join_to squared_way sides_of way_to
every_side = refl

every_turn : list_to 6 (λ f. turns_of (sides_of (ring f))) ≡ list_to 6 (λ f. replicate 4 (outward (f / 2) (f % 2)))
unfolding list_to join_to turns_of cross_way sides_of way_to outward
every_turn = refl

pub rings_go_round : (f : ℕ) → f < 6 → GoesRound (f / 2) (f % 2) (ring f)
rings_go_round f l =
    record {
      corners = at_face (λ f. map (corner_along (f / 2)) (ring f)) (λ f. replicate 4 (f % 2)) every_corner f l;
      edges = at_face (λ f. map squared_way (sides_of (ring f))) (λ f. replicate 4 (pos 1)) every_side f l;
      turns = at_face (λ f. turns_of (sides_of (ring f))) (λ f. replicate 4 (outward (f / 2) (f % 2))) every_turn f l;
    }
