-- What a mesh that passed, rooms that fit and a weight within its bound give to the rounds.
use mathlib.Core.Path.{◌≡◌, refl, ap, sym, ◌∙◌}
use mathlib.Core.List.{List}
use Prim.Native.Nat.{ℕ, ◌+◌, ◌*◌, ◌<◌, ◌≤◌}
use native.Mathlib.Numerals.{add-one}
use native.Mathlib.Omega.{arith}
use lib.ListN.{length}
use lib.Seq.{take_all}
use Rattle.laws.specs.Part.{part_of}
use Rattle.laws.specs.Mesh.{Triangle}
use Rattle.mesh.specs.Mesh.{triangle_count, triangles_of}
use Rattle.mesh.proofs.Passed.{Passed}
use Rattle.grid.specs.Limits.{most_weight}
use Rattle.neighbours.specs.Lists.{Listed, ListsFit}
use Rattle.rounds.specs.Round.{round, rounds}
use Rattle.rounds.specs.Steps.{SmallPlaces, SameTo, Held, held_round}
use Rattle.rounds.proofs.Within.{rounds_small, length_rounds}
use Rattle.smooth.proofs.Linked.{lists_held, round_held, listed_kept}

rounds_next : (ts : List Triangle) (marks : List ℕ) (w k : ℕ) (points : List ℕ) → rounds ts marks w (k + 1) points ≡ round ts marks w (rounds ts marks w k points)
unfolding rounds
rounds_next ts marks w k points = rw add-one

module _ (points triangles marks : List ℕ) (ok : Passed points triangles marks) where
  abbrev v : ℕ
  v = length marks

  abbrev at : ℕ
  at = 2 * length triangles

  abbrev second : ℕ
  second = at + 2 * v + 1

  pub lists_ready : (size : ℕ) → size ≡ 6 * triangle_count triangles + 5 * v + 1 → ListsFit triangles v at size
  lists_ready size is =
      record {
        threes = ok.whole;
        named = ok.named;
        entered = refl;
        room = omega (arith, ok.whole);
        points = ok.few;
        triangles = ok.triangles_few;
      }

  -- no round: the points copied
  pub copied_all : (w : ℕ) (smoothed : List ℕ) → length smoothed ≡ 3 * v → part_of 0 (length smoothed) points ≡ rounds (triangles_of triangles) marks w 0 points
  unfolding rounds
  copied_all w smoothed long = take_all (length smoothed) points (omega (arith, ok.threes))

  -- a round more
  module _ (w k : ℕ) (lw : w ≤ most_weight) (smoothed work : List ℕ) (is : smoothed ≡ rounds (triangles_of triangles) marks w k points)
      (long : length work ≡ 6 * triangle_count triangles + 5 * v + 1) (listed : Listed triangles v at work) where
    lists : ListsFit triangles v at (length work)
    lists = lists_ready (length work) long

    pub round_ready : (w ≤ most_weight) × (Held at work v × ((length smoothed ≡ 3 * v) × (SmallPlaces smoothed × ((at + v < second) × (second + 3 * v ≤ length work)))))
    round_ready = (
      lw,
      (
        lists_held triangles v at (length work) lists work listed,
        (
          rw is (length_rounds (triangles_of triangles) marks w lw k points ok.threes),
          (rw is (rounds_small (triangles_of triangles) marks w lw k points ok.small), (omega arith, omega (arith, ok.whole))),
        ),
      ),
    )

    pub round_more : (new : List ℕ) → new ≡ held_round at work marks w smoothed → new ≡ rounds (triangles_of triangles) marks w (k + 1) points
    round_more new made =
        made
        ∙ round_held triangles v at (length work) lists work listed marks refl w smoothed
        ∙ ap (round (triangles_of triangles) marks w) is
        ∙ sym (rounds_next (triangles_of triangles) marks w k points)

    pub lists_stay : (after : List ℕ) → SameTo second work after → Listed triangles v at after
    lists_stay after same = listed_kept triangles v at (length work) lists work listed after second (omega arith) same
