-- One point of a round: it stays or moves, as its mark and its list of neighbours say.
use mathlib.Core.Path.{◌≡◌, sym}
use mathlib.Core.List.{List, [], ◌∷◌}
use mathlib.Core.Bool.{Bool, true, false, not, ◌&&◌}
use Prim.Native.Nat.{ℕ, ◌+◌, ◌*◌}
use native.Mathlib.Nat.{add-zero}
use lib.Dec.{eqb, leb}
use lib.ListN.{get_or}
use borrow.Author.Tests.{not-true, not-false}
use Rattle.rounds.specs.Round.{moved, moved_if}
use Rattle.rounds.specs.Steps.{held_sum, held_start, held_count, held_point}

module _ (at : ℕ) (work : List ℕ) (mark w : ℕ) (old : List ℕ) (p : ℕ) where
  abbrev from : ℕ
  from = held_start at work p

  abbrev d : ℕ
  d = held_count at work p

  abbrev moves : Bool
  moves = eqb mark 0 && leb 1 d

  -- the place of a point that stays
  pub stays_point : true ≡ not moves → (get_or old (3 * p) 0 ∷ get_or old (3 * p + 1) 0 ∷ get_or old (3 * p + 2) 0 ∷ []) ≡ held_point at work mark w old p
  unfolding held_point moved_if
  stays_point h = rw (not-true moves (sym h), add-zero (3 * p))

  module _ (h : false ≡ not moves) where
    -- the place of a point that moves
    pub moves_point : (x y z : ℕ)
        → x ≡ moved w d (get_or old (3 * p) 0) (held_sum old work from d 0)
        → y ≡ moved w d (get_or old (3 * p + 1) 0) (held_sum old work from d 1)
        → z ≡ moved w d (get_or old (3 * p + 2) 0) (held_sum old work from d 2)
        → (x ∷ y ∷ z ∷ []) ≡ held_point at work mark w old p
    unfolding held_point moved_if
    moves_point x y z ex ey ez = rw (not-false moves (sym h), add-zero (3 * p), ex, ey, ez)
