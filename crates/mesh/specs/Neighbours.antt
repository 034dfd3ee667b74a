-- Neighbours (document 01, "Smoothing", first sentence).
use Rattle.std.specs.Prelude.{List, Bool, ◌||◌, ℕ}
use Rattle.laws.specs.Range.{keep_to}
use Rattle.laws.specs.Order.{is_in}
use Rattle.laws.specs.Mesh.{Triangle, arrow, sides, same_arrow}

-- do p and q share a triangle side, whichever way it runs
unfoldable pub share_side : List Triangle → ℕ → ℕ → Bool
share_side ts p q = is_in same_arrow (arrow p q) (sides ts) || is_in same_arrow (arrow q p) (sides ts)

-- the neighbours of p: the different points below v that share a triangle side with it, in rising order
unfoldable pub neighbours : ℕ → List Triangle → ℕ → List ℕ
neighbours v ts p = keep_to v (share_side ts p)
