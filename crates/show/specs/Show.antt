-- One point shown as a part of either list, the raw or the smoothed, as the caller says.
use Rattle.std.specs.Prelude.{List, [], Bool, cond, not, ◌&&◌, ℕ, ◌*◌, ◌/◌, ◌%◌, eqb, leb, length, take, drop}

-- 6 unless both lists have one length, a multiple of three; 14 unless the point is below V, its third; else 0
unfoldable pub show_number : ℕ → ℕ → ℕ → ℕ
show_number raw smoothed point =
    cond (not (eqb raw smoothed && eqb (raw % 3) 0)) 6 (cond (leb (raw / 3) point) 14 0)

-- the point's three coordinates out of the list that the caller named; other numbers if refused
unfoldable pub shown_else : List ℕ → List ℕ → Bool → ℕ → List ℕ → List ℕ
shown_else raw smoothed second point others =
    cond (eqb (show_number (length raw) (length smoothed) point) 0) (take 3 (drop (3 * point) (cond second smoothed raw))) others

-- the part that is shown: an empty one if refused
abbrev pub shown : List ℕ → List ℕ → Bool → ℕ → List ℕ
shown raw smoothed second point = shown_else raw smoothed second point []
