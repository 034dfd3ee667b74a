-- What the call promises, to a caller in the language and to one in C.
use Rattle.std.specs.Prelude.{◌≡◌, List, Bool, not, ℕ, eqb, length}
use Rattle.show.specs.Show.{show_number, shown_else, shown}

-- one point shown: the part and the number
abbrev pub Shown : List ℕ → List ℕ → Bool → ℕ → List ℕ → ℕ → Type 0
Shown raw smoothed second point part number =
    (part ≡ shown raw smoothed second point) × (number ≡ show_number (length raw) (length smoothed) point)

-- one point shown to a caller in C: the number, and what x, y and z hold after, given what they held; `second` is any number, not 0 for the smoothed list
abbrev pub Shows : List ℕ → List ℕ → ℕ → ℕ → List ℕ → ℕ → List ℕ → Type 0
Shows raw smoothed second point held number after =
    (number ≡ show_number (length raw) (length smoothed) point)
    × (after ≡ shown_else raw smoothed (not (eqb second 0)) point held)
