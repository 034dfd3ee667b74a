-- A text in a lent room, and the line of a refusal (document 01, "The program for small grids").
use Rattle.std.specs.Prelude.{◌≡◌, List, [], ◌∷◌, ℕ, ◌≤◌, cond, ltb, length}
use Rattle.laws.specs.Room.{laid}
use Rattle.lines.specs.Line.{longest_line, lettered}

-- a refusal's line: `R`, number, line
abbrev pub letter_r : ℕ
letter_r = 82

unfoldable pub refusal_text : ℕ → ℕ → List ℕ
refusal_text number at = lettered letter_r (number ∷ at ∷ [])

-- what a call leaves behind: the number, the length of the text, and the room
pub record Outcome : Type 0 where
  pub number : ℕ
  pub length : ℕ
  pub room : List ℕ

abbrev pub outcome : ℕ → ℕ → List ℕ → Outcome
outcome number long room = record { number = number; length = long; room = room }

-- a text goes to the front of the room; 3 if the room is too short for the whole text, and the room stays
unfoldable pub written : List ℕ → List ℕ → Outcome
written text room = cond (ltb (length room) (length text)) (outcome 3 0 room) (outcome 0 (length text) (laid text room))

abbrev pub refusal_written : ℕ → ℕ → List ℕ → Outcome
refusal_written number at room = written (refusal_text number at) room

-- so many bytes hold any refusal's line
abbrev pub longest_refusal : ℕ
longest_refusal = longest_line 2

abbrev pub HoldsRefusal : ℕ → ℕ → Type 0
HoldsRefusal room number = longest_refusal ≤ room → number ≡ 3 → ⊥
