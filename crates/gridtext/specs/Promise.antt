-- What the calls promise.
use Rattle.std.specs.Prelude.{◌≡◌, List, ℕ, Result, Ok, Err}
use Rattle.laws.specs.Room.{laid}
use Rattle.grid.specs.declared.refusal.Refusal.{Refusal}
use Rattle.grid.specs.Refusal.{number_of, grid_line}
use Rattle.reading.specs.Reading.{GotRows, malformed, rows}
use Rattle.gridtext.specs.Grid.{Parsed, Outcome, refused_answer, grant, read_grid}
use Rattle.gridtext.specs.declared.Head.{Head}

-- the room for samples after the rows were read: a malformed line leaves it
unfoldable pub samples_filled : GotRows → List ℕ → List ℕ
samples_filled (malformed line) room = room
samples_filled (rows ns) room = laid ns room

-- what is answered, in numbers, and the room
abbrev pub answered : Result Head Refusal → Parsed
answered (Ok h) = grant h
answered (Err e) = refused_answer (number_of e) (grid_line e)

abbrev pub left : Result Head Refusal → List ℕ → Outcome
left r samples = record { answer = answered r; samples = samples }

-- the answer and the room are those of the definition
abbrev pub ReadsGrid : List ℕ → List ℕ → Outcome → Type 0
ReadsGrid input room outcome = outcome ≡ read_grid input room
