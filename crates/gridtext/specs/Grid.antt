-- The text of a small grid, read (document 01, "The program for small grids").
use Rattle.std.specs.Prelude.{List, [], ◌∷◌, Bool, cond, not, ◌&&◌, ℕ, ◌+◌, ◌*◌, eqb, leb, ltb, length, get_or}
use Rattle.laws.specs.Room.{laid}
use Rattle.grid.specs.Sides.{sides_fit}
use Rattle.grid.specs.Limits.{number_digits, most_rounds, most_weight, most_small, most_number}
use Rattle.reading.specs.Reading.{Got, bad, got, after, read_row, GotRows, malformed, rows, read_rows}
use Rattle.lines.specs.Line.{tab}
use Rattle.gridtext.specs.declared.Head.{Head}

-- line 1: `G`, then nx, ny, nz, grey value, rounds, weight
abbrev pub letter_g : ℕ
letter_g = 71

unfoldable pub head_of : List ℕ → Head
head_of ns =
    record { nx = get_or ns 0 0; ny = get_or ns 1 0; nz = get_or ns 2 0; grey = get_or ns 3 0; rounds = get_or ns 4 0; weight = get_or ns 5 0 }

unfoldable pub read_head : List ℕ → Got Head
read_head [] = bad
read_head (b ∷ []) = bad
read_head (b ∷ c ∷ bs) =
    cond (eqb b letter_g && eqb c tab) (after (λ ns rest. got (head_of ns) rest) (read_row most_number 6 bs)) bad

-- the checks of line 1's numbers, in order: the first number that refuses, or 0
abbrev pub samples_of : Head → ℕ
samples_of h = h.nx * (h.ny * h.nz)

unfoldable pub smoothing_fits : Head → Bool
smoothing_fits h = leb h.rounds most_rounds && leb h.weight most_weight

unfoldable pub head_number : Head → ℕ
head_number h =
    cond (not (sides_fit h.nx h.ny h.nz)) 1
    (cond (not (leb (samples_of h) most_small)) 13 (cond (not (smoothing_fits h)) 10 0))

-- an answer in numbers: 0 and line 1's numbers if granted, else the refusal's number and line, and zeros
pub record Parsed : Type 0 where
  pub number : ℕ
  pub line : ℕ
  pub nx : ℕ
  pub ny : ℕ
  pub nz : ℕ
  pub grey : ℕ
  pub rounds : ℕ
  pub weight : ℕ

-- what a call leaves behind: the answer, and the room that was lent for the samples
pub record Outcome : Type 0 where
  pub answer : Parsed
  pub samples : List ℕ

-- a refusal gives the number and the line, and leaves the room
abbrev pub refused_answer : ℕ → ℕ → Parsed
refused_answer number line = record { number = number; line = line; nx = 0; ny = 0; nz = 0; grey = 0; rounds = 0; weight = 0 }

unfoldable pub refused : ℕ → ℕ → List ℕ → Outcome
refused number line room = record { answer = refused_answer number line; samples = room }

-- a grid gives line 1's numbers, and its samples fill the room from the front
abbrev pub grant : Head → Parsed
grant h =
    record { number = 0; line = 0; nx = h.nx; ny = h.ny; nz = h.nz; grey = h.grey; rounds = h.rounds; weight = h.weight }

unfoldable pub granted : Head → List ℕ → List ℕ → Outcome
granted h ns room = record { answer = grant h; samples = laid ns room }

-- rows: ny·nz lines of nx samples from line 2 to the end
unfoldable pub with_rows : Head → List ℕ → GotRows → Outcome
with_rows h room (malformed line) = refused 12 line room
with_rows h room (rows ns) = granted h ns room

-- after line 1: its numbers, the room's length, and the rows
unfoldable pub with_head : List ℕ → Got Head → Outcome
with_head room bad = refused 12 1 room
with_head room (got h rest) =
    cond (not (eqb (head_number h) 0)) (refused (head_number h) 0 room)
    (cond (ltb (length room) (samples_of h)) (refused 3 0 room)
    (with_rows h room (read_rows most_number h.nx (h.ny * h.nz) 2 rest)))

unfoldable pub read_grid : List ℕ → List ℕ → Outcome
read_grid input room = with_head room (read_head input)

-- a number that is read and the byte that ends it; line 1 is `G`, a tab and six of them
abbrev pub longest_sample : ℕ
longest_sample = number_digits + 1

abbrev pub longest_head : ℕ
longest_head = 2 + longest_sample * 6

-- no more of a text is looked at: one byte more shows that bytes follow
abbrev pub most_read : ℕ
most_read = longest_head + longest_sample * most_small + 1
