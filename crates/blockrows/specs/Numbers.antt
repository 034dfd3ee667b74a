-- What is worked out of four rows of numbers, place by place, before two neighbours are put together.
use Rattle.std.specs.Prelude.{ℕ, ◌+◌, ◌*◌, List, [], ◌∷◌, Bool, ◌&&◌, eqb, get_or}
use Rattle.laws.specs.Range.{all_to, join_to}

-- of the numbers at place i of four rows: the first, the one so far back along y, the one so far up along z, and the one back from that
abbrev pub four_of : (ℕ → ℕ → ℕ) → List ℕ → ℕ → ℕ → ℕ → ℕ → ℕ
four_of op list first back up i =
    op (op (get_or list (first + i) 0) (get_or list (first + back + i) 0)) (op (get_or list (first + up + i) 0) (get_or list (first + up + back + i) 0))

-- of cube i: of the columns of samples on its two sides along x
abbrev pub cube_of : (ℕ → ℕ → ℕ) → List ℕ → ℕ → ℕ
cube_of op columns i = op (get_or columns i 0) (get_or columns (i + 1) 0)

-- of block i, whose two halves along x have four numbers there, two each: of those at the same place, 0 or 1, of their two
abbrev pub halves_of : (ℕ → ℕ → ℕ) → ℕ → List ℕ → ℕ → ℕ
halves_of op place columns i = op (get_or columns (4 * i + place) 0) (get_or columns (4 * i + 2 + place) 0)

-- have the blocks of a row, two numbers each from a place of a list on, these leasts and greatests?
abbrev pub same_row : List ℕ → ℕ → ℕ → List ℕ → List ℕ → Bool
same_row list at many least greatest = all_to many (λ i. eqb (get_or list (at + 2 * i) 0) (get_or least i 0) && eqb (get_or list (at + 2 * i + 1) 0) (get_or greatest i 0))

-- a row of blocks as it stands in a list
abbrev pub row_numbers : ℕ → List ℕ → List ℕ → List ℕ
row_numbers many least greatest = join_to many (λ i. get_or least i 0 ∷ get_or greatest i 0 ∷ [])
