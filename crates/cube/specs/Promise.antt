-- What each public call promises of its answer. A case number is a byte, so nothing is refused.
use Rattle.std.specs.Prelude.{◌≡◌, List, ℕ, get_or}
use Rattle.cube.specs.Answer.{count, answer, row, table, count_table}

-- `count` answers how many triangles the case has
abbrev pub Counted : ℕ → ℕ → Type 0
Counted case r = r ≡ count case

-- `triangles` answers the case's five triangles
abbrev pub Answered : ℕ → List (List ℕ) → Type 0
Answered case r = r ≡ answer case

-- one edge number is read out of the case's fifteen, 0 beyond
abbrev pub EdgeRead : ℕ → ℕ → ℕ → Type 0
EdgeRead case place r = r ≡ get_or (row case) place 0

-- `rows` and `counts` hand out the tables
abbrev pub Rows : List ℕ → Type 0
Rows r = r ≡ table

abbrev pub Counts : List ℕ → Type 0
Counts r = r ≡ count_table
