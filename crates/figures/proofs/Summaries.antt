-- The figures of document 02 (vi), of the definitions: blocks looked at, opened, and crossed cubes.
use mathlib.Core.Path.{◌≡◌, refl}
use mathlib.Core.List.{List, [], ◌∷◌, map}
use Prim.Native.Nat.{ℕ, ◌+◌, ◌*◌, ◌%◌}
use lib.Dec.{leb}
use lib.ListN.{replicate, set}
use Rattle.laws.specs.Range.{one_if, sum_to, count_to, some_to, join_to}
use Rattle.laws.specs.Least.{gathered}
use Rattle.laws.specs.Values.{list_to}
use Rattle.grid.specs.Limits.{halvings}
use Rattle.grid.specs.Grid.{Size, site, is_above_grey}
use Rattle.grid.specs.Mesh.{corner_site}
use Rattle.grid.specs.Work.{size}
use Rattle.summary.specs.Blocks.{in_grid, cube_number, block_number, block_least, block_greatest, summary_of, summary_length, level_start}
use Rattle.summary.specs.Steps.{finds, step_at, looked, opened}
use Rattle.summary.specs.Crossed.{is_crossed, crossed_cubes}
use Rattle.summary.proofs.Quick.{quick_number, looked_quick, opened_quick}

-- one sample of 100, the others 0
abbrev one_above : ℕ → ℕ → List ℕ
one_above many at = set (replicate many 0) at 100

-- a grid and a grey value: blocks looked at, opened, crossed cubes
abbrev Steps : Size → List ℕ → ℕ → ℕ → ℕ → ℕ → Type 0
Steps n samples grey blocks halved crossed =
    (looked (step_at (summary_of n samples) grey) halvings 0 0 0 ≡ blocks) × (opened (step_at (summary_of n samples) grey) halvings 0 0 0 ≡ halved)
    × (crossed_cubes n (is_above_grey grey samples) ≡ crossed)

first_above : Steps (size 2 2 2) (one_above 8 0) 50 49 6 1
unfolding looked opened finds quick_number cube_number in_grid corner_site site gathered sum_to some_to count_to is_crossed crossed_cubes is_above_grey
first_above = (looked_quick (size 2 2 2) (one_above 8 0) 50, opened_quick (size 2 2 2) (one_above 8 0) 50, refl)

grey_0 : Steps (size 2 2 2) (one_above 8 0) 0 1 0 0
unfolding looked opened finds quick_number cube_number in_grid corner_site site gathered sum_to some_to count_to is_crossed crossed_cubes is_above_grey
grey_0 = (looked_quick (size 2 2 2) (one_above 8 0) 0, opened_quick (size 2 2 2) (one_above 8 0) 0, refl)

grey_65535 : Steps (size 2 2 2) (one_above 8 0) 65535 1 0 0
unfolding looked opened finds quick_number cube_number in_grid corner_site site gathered sum_to some_to count_to is_crossed crossed_cubes is_above_grey
grey_65535 = (looked_quick (size 2 2 2) (one_above 8 0) 65535, opened_quick (size 2 2 2) (one_above 8 0) 65535, refl)

centre : Steps (size 3 3 3) (one_above 27 13) 50 49 6 8
unfolding looked opened finds quick_number cube_number in_grid corner_site site gathered sum_to some_to count_to is_crossed crossed_cubes is_above_grey
centre = (looked_quick (size 3 3 3) (one_above 27 13) 50, opened_quick (size 3 3 3) (one_above 27 13) 50, refl)

last_of_3 : Steps (size 3 2 2) (one_above 12 2) 50 49 6 1
unfolding looked opened finds quick_number cube_number in_grid corner_site site gathered sum_to some_to count_to is_crossed crossed_cubes is_above_grey
last_of_3 = (looked_quick (size 3 2 2) (one_above 12 2) 50, opened_quick (size 3 2 2) (one_above 12 2) 50, refl)

abbrev sevens : List ℕ
sevens = list_to 60 (λ s. 7 * s % 11)

mixed : Steps (size 5 4 3) sevens 5 73 9 24
unfolding looked opened finds quick_number cube_number in_grid corner_site site gathered sum_to some_to count_to is_crossed crossed_cubes is_above_grey list_to join_to
mixed = (looked_quick (size 5 4 3) sevens 5, opened_quick (size 5 4 3) sevens 5, refl)

abbrev checkerboard : List ℕ
checkerboard = join_to 4 (λ z. join_to 4 (λ y. list_to 4 (λ x. 100 * ((x + y + z) % 2))))

board : Steps (size 4 4 4) checkerboard 50 105 13 27
unfolding looked opened finds quick_number cube_number in_grid corner_site site gathered sum_to some_to count_to is_crossed crossed_cubes is_above_grey list_to join_to
board = (looked_quick (size 4 4 4) checkerboard 50, opened_quick (size 4 4 4) checkerboard 50, refl)

last_of_64 : Steps (size 64 2 2) (one_above 256 63) 50 49 6 1
unfolding looked opened finds quick_number cube_number in_grid corner_site site gathered sum_to some_to count_to is_crossed crossed_cubes is_above_grey
last_of_64 = (looked_quick (size 64 2 2) (one_above 256 63) 50, opened_quick (size 64 2 2) (one_above 256 63) 50, refl)

abbrev corner : List ℕ
corner = join_to 9 (λ z. join_to 9 (λ y. list_to 9 (λ x. 100 * one_if (leb 12 (x + y + z)))))

slope : Steps (size 9 9 9) corner 50 361 45 142
unfolding looked opened finds quick_number cube_number in_grid corner_site site gathered sum_to some_to count_to is_crossed crossed_cubes is_above_grey list_to join_to
slope = (looked_quick (size 9 9 9) corner 50, opened_quick (size 9 9 9) corner 50, refl)

-- single cubes of the grid of sevens, the last of which is not in it
single_cubes : map (λ x. block_least (size 5 4 3) sevens 0 x 0 0 ∷ block_greatest (size 5 4 3) sevens 0 x 0 0 ∷ []) (0 ∷ 1 ∷ 2 ∷ 3 ∷ 4 ∷ [])
    ≡ (0 ∷ 10 ∷ []) ∷ (0 ∷ 9 ∷ []) ∷ (0 ∷ 10 ∷ []) ∷ (1 ∷ 10 ∷ []) ∷ (65535 ∷ 0 ∷ []) ∷ []
unfolding block_number cube_number in_grid corner_site site gathered list_to join_to
single_cubes = refl

-- where the levels begin, and the length of the whole
starts : map level_start (0 ∷ 1 ∷ 2 ∷ 3 ∷ 4 ∷ 5 ∷ 6 ∷ []) ≡ 0 ∷ 2 ∷ 18 ∷ 146 ∷ 1170 ∷ 9362 ∷ 74898 ∷ []
unfolding level_start
starts = refl

whole_length : summary_length ≡ 599186
unfolding summary_length level_start
whole_length = refl
