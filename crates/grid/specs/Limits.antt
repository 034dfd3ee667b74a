-- Document 01, "Numbers and sizes": every bound of the base, with what follows from it, here and nowhere else. Samples and the grey value are numbers of 16 bits, so that the code needs no bound of theirs.
use Rattle.std.specs.Prelude.{ℕ, ◌*◌, ◌-◌, ◌/◌}

-- each side nx, ny, nz
abbrev pub least_side : ℕ
least_side = 2

abbrev pub most_side : ℕ
most_side = 64

-- the whole block of a summary (document 02, (vi)) has 2^halvings cubes a side, as many as the greatest side
abbrev pub halvings : ℕ
halvings = 6

-- the largest sample, grey value and number of a grid's text
abbrev pub most_number : ℕ
most_number = 65535

-- rows of samples along x, samples, and grid edges, three of which leave each sample
abbrev pub most_rows : ℕ
most_rows = most_side * most_side

abbrev pub most_samples : ℕ
most_samples = most_side * most_rows

abbrev pub most_edges : ℕ
most_edges = 3 * most_samples

-- points V and triangles T
abbrev pub most_points : ℕ
most_points = 250000

abbrev pub most_triangles : ℕ
most_triangles = 500000

-- a voxel has 256 units, and no coordinate is beyond the last sample of the longest side
abbrev pub unit : ℕ
unit = 256

abbrev pub most_coordinate : ℕ
most_coordinate = unit * (most_side - 1)

-- binary digits of a coordinate: 2^14 is beyond the greatest
abbrev pub coordinate_digits : ℕ
coordinate_digits = 14

-- "Areas and mean curvature": s brings N·4^s into a window, from 2^58 up to, and not reaching, 2^60, as powers of two. Every N is below its end.
abbrev pub window_to : ℕ
window_to = 60

abbrev pub window_from : ℕ
window_from = window_to - 2

-- binary digits of the root r
abbrev pub root_digits : ℕ
root_digits = window_to / 2

-- rounds k and weight w
abbrev pub most_rounds : ℕ
most_rounds = 100

abbrev pub most_weight : ℕ
most_weight = 256

-- "The program for small grids": the decimal digits of a number that is read, and of a number of 32 bits; the bytes of a number of 64 bits, twenty digits or a sign and nineteen
abbrev pub number_digits : ℕ
number_digits = 5

abbrev pub word_digits : ℕ
word_digits = 10

abbrev pub longest_number : ℕ
longest_number = 20

-- samples that the program takes
abbrev pub most_small : ℕ
most_small = 512
