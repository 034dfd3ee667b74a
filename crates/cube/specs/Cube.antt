-- The numbers of a cube's corners, edges and cases (document 01, "One cube", first paragraph). docs/CUBE.md has the drawing.
use Rattle.std.specs.Prelude.{List, [], ◌∷◌, Bool, cond, ℕ, zero, suc, ◌+◌, ◌*◌, ◌-◌, ◌/◌, ◌%◌, ◌^◌, min, max, eqb}
use Rattle.std.specs.Bool.{xor}
use Rattle.laws.specs.Bits.{bits, bit}

-- corner c = x + 2y + 4z with x, y, z in 0..1
abbrev pub corner_x : ℕ → ℕ
corner_x c = c % 2

abbrev pub corner_y : ℕ → ℕ
corner_y c = c / 2 % 2

abbrev pub corner_z : ℕ → ℕ
corner_z c = c / 4 % 2

-- the case number has bit c set when corner c is above
unfoldable pub case_of : (ℕ → Bool) → ℕ
case_of above = bits (above 0 ∷ above 1 ∷ above 2 ∷ above 3 ∷ above 4 ∷ above 5 ∷ above 6 ∷ above 7 ∷ [])

unfoldable pub is_above : ℕ → ℕ → Bool
is_above k c = bit k c

-- eight corners make so many cases, and a cube has twelve edges
abbrev pub cases : ℕ
cases = 2 ^ 8

abbrev pub cube_edge_count : ℕ
cube_edge_count = 12

-- the edge that leaves corner c along x, along y, along z
abbrev pub edge_along_x : ℕ → ℕ
edge_along_x c = corner_y c + 2 * corner_z c

abbrev pub edge_along_y : ℕ → ℕ
edge_along_y c = 4 + corner_x c + 2 * corner_z c

abbrev pub edge_along_z : ℕ → ℕ
edge_along_z c = 8 + corner_x c + 2 * corner_y c

-- the edge between two neighbouring corners leaves the lower of them: the other is 1 further along x, 2 along y, 4 along z
abbrev pub edge_between : ℕ → ℕ → ℕ
edge_between i j =
    let c = min i j in
    let d = max i j - c in
    cond (eqb d 1) (edge_along_x c) (cond (eqb d 2) (edge_along_y c) (edge_along_z c))

abbrev pub cube_edges : List ℕ
cube_edges = 0 ∷ 1 ∷ 2 ∷ 3 ∷ 4 ∷ 5 ∷ 6 ∷ 7 ∷ 8 ∷ 9 ∷ 10 ∷ 11 ∷ []

-- the axis that an edge runs along (0 is x, 1 is y, 2 is z)
abbrev pub axis_of : ℕ → ℕ
axis_of e = e / 4

-- the lower corner of an edge, by its axis and its two coordinates across, p the first and q the second
abbrev pub corner_across : ℕ → ℕ → ℕ → ℕ
corner_across zero p q = 2 * p + 4 * q
corner_across (suc zero) p q = p + 4 * q
corner_across (suc (suc axis)) p q = p + 2 * q

abbrev pub low_corner : ℕ → ℕ
low_corner e = corner_across (axis_of e) (e % 2) (e / 2 % 2)

abbrev pub high_corner : ℕ → ℕ
high_corner e = low_corner e + 2 ^ axis_of e

-- an edge is crossed when its two corners differ
unfoldable pub crossed : ℕ → ℕ → Bool
crossed k e = xor (is_above k (low_corner e)) (is_above k (high_corner e))
