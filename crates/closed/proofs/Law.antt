-- A box of cells, each with triangles, and faces between the cells, each with segments. Where each cell's triangles run as the segments of its faces
-- do, and the segments of an outer face have both ends on that face, the triangles of all cells together run one way as often as the other, off
-- the outer faces. Nothing here knows what a cell is: a cube, or a cube cut into tetrahedra.
use mathlib.Core.Path.{◌≡◌, refl, sym, ◌∙◌}
use mathlib.Core.List.{List, [], ◌++◌}
use mathlib.Core.Bool.{Bool, true, false, ◌&&◌}
use Prim.Native.Nat.{ℕ, ◌+◌, ◌<◌, ◌≤◌}
use native.Mathlib.Omega.{arith}
use lib.Dec.{eqb}
use Rattle.laws.specs.Range.{one_if, join_box}
use Rattle.laws.specs.Sum.{sum_of, All}
use Rattle.laws.specs.Mesh.{Arrow, Ends, Triangle, sides, total, times}
use Rattle.laws.proofs.Sums.{sum_nothing}
use Rattle.laws.proofs.Sides.{sides_append, total_append}
use Rattle.laws.proofs.Box.{measure_box, box_even}
use Rattle.laws.proofs.Single.{OneCell, box_most_one}

-- a weight of arrows there and back
abbrev turn : Bool → (ℕ → ℕ → ℕ) → ℕ → ℕ → ℕ
turn true w i j = w i j
turn false w i j = w j i

-- arrows with both ends in a place where nothing weighs
pub ends_nothing : (P : ℕ → Type 0) (w : ℕ → ℕ → ℕ) → ((i j : ℕ) → P i → P j → w i j ≡ 0) → (ss : List Arrow) → All (Ends P) ss → total w ss ≡ 0
unfolding total
ends_nothing P w none ss a = sum_nothing (Ends P) (λ s. w s.from s.to) (λ s e. none s.from s.to e.0 e.1) ss a

-- what the sides of triangles weigh adds up over the cells of a box
module _ (w : ℕ → ℕ → ℕ) where
  no_triangle : total w (sides []) ≡ 0
  unfolding total sides sum_of
  no_triangle = refl

  two_lists : (xs ys : List Triangle) → total w (sides (xs ++ ys)) ≡ total w (sides xs) + total w (sides ys)
  two_lists xs ys = rw (sides_append xs ys) (total_append w (sides xs) (sides ys))

-- Where in each cell at most one side runs from i to j, and two cells in which one does are the same cell, at most one does in all together.
pub once_law : (nx ny nz : ℕ) (made : ℕ → ℕ → ℕ → List Triangle) (i j : ℕ) → OneCell nx ny nz (λ x y z. times (sides (made x y z)) i j)
    → times (sides (join_box nx ny nz made)) i j ≤ 1
once_law nx ny nz made i j cells =
    let w : ℕ → ℕ → ℕ = λ a b. one_if (eqb a i && eqb b j) in
    omega (
      arith,
      measure_box nx ny nz (λ ts. total w (sides ts)) (no_triangle w) (two_lists w) made,
      box_most_one nx ny nz (λ x y z. times (sides (made x y z)) i j) cells,
    )

-- `made` are a cell's triangles, and `across-x`, `across-y`, `across-z` the segments of its face towards the smaller x, y, z as the cell runs them
module _ (nx ny nz : ℕ) (made : ℕ → ℕ → ℕ → List Triangle) (across-x across-y across-z : ℕ → ℕ → ℕ → List Arrow) where
  -- a cell's triangles run as the segments of its faces: those of its faces towards the smaller coordinates, and those of the next cells turned
  -- round. Said for every weight, with the two directions on opposite sides, as nothing is taken away from a whole number.
  abbrev pub CellLaw : Type 0
  CellLaw = (w : ℕ → ℕ → ℕ) (x y z : ℕ) → x < nx → y < ny → z < nz
      → total w (sides (made x y z))
      + (total (λ i j. w j i) (across-x x y z) + total w (across-x (x + 1) y z)
      + (total (λ i j. w j i) (across-y x y z) + total w (across-y x (y + 1) z))
      + (total (λ i j. w j i) (across-z x y z) + total w (across-z x y (z + 1))))
      ≡ total (λ i j. w j i) (sides (made x y z))
      + (total w (across-x x y z) + total (λ i j. w j i) (across-x (x + 1) y z)
      + (total w (across-y x y z) + total (λ i j. w j i) (across-y x (y + 1) z))
      + (total w (across-z x y z) + total (λ i j. w j i) (across-z x y (z + 1))))

  -- `On axis last e`: edge e lies on the first or the last outer face across the axis
  module _ (On : ℕ → Bool → ℕ → Type 0) where
    pub record OuterLaw : Type 0 where
      pub x_first : (y z : ℕ) → y < ny → z < nz → All (Ends (On 0 false)) (across-x 0 y z)
      pub x_last : (y z : ℕ) → y < ny → z < nz → All (Ends (On 0 true)) (across-x nx y z)
      pub y_first : (x z : ℕ) → x < nx → z < nz → All (Ends (On 1 false)) (across-y x 0 z)
      pub y_last : (x z : ℕ) → x < nx → z < nz → All (Ends (On 1 true)) (across-y x ny z)
      pub z_first : (x y : ℕ) → x < nx → y < ny → All (Ends (On 2 false)) (across-z x y 0)
      pub z_last : (x y : ℕ) → x < nx → y < ny → All (Ends (On 2 true)) (across-z x y nz)

    module _ (law : CellLaw) (outer : OuterLaw) (w : ℕ → ℕ → ℕ)
        (none : (axis : ℕ) (last : Bool) (i j : ℕ) → axis < 3 → On axis last i → On axis last j → w i j ≡ 0) where
      at_rim : (way : Bool) (axis : ℕ) (last : Bool) → axis < 3 → (ss : List Arrow) → All (Ends (On axis last)) ss → total (turn way w) ss ≡ 0
      at_rim true axis last l ss a = ends_nothing (On axis last) w (λ i j. none axis last i j l) ss a
      at_rim false axis last l ss a = ends_nothing (On axis last) (λ i j. w j i) (λ i j p q. none axis last j i l q p) ss a

      -- whatever an arrow weighs, if it weighs nothing between two edges on one outer face
      pub closed_law : total w (sides (join_box nx ny nz made)) ≡ total (λ i j. w j i) (sides (join_box nx ny nz made))
      closed_law =
          measure_box nx ny nz (λ ts. total w (sides ts)) (no_triangle w) (two_lists w) made
          ∙ box_even nx ny nz (λ way x y z. total (turn way w) (sides (made x y z))) (λ way x y z. total (turn way w) (across-x x y z))
          (λ way x y z. total (turn way w) (across-y x y z))
          (λ way x y z. total (turn way w) (across-z x y z))
          (law w)
          (record {
            x_first = λ way y z a b. at_rim way 0 false (omega arith) _ (outer.x_first y z a b);
            x_last = λ way y z a b. at_rim way 0 true (omega arith) _ (outer.x_last y z a b);
            y_first = λ way x z a b. at_rim way 1 false (omega arith) _ (outer.y_first x z a b);
            y_last = λ way x z a b. at_rim way 1 true (omega arith) _ (outer.y_last x z a b);
            z_first = λ way x y a b. at_rim way 2 false (omega arith) _ (outer.z_first x y a b);
            z_last = λ way x y a b. at_rim way 2 true (omega arith) _ (outer.z_last x y a b);
          })
          ∙ sym (measure_box nx ny nz (λ ts. total (λ i j. w j i) (sides ts)) (no_triangle (λ i j. w j i)) (two_lists (λ i j. w j i)) made)
