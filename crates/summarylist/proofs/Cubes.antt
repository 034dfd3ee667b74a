-- The numbers of a row of single cubes: those in the grid from the columns of samples on their sides along x, the others from outside.
use mathlib.Core.Path.{◌≡◌, refl, ap, ap₂, sym, ◌∙◌}
use mathlib.Core.Bool.{Bool, true, false, cond}
use mathlib.Core.List.{List}
use Prim.Native.Nat.{ℕ, ◌+◌, ◌*◌, ◌-◌, ◌<◌, ◌≤◌}
use native.Mathlib.Decide.{dec_lt}
use native.Mathlib.Omega.{arith}
use lib.ListN.{get_or, replicate, get_or-replicate}
use Rattle.laws.specs.Room.{laid}
use Rattle.laws.specs.Values.{list_to}
use Rattle.laws.specs.Least.{gathered}
use Rattle.laws.proofs.Digits.{low_lt, block_end}
use Rattle.laws.proofs.Values.{laid_at, laid_past}
use Rattle.grid.specs.Limits.{most_side}
use Rattle.grid.specs.Grid.{Size, site}
use Rattle.grid.specs.Mesh.{corner_site}
use Rattle.summary.specs.Blocks.{in_grid, eight, cube_number, block_number}
use Rattle.summary.proofs.Numbers.{InGrid, in_grid_lem, is_in_grid}
use Rattle.blockrows.specs.Numbers.{four_of, cube_of}
use Rattle.summarylist.proofs.Eight.{AnyOrder, eight_there}

-- the four rows of samples around a row of cubes are among the samples
pub rows_end : (nx ny nz y z : ℕ) → y + 1 < ny → z + 1 < nz → nx * (y + ny * z) + nx * ny + nx + nx ≤ nx * (ny * nz)
rows_end nx ny nz y z ly lz = omega (arith, block_end nx (y + 1 + ny * (z + 1)) (ny * nz) (low_lt (y + 1) ny (z + 1) nz ly lz))

-- a cube that is not in the grid
pub cube_outside : (op : ℕ → ℕ → ℕ) (outside : ℕ) (n : Size) (samples : List ℕ) (x y z : ℕ) → (InGrid n x y z → ⊥) → block_number op outside n samples 0 x y z ≡ outside
unfolding block_number cube_number
cube_outside op outside n samples x y z out = go (in_grid n x y z) refl
  where
    go : (t : Bool) → in_grid n x y z ≡ t → cond t (gathered op (λ c. get_or samples (corner_site n x y z c) 0) eight) outside ≡ outside
    go false e = refl
    go true e = absurd (out (in_grid_lem n x y z e))

module _ (op : ℕ → ℕ → ℕ) (any : AnyOrder op) (outside : ℕ) (n : Size) (samples : List ℕ) where
  -- what the columns of row (y, z) are made of
  abbrev column_of : ℕ → ℕ → ℕ → ℕ
  column_of y z = four_of op samples (n.nx * (y + n.ny * z)) n.nx (n.nx * n.ny)

  -- a cube that is
  cube_inside : (x y z : ℕ) → InGrid n x y z → block_number op outside n samples 0 x y z ≡ op (column_of y z x) (column_of y z (x + 1))
  unfolding block_number cube_number corner_site site
  cube_inside x y z there =
      rw (is_in_grid n x y z there)
      (eight_there op any samples (n.nx * (y + n.ny * z)) n.nx (n.nx * n.ny) x (x + 1) (λ a b c. get_or samples (site n (x + a) (y + b) (z + c)) 0)
      (λ b c. ap (λ s. get_or samples s 0) (omega arith)) (λ b c. ap (λ s. get_or samples s 0) (omega arith)))

  -- a row of cubes, written over numbers from outside
  pub cubes_row : (had : List ℕ) {numbers columns room : List ℕ} (x y z : ℕ) → x < most_side → y + 1 < n.ny → z + 1 < n.nz → room ≡ replicate most_side outside
      → columns ≡ laid (list_to n.nx (column_of y z)) had → numbers ≡ laid (list_to (n.nx - 1) (cube_of op columns)) room
      → get_or numbers x 0 ≡ block_number op outside n samples 0 x y z
  cubes_row had {numbers} {columns} {room} x y z lx ly lz filled gathers is = ap (λ xs. get_or xs x 0) is ∙ go (dec_lt x (n.nx - 1))
    where
      go : Dec (x < n.nx - 1) → get_or (laid (list_to (n.nx - 1) (cube_of op columns)) room) x 0 ≡ block_number op outside n samples 0 x y z
      go (yes l) =
          let column : (i : ℕ) → i < n.nx → get_or columns i 0 ≡ column_of y z i = λ i li. ap (λ xs. get_or xs i 0) gathers ∙ laid_at n.nx i (column_of y z) had 0 li in
          laid_at (n.nx - 1) x (cube_of op columns) room 0 l
          ∙ ap₂ op (column x (omega arith)) (column (x + 1) (omega arith))
          ∙ sym (cube_inside x y z (record { along_x = omega arith; along_y = ly; along_z = lz }))
      go (no ge) =
          laid_past (n.nx - 1) x (cube_of op columns) room 0 (omega arith)
          ∙ ap (λ xs. get_or xs x 0) filled
          ∙ get_or-replicate most_side x outside 0 lx
          ∙ sym (cube_outside op outside n samples x y z (λ there. omega (arith, there.along_x)))
