-- Sides that pass their test are within the limits, and so are the rows and samples of their grid.
use mathlib.Core.Path.{◌≡◌}
use mathlib.Core.Bool.{true, ◌&&◌}
use Prim.Native.Nat.{ℕ, ◌*◌, ◌≤◌}
use native.Mathlib.Nat.{mul-le-mul}
use lib.Dec.{leb}
use borrow.Author.Tests.{leb-true}
use Rattle.laws.proofs.Tests.{both}
use Rattle.grid.specs.Limits.{least_side, most_side, most_rows, most_samples}
use Rattle.grid.specs.Sides.{side_fits, sides_fit}
use Rattle.grid.specs.Work.{SidesFit}

side_within : (n : ℕ) → side_fits n ≡ true → (least_side ≤ n) × (n ≤ most_side)
unfolding side_fits
side_within n h = let s = both (leb least_side n) (leb n most_side) h in (leb-true least_side n s.0, leb-true n most_side s.1)

pub sides_within : (nx ny nz : ℕ) → sides_fit nx ny nz ≡ true → SidesFit nx ny nz
unfolding sides_fit
sides_within nx ny nz h =
    let s = both (side_fits nx) (side_fits ny && side_fits nz) h in
    let t = both (side_fits ny) (side_fits nz) s.1 in
    let x = side_within nx s.0 in
    let y = side_within ny t.0 in
    let z = side_within nz t.1 in
    record { least_x = x.0; most_x = x.1; least_y = y.0; most_y = y.1; least_z = z.0; most_z = z.1 }

module _ (nx ny nz : ℕ) (fit : SidesFit nx ny nz) where
  pub rows_most : ny * nz ≤ most_rows
  rows_most = mul-le-mul {n₁ = ny} {m₁ = nz} {n₂ = most_side} {m₂ = most_side} fit.most_y fit.most_z

  pub samples_most : nx * (ny * nz) ≤ most_samples
  samples_most = mul-le-mul {n₁ = nx} {m₁ = ny * nz} {n₂ = most_side} {m₂ = most_rows} fit.most_x rows_most
