-- `records::volume::sixfold` meets its contract: the places of three corners, and the determinant of them as rows.
use mathlib.Core.Path.{◌≡◌, ◌∙◌, subst, sym}
use mathlib.Core.List.{List}
use Prim.Native.Nat.{ℕ, ◌/◌, ◌<◌, ◌^◌}
use native.Mathlib.Omega.{arith}
use lib.IntN.{ℤ, pos, ◌-ℤ◌}
use lib.ListN.{length}
use mir.Syntax.{w64}
use mir.Val.{SFits}
use mir.Facts.{to_z-of_z}
use Rattle.laws.proofs.Differences.{difference_fits}
use Rattle.laws.specs.Mesh.{Triangle}
use Rattle.mesh.specs.Mesh.{triangle_at}
use Rattle.mesh.specs.declared.Place.{Place}
use Rattle.records.specs.Record.{diagonals, determinant, sixfold}
use Rattle.mesh.specs.Place.{place_of, Near}
use Rattle.mesh.proofs.Places.{near_place}
use Rattle.mesh.proofs.Passed.{corners}
use Rattle.records.proofs.Sizes.{diagonals_small}
use Rattle.records.proofs.volume.sixfold.Goals as goal
use Rattle.records.proofs.volume.sixfold.Goals.{After-place_of-a, After-place_of-b, After-place_of-c}

-- three places near enough
small : (r : ℕ) (a b c : Place) → Near a → Near b → Near c → r ≡ diagonals a b c → r < 2 ^ 63
small r a b c na nb nc e = omega (arith, e, diagonals_small a b c na nb nc)

fits : (r : ℤ) (m n : ℕ) → m < 2 ^ 63 → n < 2 ^ 63 → r ≡ pos m -ℤ pos n → SFits w64 r
fits r m n lm ln e = subst (SFits w64) (sym e) (difference_fits m n lm ln)

-- the places' determinant is the triangle's
told : (points : List ℕ) (r : ℤ) (m n : ℕ) (t : Triangle) (a b c : Place) → r ≡ pos m -ℤ pos n → m ≡ diagonals a b c → n ≡ diagonals c b a
    → a ≡ place_of points t.one → b ≡ place_of points t.two → c ≡ place_of points t.three → r ≡ sixfold points t
unfolding sixfold determinant
told points r m n t a b c e em en ea eb ec = e ∙ rw (em, en, ea, eb, ec)

pub place_of-a-requires : goal.place_of-a-requires
place_of-a-requires c =
    let t = corners c.args.triangles.now (length c.args.points.now / 3) c.args.k c.requires.mesh_fits.corners c.requires.k_bound in
    omega (arith, t.first)

pub place_of-b-requires : goal.place_of-b-requires
place_of-b-requires c =
    let t = corners c.args.triangles.now (length c.args.points.now / 3) c.args.k c.requires.mesh_fits.corners c.requires.k_bound in
    omega (arith, t.second)

pub place_of-c-requires : goal.place_of-c-requires
place_of-c-requires c =
    let t = corners c.args.triangles.now (length c.args.points.now / 3) c.args.k c.requires.mesh_fits.corners c.requires.k_bound in
    omega (arith, t.third)

-- each place is within the limit
first_near : (c : After-place_of-a) → Near c.place_of-a.result
first_near c = subst Near (sym c.place_of-a.ensures) (near_place c.args.points.now c.requires.mesh_fits.near _)

second_near : (c : After-place_of-b) → Near c.place_of-b.result
second_near c = subst Near (sym c.place_of-b.ensures) (near_place c.args.points.now c.requires.mesh_fits.near _)

third_near : (c : After-place_of-c) → Near c.place_of-c.result
third_near c =
    subst Near (sym c.place_of-c.ensures) (near_place c.args.points.now c.requires.mesh_fits.near _)

pub diagonals-requires : goal.diagonals-requires
diagonals-requires c = record { near = first_near (goal.at.diagonals-requires c).After-place_of-a; near_2 = second_near (goal.at.diagonals-requires c).After-place_of-b; near_3 = third_near (goal.at.diagonals-requires c).After-place_of-c }

pub diagonals-requires-2 : goal.diagonals-requires-2
diagonals-requires-2 c = record { near = third_near (goal.at.diagonals-requires-2 c).After-place_of-c; near_2 = second_near (goal.at.diagonals-requires-2 c).After-place_of-b; near_3 = first_near (goal.at.diagonals-requires-2 c).After-place_of-a }

pub excess-requires : goal.excess-requires
excess-requires c = record { a_bound = small _ c.place_of-a.result c.place_of-b.result c.place_of-c.result (first_near (goal.at.excess-requires c).After-place_of-a) (second_near (goal.at.excess-requires c).After-place_of-b) (third_near (goal.at.excess-requires c).After-place_of-c) c.diagonals.ensures; b_bound = small _ c.place_of-c.result c.place_of-b.result c.place_of-a.result (third_near (goal.at.excess-requires c).After-place_of-c) (second_near (goal.at.excess-requires c).After-place_of-b) (first_near (goal.at.excess-requires c).After-place_of-a) c.diagonals-2.ensures }

pub returns : goal.returns
returns c =
    let fine = fits c.excess.result c.diagonals.result c.diagonals-2.result
    (small _ c.place_of-a.result c.place_of-b.result c.place_of-c.result (first_near (goal.at.returns c).After-place_of-a) (second_near (goal.at.returns c).After-place_of-b) (third_near (goal.at.returns c).After-place_of-c) c.diagonals.ensures)
    (small _ c.place_of-c.result c.place_of-b.result c.place_of-a.result (third_near (goal.at.returns c).After-place_of-c) (second_near (goal.at.returns c).After-place_of-b) (first_near (goal.at.returns c).After-place_of-a) c.diagonals-2.ensures)
    c.excess.ensures in
    let e = to_z-of_z {w = w64} fine in record { value = e ∙ told c.args.points.now c.excess.result c.diagonals.result c.diagonals-2.result (triangle_at c.args.triangles.now c.args.k) c.place_of-a.result c.place_of-b.result c.place_of-c.result c.excess.ensures c.diagonals.ensures c.diagonals-2.ensures c.place_of-a.ensures c.place_of-b.ensures c.place_of-c.ensures; sfits = subst (SFits w64) (sym e) fine }
