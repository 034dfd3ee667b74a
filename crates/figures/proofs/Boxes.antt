-- Boxes of document 02 (i), computed: of a shell whose lowest point is in no corner of its box, and of a point in no triangle.
use mathlib.Core.Path.{◌≡◌, refl}
use mathlib.Core.List.{[], ◌∷◌}
use Prim.Native.Nat.{ℕ}
use lib.IntN.{pos}
use Rattle.laws.specs.Range.{join_to, keep_to}
use Rattle.laws.specs.Least.{gathered}
use Rattle.laws.specs.Signed.{sum_of_ℤ}
use Rattle.records.specs.declared.Shell.{Shell}
use Rattle.records.specs.Record.{any_of, diagonals, determinant, sixfold, points_under, names_under, triangles_under, record_from, record_of}

-- a triangle of the points 0, 1 and 2, the last of them marked, and point 3 by itself
abbrev records_are_lem : ℕ → Shell
records_are_lem n =
    record_of (5 ∷ 5 ∷ 5 ∷ 1 ∷ 9 ∷ 3 ∷ 9 ∷ 1 ∷ 8 ∷ 20 ∷ 0 ∷ 16128 ∷ []) (0 ∷ 1 ∷ 2 ∷ []) (0 ∷ 0 ∷ 1 ∷ 0 ∷ []) (0 ∷ 0 ∷ 0 ∷ 1 ∷ []) n

lowest_inside : records_are_lem 0
    ≡ record {
      low = 0;
      points = 3;
      triangles = 1;
      touches = 1;
      volume = pos 40;
      least_x = 1;
      greatest_x = 9;
      least_y = 1;
      greatest_y = 9;
      least_z = 3;
      greatest_z = 8;
    }
unfolding record_from gathered points_under triangles_under names_under keep_to join_to any_of sum_of_ℤ sixfold determinant diagonals
lowest_inside = refl

lone_point : records_are_lem 1
    ≡ record {
      low = 3;
      points = 1;
      triangles = 0;
      touches = 0;
      volume = pos 0;
      least_x = 20;
      greatest_x = 20;
      least_y = 0;
      greatest_y = 0;
      least_z = 16128;
      greatest_z = 16128;
    }
unfolding record_from gathered points_under triangles_under names_under keep_to join_to any_of sum_of_ℤ sixfold determinant diagonals
lone_point = refl
