-- A shell's record, from its points and its triangles (document 01, "Shells").
use Rattle.std.specs.Prelude.{List, [], ◌∷◌, Bool, false, ◌||◌, ℕ, ◌+◌, ◌*◌, eqb, ℤ, pos, ◌-ℤ◌, length, get_or}
use Rattle.laws.specs.Range.{keep_to, one_if}
use Rattle.laws.specs.Signed.{sum_of_ℤ}
use Rattle.laws.specs.Least.{least_of, greatest_of}
use Rattle.laws.specs.Mesh.{Triangle}
use Rattle.mesh.specs.Mesh.{triangle_count, triangle_at}
use Rattle.mesh.specs.declared.Place.{Place}
use Rattle.mesh.specs.Place.{place_of}
use Rattle.records.specs.declared.Shell.{Shell}
use Rattle.shellnumbers.specs.Numbering.{number_of}

-- does any element pass the test
unfoldable pub any_of : {A : Type 0} → (A → Bool) → List A → Bool
any_of p [] = false
any_of p (x ∷ xs) = p x || any_of p xs

-- three points as rows: the products along the three diagonals that go down to the right
unfoldable pub diagonals : Place → Place → Place → ℕ
diagonals a b c = a.x * b.y * c.z + a.y * b.z * c.x + a.z * b.x * c.y

-- those of the rows in this order count positive, those of the rows in the reverse order negative
unfoldable pub determinant : Place → Place → Place → ℤ
determinant a b c = pos (diagonals a b c) -ℤ pos (diagonals c b a)

-- the determinant of a triangle's three points as rows
unfoldable pub sixfold : List ℕ → Triangle → ℤ
sixfold points t = determinant (place_of points t.one) (place_of points t.two) (place_of points t.three)

-- the points below v that have shell number n, in rising order
unfoldable pub points_under : ℕ → List ℕ → ℕ → List ℕ
points_under v numbers n = keep_to v (λ p. eqb (number_of numbers p) n)

-- does a triangle name a point of shell n
unfoldable pub names_under : List ℕ → ℕ → Triangle → Bool
names_under numbers n t = eqb (number_of numbers t.one) n || (eqb (number_of numbers t.two) n || eqb (number_of numbers t.three) n)

-- the triangles that name its points, by their places in the list
unfoldable pub triangles_under : List ℕ → List ℕ → ℕ → List ℕ
triangles_under triangles numbers n = keep_to (triangle_count triangles) (λ k. names_under numbers n (triangle_at triangles k))

module _ (points triangles marks : List ℕ) where
  -- the record of a shell that has these points, in rising order, and these triangles; its box is from the least to the greatest coordinate of its points
  unfoldable pub record_from : List ℕ → List ℕ → Shell
  record_from ps ks =
      record {
        low = get_or ps 0 0;
        points = length ps;
        triangles = length ks;
        touches = one_if (any_of (λ p. eqb (get_or marks p 0) 1) ps);
        volume = sum_of_ℤ (λ k. sixfold points (triangle_at triangles k)) ks;
        least_x = least_of (λ p. (place_of points p).x) ps;
        greatest_x = greatest_of (λ p. (place_of points p).x) ps;
        least_y = least_of (λ p. (place_of points p).y) ps;
        greatest_y = greatest_of (λ p. (place_of points p).y) ps;
        least_z = least_of (λ p. (place_of points p).z) ps;
        greatest_z = greatest_of (λ p. (place_of points p).z) ps;
      }

  -- record n, given the shell numbers of all points
  abbrev pub record_of : List ℕ → ℕ → Shell
  record_of numbers n = record_from (points_under (length marks) numbers n) (triangles_under triangles numbers n)
