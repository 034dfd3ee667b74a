-- What a mesh is that no check refuses: the facts on which every call on a mesh builds.
use mathlib.Core.Path.{◌≡◌, refl}
use mathlib.Core.List.{List}
use mathlib.Core.Bool.{Bool, true, false, cond, not}
use Prim.Native.Nat.{ℕ, zero, suc, ◌+◌, ◌*◌, ◌/◌, ◌%◌, ◌<◌, ◌≤◌}
use native.Mathlib.Omega.{arith}
use lib.Dec.{eqb, leb, ltb}
use lib.ListN.{length, get_or}
use borrow.Author.Tests.{eqb-true, leb-true, ltb-true}
use Rattle.laws.specs.Mesh.{Triangle}
use Rattle.laws.proofs.Tests.{both, all_at}
use Rattle.grid.specs.Limits.{most_points, most_triangles, most_coordinate}
use Rattle.mesh.specs.Mesh.{triangle_count, triangle_at}
use Rattle.mesh.proofs.Places.{within_any}
use Rattle.mesh.specs.Check.{lengths_fit, names_three, triangles_fit, all_within, mesh_number}

-- each of the four tests passed
tests : (a b c d : Bool) → ◌≡◌ {A = ℕ} (cond (not a) 6 (cond (not b) 7 (cond (not c) 8 (cond (not d) 9 0)))) 0
    → (a ≡ true) × (b ≡ true) × (c ≡ true) × (d ≡ true)
tests true true true true h = (refl, refl, refl, refl)
tests true true true false h = absurd (omega arith)
tests true true false d h = absurd (omega arith)
tests true false c d h = absurd (omega arith)
tests false b c d h = absurd (omega arith)

-- 6: three numbers a point and three a triangle, within the limits
pub record Lengths (points triangles v : ℕ) : Type 0 where
  pub threes : points ≡ 3 * v
  pub whole : triangles ≡ 3 * (triangles / 3)
  pub few : v ≤ most_points
  pub triangles_few : triangles / 3 ≤ most_triangles

pub lengths_are : (points triangles v : ℕ) → lengths_fit points triangles v ≡ true → Lengths points triangles v
unfolding lengths_fit
lengths_are points triangles v h =
    let a = both (eqb points (3 * v)) _ h in
    let b = both (eqb (triangles % 3) 0) _ a.1 in
    let c = both (leb v most_points) (leb (triangles / 3) most_triangles) b.1 in
    record {
      threes = eqb-true points (3 * v) a.0;
      whole = omega (arith, eqb-true (triangles % 3) 0 b.0);
      few = leb-true v most_points c.0;
      triangles_few = leb-true (triangles / 3) most_triangles c.1;
    }

pub record Passed (points triangles marks : List ℕ) : Type 0 where
  pub lengths_fit_lem : lengths_fit (length points) (length triangles) (length marks) ≡ true
  pub threes : length points ≡ 3 * length marks
  pub whole : length triangles ≡ 3 * triangle_count triangles
  pub few : length marks ≤ most_points
  pub triangles_few : triangle_count triangles ≤ most_triangles
  pub corners_fit : triangles_fit triangles (length marks) ≡ true
  pub coordinates_fit : all_within most_coordinate points ≡ true
  pub marks_fit : all_within 1 marks ≡ true
  pub named : (k : ℕ) → k < length triangles → get_or triangles k 0 < length marks
  pub small : (i : ℕ) → get_or points i 0 ≤ most_coordinate

-- the corners of a triangle that names three points
pub record Corners (v : ℕ) (t : Triangle) : Type 0 where
  pub first : t.one < v
  pub second : t.two < v
  pub third : t.three < v

corners_of_lem : (v : ℕ) (t : Triangle) → names_three v t ≡ true → Corners v t
unfolding names_three
corners_of_lem v t h =
    let a = both (ltb t.one v) _ h in
    let b = both (ltb t.two v) _ a.1 in
    let c = both (ltb t.three v) _ b.1 in
    record { first = ltb-true _ _ a.0; second = ltb-true _ _ b.0; third = ltb-true _ _ c.0 }

-- every triangle names points below v
pub corners : (triangles : List ℕ) (v k : ℕ) → triangles_fit triangles v ≡ true → k < triangle_count triangles → Corners v (triangle_at triangles k)
unfolding triangles_fit
corners triangles v k h l =
    corners_of_lem v (triangle_at triangles k) (all_at (triangle_count triangles) (λ i. names_three v (triangle_at triangles i)) h k l)

pub passed : (points triangles marks : List ℕ) → mesh_number points triangles marks ≡ 0 → Passed points triangles marks
unfolding mesh_number triangles_fit all_within
passed points triangles marks h =
    let t = tests (lengths_fit (length points) (length triangles) (length marks)) (triangles_fit triangles (length marks)) (all_within most_coordinate points) (all_within 1 marks) h in
    let l = lengths_are (length points) (length triangles) (length marks) t.0 in
    record {
      lengths_fit_lem = t.0;
      threes = l.threes;
      whole = l.whole;
      few = l.few;
      triangles_few = l.triangles_few;
      corners_fit = t.1;
      coordinates_fit = t.2;
      marks_fit = t.3;
      named = λ k s. corner t.1 (k / 3) (k % 3) k (omega arith) (omega arith) (omega (arith, l.whole));
      small = λ i. within_any most_coordinate points i t.2;
    }
  where
    corner : triangles_fit triangles (length marks) ≡ true → (i j k : ℕ) → k ≡ 3 * i + j → j < 3 → i < triangle_count triangles → get_or triangles k 0 < length marks
    corner fits i j k is l m =
        rw is (go j l (corners triangles (length marks) i fits m))
      where
        go : (j : ℕ) → j < 3 → Corners (length marks) (triangle_at triangles i) → get_or triangles (3 * i + j) 0 < length marks
        go zero l c = let e : 3 * i + 0 ≡ 3 * i = omega arith in rw e c.first
        go (suc zero) l c = c.second
        go (suc (suc zero)) l c = c.third
        go (suc (suc (suc j))) l c = absurd (omega arith)

-- other points for the same triangles and marks pass if there are as many, none too far
pub passes_again : (points triangles marks new : List ℕ) → mesh_number points triangles marks ≡ 0 → length new ≡ length points
    → all_within most_coordinate new ≡ true → mesh_number new triangles marks ≡ 0
unfolding mesh_number
passes_again points triangles marks new h long small =
    let t = tests (lengths_fit (length points) (length triangles) (length marks)) (triangles_fit triangles (length marks)) (all_within most_coordinate points) (all_within 1 marks) h in
    rw (long, t.0, t.1, small, t.3)
