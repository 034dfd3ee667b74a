-- How far the numbers of a record reach. A determinant of places within a limit is at most twice the limit's cube in size, so in a mesh that passed no shell's volume is beyond `most_volume`, and every other number of a record fits 32 bits.
use mathlib.Core.Path.{◌≡◌, refl}
use mathlib.Core.List.{List, [], ◌∷◌}
use mathlib.Core.Bool.{Bool, true, false, cond}
use Prim.Native.Nat.{ℕ, zero, suc, ◌+◌, ◌-◌, ◌*◌, ◌<◌, ◌≤◌, ◌^◌}
use native.Mathlib.Decide.{dec_lt}
use native.Mathlib.Nat.{mul-le-mul, mul-le-mul_left, mul-suc}
use native.Mathlib.Omega.{arith}
use lib.Dec.{eqb, ltb}
use lib.IntN.{ℤ, pos, negsuc, nat_abs, ◌-ℤ◌}
use lib.ListN.{length, get_or, get_or-eq_default}
use borrow.Author.Tests.{ltb-true}
use Rattle.laws.specs.Range.{count_to, keep_to}
use Rattle.laws.specs.Sum.{All}
use Rattle.laws.specs.Signed.{sum_of_ℤ}
use Rattle.laws.specs.Mesh.{Triangle}
use Rattle.laws.proofs.Keep.{length_keep, kept_at}
use Rattle.laws.proofs.Ranges.{count_le}
use Rattle.laws.proofs.Sizes.{size_plus}
use Rattle.laws.proofs.Tests.{one_if_le}
use Rattle.grid.specs.Limits.{most_coordinate}
use Rattle.mesh.specs.Mesh.{triangle_count, triangle_at}
use Rattle.mesh.specs.Check.{mesh_number, all_within}
use Rattle.mesh.specs.declared.Place.{Place}
use Rattle.mesh.specs.Place.{place_of, Near}
use Rattle.mesh.proofs.Places.{near_place}
use Rattle.mesh.proofs.Passed.{passed}
use Rattle.records.specs.declared.Shell.{Shell}
use Rattle.records.specs.Record.{any_of, diagonals, determinant, sixfold, points_under, triangles_under, record_from, record_of}
use Rattle.records.specs.Grown.{most_product, most_volume}
use Rattle.records.proofs.Box.{NotBeyond, box_small}

-- ---- numbers
-- of larger numbers the product is larger
larger_product : (a b c p q r : ℕ) → p < a → q < b → r < c → p * q * r < a * b * c
larger_product a b c p q r h k l = omega (arith, mul-le-mul (mul-le-mul h k) l)

-- p, q, r and p', q', r' have one product, so one of the first is no larger than its fellow: of the three, weighed, at most two bring the sums apart
two_of_three : (m s u v w p q r p' q' r' : ℕ) → u ≤ m → v ≤ m → w ≤ m → p ≤ s → q ≤ s → r ≤ s → p * q * r ≡ p' * q' * r'
    → u * p + v * q + w * r ≤ u * p' + v * q' + w * r' + 2 * (m * s)
two_of_three m s u v w p q r p' q' r' hu hv hw hp hq hr same = go (dec_lt p' p) (dec_lt q' q) (dec_lt r' r)
  where
    go : Dec (p' < p) → Dec (q' < q) → Dec (r' < r) → u * p + v * q + w * r ≤ u * p' + v * q' + w * r' + 2 * (m * s)
    go (no h) e f = omega (arith, mul-le-mul_left {m = p} {n = p'} u (omega arith), mul-le-mul hv hq, mul-le-mul hw hr)
    go (yes h) (no k) f = omega (arith, mul-le-mul hu hp, mul-le-mul_left {m = q} {n = q'} v (omega arith), mul-le-mul hw hr)
    go (yes h) (yes k) (no l) = omega (arith, mul-le-mul hu hp, mul-le-mul hv hq, mul-le-mul_left {m = r} {n = r'} w (omega arith))
    go (yes h) (yes k) (yes l) = absurd (omega (arith, larger_product p q r p' q' r' h k l))

-- neither of two numbers is more than m above the other, so their difference is at most m in size
size_within : (a b m : ℕ) → a ≤ b + m → b ≤ a + m → nat_abs (pos a -ℤ pos b) ≤ m
size_within a zero m la lb = omega arith
size_within a (suc b) m la lb = go (ltb a (suc b)) refl
  where
    go : (t : Bool) → ltb a (suc b) ≡ t → nat_abs (cond t (negsuc (suc b - suc a)) (pos (a - suc b))) ≤ m
    go true e = let h : a < suc b = ltb-true a (suc b) e in omega arith
    go false e = omega arith

-- a sum of numbers that are at most m each in size
size_sum : {A : Type 0} (m : ℕ) (v : A → ℤ) → ((x : A) → nat_abs (v x) ≤ m) → (xs : List A) → nat_abs (sum_of_ℤ v xs) ≤ m * length xs
unfolding sum_of_ℤ
size_sum m v h [] = omega arith
size_sum m v h (x ∷ xs) = omega (arith, h x, size_plus (v x) (sum_of_ℤ v xs), size_sum m v h xs, mul-suc m (length xs))

-- what stands in the list of the numbers below n that pass a test, or the 0 beyond its end, is at most n
kept_small : (n i : ℕ) (p : ℕ → Bool) → get_or (keep_to n p) i 0 ≤ n
kept_small n i p = go (dec_lt i (count_to n p))
  where
    go : Dec (i < count_to n p) → get_or (keep_to n p) i 0 ≤ n
    go (yes l) = omega (arith, (kept_at n i p l).small)
    go (no ge) = omega (arith, get_or-eq_default (keep_to n p) 0 {n = i} (omega (arith, length_keep n p)))

-- no more numbers below n than n pass a test
kept_few : (n : ℕ) (p : ℕ → Bool) → length (keep_to n p) ≤ n
kept_few n p = omega (arith, length_keep n p, count_le n p)

-- ---- determinants
-- the place whose coordinates are all m
abbrev pub farthest : ℕ → Place
farthest m = record { x = m; y = m; z = m }

module _ (m : ℕ) where
  -- along the first row: each coordinate of a stands by a difference of two products of b's and c's, and the three first products multiply to what the three second do
  diagonals_apart : (a b c : Place) → NotBeyond a (farthest m) → NotBeyond b (farthest m) → NotBeyond c (farthest m)
      → diagonals a b c ≤ diagonals c b a + 2 * (m * m * m)
  unfolding diagonals
  diagonals_apart a b c ha hb hc =
      omega (
        arith,
        two_of_three m (m * m)
            a.x a.y a.z
            (b.y * c.z) (b.z * c.x) (b.x * c.y)
            (b.z * c.y) (b.x * c.z) (b.y * c.x)
            ha.x ha.y ha.z
            (mul-le-mul hb.y hc.z) (mul-le-mul hb.z hc.x) (mul-le-mul hb.x hc.y)
            (omega arith),
      )

  -- so of the rows in this order and in the reverse order
  pub determinant_within : (a b c : Place) → NotBeyond a (farthest m) → NotBeyond b (farthest m) → NotBeyond c (farthest m)
      → nat_abs (determinant a b c) ≤ 2 * (m * m * m)
  unfolding determinant
  determinant_within a b c ha hb hc = size_within (diagonals a b c) (diagonals c b a) (2 * (m * m * m)) (diagonals_apart a b c ha hb hc) (diagonals_apart c b a hc hb ha)

-- ---- records
-- a signed word of 64 bits holds every volume up to the limit
pub volume_fits : most_volume < 2 ^ 63
volume_fits = omega arith

-- what a record counts is there, in a mesh of v points and t triangles
pub record InMesh (v t : ℕ) (s : Shell) : Type 0 where
  pub low : s.low ≤ v
  pub points : s.points ≤ v
  pub triangles : s.triangles ≤ t
  pub touches : s.touches ≤ 1

module _ (points triangles marks found : List ℕ) (n : ℕ) where
  -- no record counts or names more than the mesh has
  pub counts_small : InMesh (length marks) (triangle_count triangles) (record_of points triangles marks found n)
  unfolding record_from points_under triangles_under
  counts_small =
      record {
        low = kept_small (length marks) 0 _;
        points = kept_few (length marks) _;
        triangles = kept_few (triangle_count triangles) _;
        touches = one_if_le (any_of (λ p. eqb (get_or marks p 0) 1) (points_under (length marks) found n)) true (λ e. refl);
      }

module _ (points triangles : List ℕ) (coordinates_fit : all_within most_coordinate points ≡ true) where
  -- every point stands within the limit
  not_beyond : (p : ℕ) → NotBeyond (place_of points p) (farthest most_coordinate)
  not_beyond p =
      let near : Near (place_of points p) = near_place points coordinates_fit p in
      record { x = near.x; y = near.y; z = near.z }

  -- so the determinant of any three points
  sixfold_within : (t : Triangle) → nat_abs (sixfold points t) ≤ 2 * most_product
  unfolding sixfold
  sixfold_within t = determinant_within most_coordinate _ _ _ (not_beyond t.one) (not_beyond t.two) (not_beyond t.three)

  -- so the sum over any triangles
  pub sum_within : (ks : List ℕ) → nat_abs (sum_of_ℤ (λ k. sixfold points (triangle_at triangles k)) ks) ≤ 2 * most_product * length ks
  sum_within ks = size_sum (2 * most_product) (λ k. sixfold points (triangle_at triangles k)) (λ k. sixfold_within (triangle_at triangles k)) ks

module _ (points triangles marks : List ℕ) (passes : mesh_number points triangles marks ≡ 0) where
  module _ (found : List ℕ) (n : ℕ) where
    -- so a shell's volume: it has no more triangles than the mesh
    pub volume_within : nat_abs (record_of points triangles marks found n).volume ≤ most_volume
    unfolding record_from
    volume_within =
        omega (arith, sum_within points triangles (passed points triangles marks passes).coordinates_fit (triangles_under triangles found n), (counts_small points triangles marks found n).triangles, (passed points triangles marks passes).triangles_few)

    -- every other number of a record fits 32 bits: those that count, and those of its box
    pub record_words : let s = record_of points triangles marks found n in
        All (λ w. w < 2 ^ 32) (s.low ∷ s.points ∷ s.triangles ∷ s.touches ∷ [])
        × All (λ w. w < 2 ^ 32) (s.least_x ∷ s.greatest_x ∷ s.least_y ∷ s.greatest_y ∷ s.least_z ∷ s.greatest_z ∷ [])
    record_words =
        let mesh = passed points triangles marks passes in
        let box = box_small points triangles marks found passes n in
        omega (arith, counts_small points triangles marks found n, mesh.few, mesh.triangles_few, box.0, box.1)
