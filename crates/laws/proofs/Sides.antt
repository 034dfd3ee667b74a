-- What arrows and the sides of triangles weigh together: joined, turned round, renamed, rearranged. Each law holds for every weight.
use mathlib.Core.Path.{◌≡◌, refl, ap, ap₂, ◌∙◌}
use mathlib.Core.List.{List, [], ◌∷◌, ◌++◌, map, flat_map}
use mathlib.Core.Bool.{true, ◌&&◌}
use Prim.Native.Nat.{ℕ, zero, suc, ◌+◌, ◌*◌, ◌<◌, ◌≤◌}
use native.Mathlib.Omega.{arith}
use lib.Dec.{eqb}
use borrow.Author.Tests.{eqb-true, eq-eqb}
use lib.ListN.{length}
use Rattle.laws.specs.Range.{one_if, join_to}
use Rattle.laws.specs.Sum.{sum_of, All}
use Rattle.laws.specs.Order.{rearranged, single}
use Rattle.laws.specs.Mesh.{Arrow, arrow, Ends, same_arrow, flip, Triangle, rename, sides, total, times, corners_of, flat}
use Rattle.laws.proofs.Tests.{both, one_if_le}
use Rattle.laws.proofs.Ranges.{length_flat}
use Rattle.laws.proofs.Sums.{sum_append, sum_map, sum_le, all_weaken}
use Rattle.laws.proofs.Rearranged.{sum_rearranged}
use Rattle.laws.proofs.Single.{single_most}

pub sides_append : (xs ys : List Triangle) → sides (xs ++ ys) ≡ sides xs ++ sides ys
unfolding sides
sides_append [] ys = refl
sides_append (x ∷ xs) ys = rw (sides_append xs ys)

pub same_arrow_lem : (a b : Arrow) → same_arrow a b ≡ true → a ≡ b
unfolding same_arrow
same_arrow_lem a b h =
    let s = both (eqb a.from b.from) (eqb a.to b.to) h in
    ap₂ arrow (eqb-true a.from b.from s.0) (eqb-true a.to b.to s.1)

module _ (w : ℕ → ℕ → ℕ) where
  pub total_append : (xs ys : List Arrow) → total w (xs ++ ys) ≡ total w xs + total w ys
  unfolding total
  total_append xs ys = sum_append (λ a. w a.from a.to) xs ys

  pub total_flip : (xs : List Arrow) → total w (map flip xs) ≡ total (λ i j. w j i) xs
  unfolding total
  total_flip xs = sum_map (λ a. w a.from a.to) flip xs

  pub total_rearranged : (xs ys : List Arrow) → rearranged same_arrow xs ys ≡ true → total w xs ≡ total w ys
  unfolding total
  total_rearranged xs ys h = sum_rearranged same_arrow same_arrow_lem (λ a. w a.from a.to) xs ys h

  pub total_rename : (f : ℕ → ℕ) (ts : List Triangle) → total w (sides (map (rename f) ts)) ≡ total (λ i j. w (f i) (f j)) (sides ts)
  unfolding total sides sum_of
  total_rename f [] = refl
  total_rename f (t ∷ ts) = omega (arith, total_rename f ts)

  -- triangle by triangle
  pub total_sides : (ts : List Triangle) → total w (sides ts) ≡ sum_of (λ t. w t.one t.two + w t.two t.three + w t.three t.one) ts
  unfolding total sides sum_of
  total_sides [] = refl
  total_sides (t ∷ ts) = omega (arith, total_sides ts)

-- each arrow of a list is counted there
pub all_counted : (ss : List Arrow) → All (λ s. 0 < times ss s.from s.to) ss
unfolding total sum_of
all_counted [] = tt
all_counted (s ∷ ss) = (
  rw (eq-eqb s.from s.from refl, eq-eqb s.to s.to refl) (omega arith),
  all_weaken (λ r. 0 < times ss r.from r.to) _ (λ r h. omega (arith, h)) ss (all_counted ss),
)

-- where no arrow comes twice, at most one runs from a to b
pub single_times : (ss : List Arrow) → single same_arrow ss ≡ true → (a b : ℕ) → times ss a b ≤ 1
unfolding total same_arrow
single_times ss h a b = single_most same_arrow (arrow a b) alike ss h
  where
    alike : (x y : Arrow) → same_arrow x (arrow a b) ≡ true → same_arrow y (arrow a b) ≡ true → same_arrow x y ≡ true
    alike x y p q = rw (same_arrow_lem x (arrow a b) p, same_arrow_lem y (arrow a b) q) (unfold same_arrow in rw (eq-eqb a a refl, eq-eqb b b refl))

-- renamed in two ways: where an end that is a or b by the first is c or d by the second, no more arrows run from a to b by the first than from c to d by the second
pub times_le : (P : ℕ → Type 0) (f g : ℕ → ℕ) (a b c d : ℕ) → ((i : ℕ) → P i → f i ≡ a → g i ≡ c) → ((i : ℕ) → P i → f i ≡ b → g i ≡ d)
    → (ss : List Arrow) → All (Ends P) ss
    → total (λ i j. one_if (eqb (f i) a && eqb (f j) b)) ss ≤ total (λ i j. one_if (eqb (g i) c && eqb (g j) d)) ss
unfolding total
times_le P f g a b c d start end ss ends =
    sum_le (Ends P) (λ s. one_if (eqb (f s.from) a && eqb (f s.to) b)) (λ s. one_if (eqb (g s.from) c && eqb (g s.to) d)) one ss ends
  where
    one : (s : Arrow) → Ends P s → one_if (eqb (f s.from) a && eqb (f s.to) b) ≤ one_if (eqb (g s.from) c && eqb (g s.to) d)
    one s p =
        one_if_le (eqb (f s.from) a && eqb (f s.to) b) (eqb (g s.from) c && eqb (g s.to) d)
        (λ t.
        let h = both (eqb (f s.from) a) (eqb (f s.to) b) t in
        rw (
          eq-eqb (g s.from) c (start s.from p.0 (eqb-true (f s.from) a h.0)),
          eq-eqb (g s.to) d (end s.to p.1 (eqb-true (f s.to) b h.1)),
        ))

-- what holds of the sides of triangles, after their corners were renamed
pub all_renamed : (P : Arrow → Type 0) (f : ℕ → ℕ) (ts : List Triangle) → All (λ a. P (arrow (f a.from) (f a.to))) (sides ts)
    → All P (sides (map (rename f) ts))
unfolding sides
all_renamed P f [] a = tt
all_renamed P f (t ∷ ts) a = (a.0, (a.1.0, (a.1.1.0, all_renamed P f ts a.1.1.1)))

pub sides_join : (n : ℕ) (f : ℕ → List Triangle) → sides (join_to n f) ≡ join_to n (λ i. sides (f i))
unfolding join_to sides
sides_join zero f = refl
sides_join (suc n) f = sides_append (join_to n f) (f n) ∙ ap (λ xs. xs ++ sides (f n)) (sides_join n f)

-- Corners in a list of numbers.

pub length_corners : (ts : List Triangle) → length (flat ts) ≡ 3 * length ts
unfolding flat
length_corners ts = length_flat 3 corners_of (λ t. refl) ts

-- corners renamed before or after they are put in a list
pub flat_renamed : (f : ℕ → ℕ) (ts : List Triangle) → flat (map (rename f) ts) ≡ map f (flat ts)
unfolding flat flat_map
flat_renamed f [] = refl
flat_renamed f (t ∷ ts) = ap (λ xs. f t.one ∷ f t.two ∷ f t.three ∷ xs) (flat_renamed f ts)

-- each corner starts a side
pub corners_start : (P : ℕ → Type 0) (ts : List Triangle) → All (λ s. P s.from) (sides ts) → All P (flat ts)
unfolding flat flat_map sides
corners_start P [] a = tt
corners_start P (t ∷ ts) a = (a.0, (a.1.0, (a.1.1.0, corners_start P ts a.1.1.1)))
