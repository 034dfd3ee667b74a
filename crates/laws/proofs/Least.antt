-- The least and the greatest of what the elements of a list are worth: what one element more makes of them, that each is what some element is worth, and that no element is worth less or more.
use mathlib.Core.Path.{◌≡◌, refl, sym, subst}
use mathlib.Core.List.{List, [], ◌∷◌, ◌++◌, foldl, foldl-append}
use mathlib.Core.Bool.{cond}
use Prim.Native.Nat.{ℕ, suc, ◌<◌, ◌≤◌, min, max}
use native.Mathlib.Decide.{dec_lt}
use native.Mathlib.Nat.{le_of_lt, min-eq_left, min-eq_right, max-eq_left, max-eq_right, min-le_left, min-le_right, le-max_left, le-max_right}
use native.Mathlib.Omega.{arith}
use lib.Dec.{eqb}
use lib.ListN.{length, get_or}
use borrow.Author.Tests.{ne_eqb}
use Rattle.laws.specs.Sum.{All}
use Rattle.laws.specs.Least.{gathered, least_of, greatest_of}
use Rattle.laws.proofs.Lists.{all_get, all_of_places}

-- one element more, at the end
pub gathered_append : {A : Type 0} (op : ℕ → ℕ → ℕ) (v : A → ℕ) (xs : List A) (x : A)
    → cond (eqb (length xs) 0) (v x) (op (gathered op v xs) (v x)) ≡ gathered op v (xs ++ (x ∷ []))
unfolding gathered
gathered_append op v [] x = refl
gathered_append op v (y ∷ xs) x =
    rw (ne_eqb (suc (length xs)) 0 (λ e. omega arith)) (sym (foldl-append (λ had z. op had (v z)) (v y) xs (x ∷ [])))

-- ---- a property of what every element is worth is one of the least and of the greatest
fold_has : {A : Type 0} (op : ℕ → ℕ → ℕ) (v : A → ℕ) (P : ℕ → Type 0) → ((a b : ℕ) → P a → P b → P (op a b)) → (m : ℕ) → P m → (xs : List A) → All (λ x. P (v x)) xs
    → P (foldl (λ had y. op had (v y)) m xs)
fold_has op v P both m h [] a = h
fold_has op v P both m h (x ∷ xs) a = fold_has op v P both (op m (v x)) (both m (v x) h a.0) xs a.1

min_has : (P : ℕ → Type 0) (a b : ℕ) → P a → P b → P (min a b)
min_has P a b ha hb = go (dec_lt a b)
  where
    go : Dec (a < b) → P (min a b)
    go (yes l) = subst P (sym (min-eq_left (le_of_lt l))) ha
    go (no ge) = subst P (sym (min-eq_right (omega arith))) hb

max_has : (P : ℕ → Type 0) (a b : ℕ) → P a → P b → P (max a b)
max_has P a b ha hb = go (dec_lt a b)
  where
    go : Dec (a < b) → P (max a b)
    go (yes l) = subst P (sym (max-eq_right (le_of_lt l))) hb
    go (no ge) = subst P (sym (max-eq_left (omega arith))) ha

-- as a bound
module _ {A : Type 0} (v : A → ℕ) (most : ℕ) (small : (x : A) → v x ≤ most) where
  all_small : (xs : List A) → All (λ x. v x ≤ most) xs
  all_small [] = tt
  all_small (x ∷ xs) = (small x, all_small xs)

  pub least_small : (xs : List A) → least_of v xs ≤ most
  unfolding gathered
  least_small [] = omega arith
  least_small (x ∷ xs) = fold_has min v (λ w. w ≤ most) (min_has (λ w. w ≤ most)) (v x) (small x) xs (all_small xs)

  pub greatest_small : (xs : List A) → greatest_of v xs ≤ most
  unfolding gathered
  greatest_small [] = omega arith
  greatest_small (x ∷ xs) = fold_has max v (λ w. w ≤ most) (max_has (λ w. w ≤ most)) (v x) (small x) xs (all_small xs)

-- the place of an element that is worth w
pub record WorthAt {A : Type 0} (v : A → ℕ) (d : A) (xs : List A) (w : ℕ) : Type 0 where
  pub place : ℕ
  pub small : place < length xs
  pub worth : v (get_or xs place d) ≡ w

module _ {A : Type 0} (v : A → ℕ) (d : A) where
  met : (op : ℕ → ℕ → ℕ) → ((P : ℕ → Type 0) (a b : ℕ) → P a → P b → P (op a b)) → (xs : List A) → 0 < length xs → WorthAt v d xs (gathered op v xs)
  unfolding gathered
  met op has [] l = absurd (omega arith)
  met op has (x ∷ xs) l =
      let Here : ℕ → Type 0 = λ w. WorthAt v d (x ∷ xs) w in
      fold_has op v Here (has Here) (v x) (record { place = 0; small = omega arith; worth = refl }) xs
      (all_of_places (λ y. Here (v y)) d xs (λ i i-small. record { place = suc i; small = omega arith; worth = refl }))

  -- some element is worth the least, and some the greatest
  pub least_met : (xs : List A) → 0 < length xs → WorthAt v d xs (least_of v xs)
  least_met xs l = met min min_has xs l

  pub greatest_met : (xs : List A) → 0 < length xs → WorthAt v d xs (greatest_of v xs)
  greatest_met xs l = met max max_has xs l

-- ---- no element is worth less than the least, or more than the greatest: once for both, by the order that they run in
module _ (op : ℕ → ℕ → ℕ) (Beyond : ℕ → ℕ → Type 0) (self : (a : ℕ) → Beyond a a) (on : (a b c : ℕ) → Beyond a b → Beyond b c → Beyond a c)
    (one : (a b : ℕ) → Beyond (op a b) a) (other : (a b : ℕ) → Beyond (op a b) b) {A : Type 0} (v : A → ℕ) where
  fold_bounds : (m : ℕ) (xs : List A) → Beyond (foldl (λ had y. op had (v y)) m xs) m × All (λ x. Beyond (foldl (λ had y. op had (v y)) m xs) (v x)) xs
  fold_bounds m [] = (self m, tt)
  fold_bounds m (x ∷ xs) =
      let r = fold_bounds (op m (v x)) xs in
      (on _ _ _ r.0 (one m (v x)), (on _ _ _ r.0 (other m (v x)), r.1))

  bounds : (xs : List A) → All (λ x. Beyond (gathered op v xs) (v x)) xs
  unfolding gathered
  bounds [] = tt
  bounds (x ∷ xs) = fold_bounds (v x) xs

module _ {A : Type 0} (v : A → ℕ) (d : A) (xs : List A) (i : ℕ) (l : i < length xs) where
  pub least_le : least_of v xs ≤ v (get_or xs i d)
  least_le =
      all_get (λ x. least_of v xs ≤ v x) xs i d
      (bounds min (λ a b. a ≤ b) (λ a. omega arith) (λ a b c h k. omega arith) min-le_left min-le_right v xs) l

  pub le_greatest : v (get_or xs i d) ≤ greatest_of v xs
  le_greatest =
      all_get (λ x. v x ≤ greatest_of v xs) xs i d
      (bounds max (λ a b. b ≤ a) (λ a. omega arith) (λ a b c h k. omega arith) le-max_left le-max_right v xs) l
