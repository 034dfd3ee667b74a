-- Sums and properties over a list: joined, mapped, kept, of equal worth and of less.
use mathlib.Core.Path.{◌≡◌, refl, ◌∙◌}
use mathlib.Core.List.{List, [], ◌∷◌, ◌++◌, map, flat_map, Memᴰ}
use mathlib.Core.Bool.{Bool, true, false, cond}
use Prim.Native.Nat.{ℕ, ◌+◌, ◌*◌, ◌<◌, ◌≤◌}
use native.Mathlib.Nat.{zero-mul, suc-mul}
use native.Mathlib.Decide.{dec_lt}
use native.Mathlib.Omega.{arith}
use lib.ListN.{length}
use Rattle.laws.specs.Sum.{sum_of, keep_of, All}

pub sum_append : {A : Type 0} (v : A → ℕ) (xs ys : List A) → sum_of v (xs ++ ys) ≡ sum_of v xs + sum_of v ys
unfolding sum_of
sum_append v [] ys = omega arith
sum_append v (x ∷ xs) ys = omega (arith, sum_append v xs ys)

pub sum_map : {A B : Type 0} (v : B → ℕ) (f : A → B) (xs : List A) → sum_of v (map f xs) ≡ sum_of (λ a. v (f a)) xs
unfolding sum_of
sum_map v f [] = refl
sum_map v f (x ∷ xs) = omega (arith, sum_map v f xs)

pub sum_flat : {A B : Type 0} (v : B → ℕ) (f : A → List B) (xs : List A) → sum_of v (flat_map f xs) ≡ sum_of (λ a. sum_of v (f a)) xs
unfolding sum_of flat_map
sum_flat v f [] = refl
sum_flat v f (x ∷ xs) = sum_append v (f x) (flat_map f xs) ∙ omega (arith, sum_flat v f xs)

pub all_append : {A : Type 0} (P : A → Type 0) (xs ys : List A) → All P xs → All P ys → All P (xs ++ ys)
all_append P [] ys a b = b
all_append P (x ∷ xs) ys a b = (a.0, all_append P xs ys a.1 b)

pub all_map : {A B : Type 0} (P : B → Type 0) (f : A → B) (xs : List A) → All (λ a. P (f a)) xs → All P (map f xs)
all_map P f [] a = tt
all_map P f (x ∷ xs) a = (a.0, all_map P f xs a.1)

pub all_weaken : {A : Type 0} (P Q : A → Type 0) → ((a : A) → P a → Q a) → (xs : List A) → All P xs → All Q xs
all_weaken P Q f [] a = tt
all_weaken P Q f (x ∷ xs) a = (f x a.0, all_weaken P Q f xs a.1)

pub all_both : {A : Type 0} (P Q : A → Type 0) (xs : List A) → All P xs → All Q xs → All (λ a. P a × Q a) xs
all_both P Q [] a b = tt
all_both P Q (x ∷ xs) a b = ((a.0, b.0), all_both P Q xs a.1 b.1)

pub all_any : {A : Type 0} (P : A → Type 0) → ((a : A) → P a) → (xs : List A) → All P xs
all_any P h [] = tt
all_any P h (x ∷ xs) = (h x, all_any P h xs)

-- each element's image is in the list's image
pub all_mapped : {A B : Type 0} (f : A → B) (xs : List A) → All (λ x. Memᴰ (f x) (map f xs)) xs
all_mapped f [] = tt
all_mapped f (x ∷ xs) = (
  Memᴰ.head refl,
  all_weaken (λ y. Memᴰ (f y) (map f xs)) (λ y. Memᴰ (f y) (f x ∷ map f xs)) (λ y m. Memᴰ.tail m) xs (all_mapped f xs),
)

-- a length is a sum of ones
pub sum_ones : {A : Type 0} (xs : List A) → sum_of (λ a. 1) xs ≡ length xs
unfolding sum_of
sum_ones [] = refl
sum_ones (x ∷ xs) = omega (arith, sum_ones xs)

-- a sum of numbers that are at most m each
pub sum_bounded : {A : Type 0} (m : ℕ) (g : A → ℕ) → ((x : A) → g x ≤ m) → (xs : List A) → sum_of g xs ≤ length xs * m
unfolding sum_of
sum_bounded m g h [] = omega (arith, zero-mul m)
sum_bounded m g h (x ∷ xs) = omega (arith, h x, sum_bounded m g h xs, suc-mul (length xs) m)

-- elements that are worth the same, one by one, or nothing, or no more
pub sum_alike : {A : Type 0} (P : A → Type 0) (u v : A → ℕ) → ((a : A) → P a → u a ≡ v a) → (xs : List A) → All P xs → sum_of u xs ≡ sum_of v xs
unfolding sum_of
sum_alike P u v h [] a = refl
sum_alike P u v h (x ∷ xs) a = omega (arith, h x a.0, sum_alike P u v h xs a.1)

pub sum_same : {A : Type 0} (u v : A → ℕ) → ((a : A) → u a ≡ v a) → (xs : List A) → sum_of u xs ≡ sum_of v xs
sum_same u v h xs = sum_alike (λ a. Unit {0}) u v (λ a t. h a) xs (all_any (λ a. Unit {0}) (λ a. tt) xs)

pub sum_nothing : {A : Type 0} (P : A → Type 0) (v : A → ℕ) → ((a : A) → P a → v a ≡ 0) → (xs : List A) → All P xs → sum_of v xs ≡ 0
unfolding sum_of
sum_nothing P v h [] a = refl
sum_nothing P v h (x ∷ xs) a = omega (arith, h x a.0, sum_nothing P v h xs a.1)

pub sum_le : {A : Type 0} (P : A → Type 0) (u v : A → ℕ) → ((a : A) → P a → u a ≤ v a) → (xs : List A) → All P xs → sum_of u xs ≤ sum_of v xs
unfolding sum_of
sum_le P u v h [] a = omega arith
sum_le P u v h (x ∷ xs) a = omega (arith, h x a.0, sum_le P u v h xs a.1)

-- what the elements that pass a test are worth together
pub sum_kept : {A : Type 0} (p : A → Bool) (v : A → ℕ) (xs : List A) → sum_of v (keep_of p xs) ≡ sum_of (λ a. cond (p a) (v a) 0) xs
unfolding sum_of keep_of
sum_kept p v [] = refl
sum_kept p v (x ∷ xs) = go (p x) (sum_kept p v xs)
  where
    go : (b : Bool) → sum_of v (keep_of p xs) ≡ sum_of (λ a. cond (p a) (v a) 0) xs
        → sum_of v (cond b (x ∷ keep_of p xs) (keep_of p xs)) ≡ cond b (v x) 0 + sum_of (λ a. cond (p a) (v a) 0) xs
    go true later = omega (arith, later)
    go false later = omega (arith, later)

-- where the elements are worth something together, one of them is
pub some_of : {A R : Type 0} (P : A → Type 0) (v : A → ℕ) (xs : List A) → All P xs → 0 < sum_of v xs → ((a : A) → P a → 0 < v a → R) → R
unfolding sum_of
some_of P v [] a h then = absurd (omega (arith, h))
some_of {R = R} P v (x ∷ xs) a h then = go (dec_lt 0 (v x)) (λ l. some_of P v xs a.1 l then)
  where
    go : Dec (0 < v x) → (0 < sum_of v xs → R) → R
    go (yes l) later = then x a.0 l
    go (no l) later = later (omega (arith, h))
