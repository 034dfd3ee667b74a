-- Lists element by element: what holds of each, and what each becomes.
use mathlib.Core.Path.{◌≡◌, refl, ap₂}
use mathlib.Core.List.{List, [], ◌∷◌, ◌++◌, map, flat_map}
use Prim.Native.Nat.{ℕ, zero, suc, ◌<◌}
use native.Mathlib.Omega.{arith}
use lib.ListN.{length, get_or}
use Rattle.laws.specs.Sum.{All}
use Rattle.laws.proofs.Sums.{all_append}

pub all_get : {A : Type 0} (P : A → Type 0) (xs : List A) (i : ℕ) (d : A) → All P xs → i < length xs → P (get_or xs i d)
all_get P [] i d a l = absurd (omega arith)
all_get P (x ∷ xs) zero d a l = a.0
all_get P (x ∷ xs) (suc i) d a l = all_get P xs i d a.1 (omega arith)

-- and of all, where it holds at each place
pub all_of_places : {A : Type 0} (P : A → Type 0) (d : A) (xs : List A) → ((i : ℕ) → i < length xs → P (get_or xs i d)) → All P xs
all_of_places P d [] h = tt
all_of_places P d (x ∷ xs) h = (h 0 (omega arith), all_of_places P d xs (λ i l. h (suc i) (omega arith)))

pub all_flat : {A B : Type 0} (P : B → Type 0) (g : A → List B) (xs : List A) → All (λ x. All P (g x)) xs → All P (flat_map g xs)
unfolding flat_map
all_flat P g [] a = tt
all_flat P g (x ∷ xs) a = all_append P (g x) (flat_map g xs) a.0 (all_flat P g xs a.1)

pub map_at : {A B : Type 0} (f : A → B) (xs : List A) (i : ℕ) (d : A) (e : B) → i < length xs → get_or (map f xs) i e ≡ f (get_or xs i d)
map_at f [] i d e l = absurd (omega arith)
map_at f (x ∷ xs) zero d e l = refl
map_at f (x ∷ xs) (suc i) d e l = map_at f xs i d e (omega arith)

pub map_cong : {A B : Type 0} (P : A → Type 0) (f g : A → B) → ((a : A) → P a → f a ≡ g a) → (xs : List A) → All P xs → map f xs ≡ map g xs
map_cong P f g h [] a = refl
map_cong P f g h (x ∷ xs) a = ap₂ ◌∷◌ (h x a.0) (map_cong P f g h xs a.1)

-- of a list that was mapped, and with another function in place of one that gives the same
pub flat_map_lem : {A B C : Type 0} (g : B → List C) (f : A → B) (h : A → List C) → ((a : A) → g (f a) ≡ h a) → (xs : List A)
    → flat_map g (map f xs) ≡ flat_map h xs
unfolding flat_map
flat_map_lem g f h same [] = refl
flat_map_lem g f h same (x ∷ xs) = rw (same x, flat_map_lem g f h same xs)

-- with another function in place of one that gives the same for each element
pub flat_cong : {A B : Type 0} (P : A → Type 0) (f g : A → List B) → ((a : A) → P a → f a ≡ g a) → (xs : List A) → All P xs → flat_map f xs ≡ flat_map g xs
unfolding flat_map
flat_cong P f g h [] a = refl
flat_cong P f g h (x ∷ xs) a = ap₂ ◌++◌ (h x a.0) (flat_cong P f g h xs a.1)
