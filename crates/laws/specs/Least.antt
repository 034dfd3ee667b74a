-- The least and the greatest of what the elements of a list are worth.
use mathlib.Core.List.{List, [], ◌∷◌, foldl}
use Rattle.std.specs.Prelude.{ℕ, min, max}

-- what the elements are worth, put together two by two from the first on; 0 if there are none
unfoldable pub gathered : {A : Type 0} → (ℕ → ℕ → ℕ) → (A → ℕ) → List A → ℕ
gathered op v [] = 0
gathered op v (x ∷ xs) = foldl (λ had y. op had (v y)) (v x) xs

-- the least of what the elements are worth, 0 if there are none
abbrev pub least_of : {A : Type 0} → (A → ℕ) → List A → ℕ
least_of v xs = gathered min v xs

-- the greatest, likewise
abbrev pub greatest_of : {A : Type 0} → (A → ℕ) → List A → ℕ
greatest_of v xs = gathered max v xs
