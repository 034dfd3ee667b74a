-- Sums and tests over a list, and the elements that pass a test.
use Rattle.std.specs.Prelude.{List, [], ◌∷◌, Bool, true, cond, ◌&&◌, ℕ, ◌+◌}

-- what the elements are worth together
unfoldable pub sum_of : {A : Type 0} → (A → ℕ) → List A → ℕ
sum_of v [] = 0
sum_of v (x ∷ xs) = v x + sum_of v xs

-- does every element pass the test
unfoldable pub all_of : {A : Type 0} → (A → Bool) → List A → Bool
all_of p [] = true
all_of p (x ∷ xs) = p x && all_of p xs

-- every element has the property
abbrev pub All : {A : Type 0} → (A → Type 0) → List A → Type 0
All P [] = Unit {0}
All P (x ∷ xs) = P x × All P xs

-- the elements that pass the test
unfoldable pub keep_of : {A : Type 0} → (A → Bool) → List A → List A
keep_of p [] = []
keep_of p (x ∷ xs) = let later = keep_of p xs in cond (p x) (x ∷ later) later
