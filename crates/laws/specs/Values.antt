-- The values of a function at the numbers below n, in a list.
use Rattle.std.specs.Prelude.{List, [], ◌∷◌, ℕ}
use Rattle.laws.specs.Range.{join_to}

-- f 0, f 1, .. f (n - 1)
unfoldable pub list_to : {A : Type 0} → ℕ → (ℕ → A) → List A
list_to n f = join_to n (λ i. f i ∷ [])
