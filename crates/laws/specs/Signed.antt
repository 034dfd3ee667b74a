-- Signed whole numbers.
use Rattle.std.specs.Prelude.{List, [], ◌∷◌, Bool, true, false, ℤ, pos, negsuc, ◌+ℤ◌}

unfoldable pub negative : ℤ → Bool
negative (pos n) = false
negative (negsuc n) = true

-- what the elements are worth together
unfoldable pub sum_of_ℤ : {A : Type 0} → (A → ℤ) → List A → ℤ
sum_of_ℤ v [] = pos 0
sum_of_ℤ v (x ∷ xs) = v x +ℤ sum_of_ℤ v xs
