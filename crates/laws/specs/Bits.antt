-- Numbers as rows of bits, bit 0 the lowest.
use Rattle.std.specs.Prelude.{List, [], ◌∷◌, Bool, true, false, ◌&&◌, ℕ, zero, suc, ◌+◌, ◌*◌, ◌/◌, ◌%◌, eqb}
use Rattle.laws.specs.Range.{one_if}

-- the bits of a machine word
abbrev pub word_bits : ℕ
word_bits = 64

-- the number in which bit i is set when the i-th of the list is true
unfoldable pub bits : List Bool → ℕ
bits [] = 0
bits (b ∷ bs) = one_if b + 2 * bits bs

-- is bit i of the number set
unfoldable pub bit : ℕ → ℕ → Bool
bit n zero = eqb (n % 2) 1
bit n (suc i) = bit (n / 2) i

-- does every row of n Booleans pass the test
unfoldable pub all_rows : ℕ → (List Bool → Bool) → Bool
all_rows zero p = p []
all_rows (suc n) p = all_rows n (λ bs. p (true ∷ bs)) && all_rows n (λ bs. p (false ∷ bs))

-- f x, f (x + 1), .. : n of them
unfoldable pub values_from : (ℕ → Bool) → ℕ → ℕ → List Bool
values_from f x zero = []
values_from f x (suc n) = f x ∷ values_from f (x + 1) n
