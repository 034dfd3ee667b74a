-- Sums, joined lists, counts and tests over the numbers below n, taken in rising order.
use Rattle.std.specs.Prelude.{List, [], ◌∷◌, ◌++◌, Bool, true, false, cond, ◌&&◌, ◌||◌, ℕ, zero, suc, ◌+◌, ◌-◌}

abbrev pub one_if : Bool → ℕ
one_if true = 1
one_if false = 0

-- f 0 + f 1 + .. + f (n - 1)
unfoldable pub sum_to : ℕ → (ℕ → ℕ) → ℕ
sum_to zero f = 0
sum_to (suc n) f = sum_to n f + f n

-- f 0 ++ f 1 ++ .. ++ f (n - 1)
unfoldable pub join_to : {A : Type 0} → ℕ → (ℕ → List A) → List A
join_to zero f = []
join_to (suc n) f = join_to n f ++ f n

-- how many numbers below n pass the test
unfoldable pub count_to : ℕ → (ℕ → Bool) → ℕ
count_to n p = sum_to n (λ i. one_if (p i))

-- the numbers below n that pass the test
unfoldable pub keep_to : ℕ → (ℕ → Bool) → List ℕ
keep_to n p = join_to n (λ i. cond (p i) (i ∷ []) [])

-- the numbers from a on and below b that pass the test
unfoldable pub keep_from : ℕ → ℕ → (ℕ → Bool) → List ℕ
keep_from a b p = join_to (b - a) (λ i. cond (p (a + i)) ((a + i) ∷ []) [])

-- does every number below n pass the test
unfoldable pub all_to : ℕ → (ℕ → Bool) → Bool
all_to zero p = true
all_to (suc n) p = p n && all_to n p

-- does some number below n pass the test
unfoldable pub some_to : ℕ → (ℕ → Bool) → Bool
some_to zero p = false
some_to (suc n) p = p n || some_to n p

-- the lists of the cells of a box joined: x fastest, then y, then z
unfoldable pub join_box : {A : Type 0} → ℕ → ℕ → ℕ → (ℕ → ℕ → ℕ → List A) → List A
join_box nx ny nz f = join_to nz (λ z. join_to ny (λ y. join_to nx (λ x. f x y z)))
