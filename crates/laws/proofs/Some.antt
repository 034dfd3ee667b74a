-- Tests that some number of a range passes, and that something is in a list; sums over what passes and over the places of a list.
use mathlib.Core.Path.{◌≡◌, refl, ap, ap₂, sym, ◌∙◌}
use mathlib.Core.List.{List, [], ◌∷◌, ◌++◌}
use mathlib.Core.Bool.{Bool, true, false, cond, ◌||◌, ◌&&◌, or_comm, or_assoc, or-true, and-or_distrib_right, false≢true}
use mathlib.Core.Logic.{⊎_elim}
use Prim.Native.Nat.{ℕ, zero, suc, ◌+◌, ◌<◌}
use native.Mathlib.Decide.{dec_lt}
use native.Mathlib.Omega.{arith}
use lib.ListN.{length, get_or}
use Rattle.laws.specs.Range.{sum_to, join_to, keep_to, some_to}
use Rattle.laws.specs.Sum.{sum_of}
use Rattle.laws.specs.Order.{is_in}
use Rattle.laws.proofs.Tests.{either}
use Rattle.laws.proofs.Sums.{sum_append}

-- the first number of a range by itself
some_first : (n : ℕ) (p : ℕ → Bool) → some_to (suc n) p ≡ (p 0 || some_to n (λ k. p (suc k)))
unfolding some_to
some_first zero p = refl
some_first (suc n) p =
    ap (λ b. p (suc n) || b) (some_first n p)
    ∙ sym (or_assoc (p (suc n)) (p 0) (some_to n (λ k. p (suc k))))
    ∙ ap (λ b. b || some_to n (λ k. p (suc k))) (or_comm (p (suc n)) (p 0))
    ∙ or_assoc (p 0) (p (suc n)) (some_to n (λ k. p (suc k)))

-- a number that passes
pub some_at : {P : Type 0} (n : ℕ) (p : ℕ → Bool) → some_to n p ≡ true → ((i : ℕ) → i < n → p i ≡ true → P) → P
unfolding some_to
some_at zero p h f = absurd (false≢true h)
some_at (suc n) p h f = ⊎_elim (λ e. f n (omega arith) e) (λ e. some_at n p e (λ i l. f i (omega arith))) (either (p n) (some_to n p) h)

-- two tests in one
pub some_or : (n : ℕ) (p q : ℕ → Bool) → (some_to n p || some_to n q) ≡ some_to n (λ i. p i || q i)
unfolding some_to
some_or zero p q = refl
some_or (suc n) p q = shuffle (p n) (some_to n p) (q n) (some_to n q) ∙ ap (λ b. p n || q n || b) (some_or n p q)
  where
    shuffle : (a b c d : Bool) → ((a || b) || (c || d)) ≡ ((a || c) || (b || d))
    shuffle true b c d = refl
    shuffle false true true d = refl
    shuffle false true false d = refl
    shuffle false false c d = refl

-- an element of a list by its place
pub some_in : {A : Type 0} (same : A → A → Bool) (a d : A) (xs : List A) → some_to (length xs) (λ k. same a (get_or xs k d)) ≡ is_in same a xs
unfolding some_to is_in
some_in same a d [] = refl
some_in same a d (x ∷ xs) = some_first (length xs) (λ k. same a (get_or (x ∷ xs) k d)) ∙ ap (λ b. same a x || b) (some_in same a d xs)

-- in one of two lists, or of many
pub in_append : {A : Type 0} (same : A → A → Bool) (a : A) (xs ys : List A) → is_in same a (xs ++ ys) ≡ (is_in same a xs || is_in same a ys)
unfolding is_in
in_append same a [] ys = refl
in_append same a (x ∷ xs) ys =
    ap (λ b. same a x || b) (in_append same a xs ys) ∙ sym (or_assoc (same a x) (is_in same a xs) (is_in same a ys))

pub in_join : {A : Type 0} (same : A → A → Bool) (a : A) (n : ℕ) (f : ℕ → List A) → is_in same a (join_to n f) ≡ some_to n (λ i. is_in same a (f i))
unfolding join_to some_to is_in
in_join same a zero f = refl
in_join same a (suc n) f =
    in_append same a (join_to n f) (f n)
    ∙ or_comm (is_in same a (join_to n f)) (is_in same a (f n))
    ∙ ap (λ b. is_in same a (f n) || b) (in_join same a n f)

-- what the numbers that pass are worth together
pub sum_keep : (g : ℕ → ℕ) (n : ℕ) (p : ℕ → Bool) → sum_of g (keep_to n p) ≡ sum_to n (λ q. cond (p q) (g q) 0)
unfolding keep_to join_to sum_to sum_of
sum_keep g zero p = refl
sum_keep g (suc n) p = sum_append g (keep_to n p) (cond (p n) (n ∷ []) []) ∙ ap₂ ◌+◌ (sum_keep g n p) (one (p n))
  where
    one : (b : Bool) → sum_of g (cond b (n ∷ []) []) ≡ cond b (g n) 0
    one true = omega arith
    one false = refl

-- a sum over a list by its places
pub sum_places : {A : Type 0} (f : A → ℕ) (d : A) (xs : List A) → sum_to (length xs) (λ k. f (get_or xs k d)) ≡ sum_of f xs
unfolding sum_to sum_of
sum_places f d [] = refl
sum_places f d (x ∷ xs) = sum_first (length xs) (λ k. f (get_or (x ∷ xs) k d)) ∙ ap (λ n. f x + n) (sum_places f d xs)
  where
    sum_first : (n : ℕ) (g : ℕ → ℕ) → sum_to (suc n) g ≡ g 0 + sum_to n (λ k. g (suc k))
    sum_first zero g = omega arith
    sum_first (suc n) g = omega (arith, sum_first n g)

-- one that passes, and none that does
pub some_true : (n : ℕ) (p : ℕ → Bool) (i : ℕ) → i < n → p i ≡ true → some_to n p ≡ true
unfolding some_to
some_true zero p i l h = absurd (omega arith)
some_true (suc n) p i l h = go (dec_lt i n) (λ l'. some_true n p i l' h)
  where
    go : Dec (i < n) → (i < n → some_to n p ≡ true) → (p n || some_to n p) ≡ true
    go (yes l') below = rw (below l') (or-true (p n))
    go (no ge) below = let e : n ≡ i = omega arith in rw (e, h)

pub some_false : (n : ℕ) (p : ℕ → Bool) → ((i : ℕ) → i < n → p i ≡ false) → some_to n p ≡ false
unfolding some_to
some_false zero p h = refl
some_false (suc n) p h = rw (h n (omega arith)) (some_false n p (λ i l. h i (omega arith)))

-- a test that is the same for all numbers apart
pub some_and : (n : ℕ) (p : ℕ → Bool) (t : Bool) → some_to n (λ h. p h && t) ≡ (some_to n p && t)
unfolding some_to
some_and zero p t = refl
some_and (suc n) p t = ap (λ u. p n && t || u) (some_and n p t) ∙ sym (and-or_distrib_right (p n) (some_to n p) t)
