-- A test over a whole range, a whole list or all rows of Booleans, closed by one computation, put to use at one entry.
use mathlib.Core.Path.{◌≡◌, refl, sym}
use mathlib.Core.Bool.{Bool, true, false, not, ◌&&◌, and-eq-true_iff, and-false, ◌||◌, xor, true≢false, false≢true}
use mathlib.Core.Logic.{◌⊎◌, inl, inr}
use mathlib.Core.List.{List, [], ◌∷◌}
use Prim.Native.Nat.{ℕ, zero, suc, ◌+◌, ◌<◌, ◌≤◌}
use native.Mathlib.Decide.{dec_lt}
use native.Mathlib.Numerals.{add-one}
use native.Mathlib.Omega.{arith}
use lib.Dec.{eqb, leb}
use lib.ListN.{length}
use borrow.Author.Tests.{eq-eqb, ne_eqb, eqb-true, eqb-false, leb-true, leb-false}
use Rattle.laws.specs.Range.{all_to, one_if}
use Rattle.laws.specs.Sum.{all_of, All}
use Rattle.laws.specs.Bits.{all_rows}

-- both parts of a test that passed
pub both : (a b : Bool) → (a && b) ≡ true → (a ≡ true) × (b ≡ true)
both a b h = (and-eq-true_iff a b).0 h

-- at one number below n
pub all_at : (n : ℕ) (p : ℕ → Bool) → all_to n p ≡ true → (k : ℕ) → k < n → p k ≡ true
unfolding all_to
all_at zero p h k l = absurd (omega arith)
all_at (suc n) p h k l =
    let s = both (p n) (all_to n p) h in
    go (dec_lt k n) (λ l'. all_at n p s.1 k l') s.0
  where
    go : Dec (k < n) → (k < n → p k ≡ true) → p n ≡ true → p k ≡ true
    go (yes l') below top = below l'
    go (no ge) below top = let q : k ≡ n = omega arith in rw q top

-- at each element of a list, as a property that the test shows
pub all_of_lem : {A : Type 0} (p : A → Bool) (P : A → Type 0) → ((a : A) → p a ≡ true → P a) → (xs : List A) → all_of p xs ≡ true → All P xs
unfolding all_of
all_of_lem p P shows [] h = tt
all_of_lem p P shows (x ∷ xs) h =
    let s = both (p x) (all_of p xs) h in
    (shows x s.0, all_of_lem p P shows xs s.1)

-- at one row of n Booleans
pub row_at : (n : ℕ) (p : List Bool → Bool) → all_rows n p ≡ true → (bs : List Bool) → length bs ≡ n → p bs ≡ true
unfolding all_rows
row_at zero p h [] l = h
row_at zero p h (b ∷ bs) l = absurd (omega arith)
row_at (suc n) p h [] l = absurd (omega arith)
row_at (suc n) p h (true ∷ bs) l =
    row_at n (λ bs. p (true ∷ bs)) (both (all_rows n (λ bs. p (true ∷ bs))) (all_rows n (λ bs. p (false ∷ bs))) h).0 bs (omega arith)
row_at (suc n) p h (false ∷ bs) l =
    row_at n (λ bs. p (false ∷ bs)) (both (all_rows n (λ bs. p (true ∷ bs))) (all_rows n (λ bs. p (false ∷ bs))) h).1 bs (omega arith)

-- two tests of equality that hold together
pub eqb_same : (a b c d : ℕ) → (a ≡ b → c ≡ d) → (c ≡ d → a ≡ b) → eqb a b ≡ eqb c d
eqb_same a b c d there back = go (eqb c d) refl
  where
    go : (t : Bool) → eqb c d ≡ t → eqb a b ≡ t
    go true e = eq-eqb a b (back (eqb-true c d e))
    go false e = ne_eqb a b (λ h. eqb-false c d e (there h))

-- a test along a range: nothing tested, one number more, one that fails, and all of them tested
pub all_none : (p : ℕ → Bool) → all_to 0 p ≡ true
unfolding all_to
all_none p = refl

pub all_more : (n : ℕ) (p : ℕ → Bool) → all_to n p ≡ true → p n ≡ true → all_to (n + 1) p ≡ true
unfolding all_to
all_more n p h t = rw (add-one n) (rw (t, h))

pub all_next : (n : ℕ) (p : ℕ → Bool) → all_to (n + 1) p ≡ (p n && all_to n p)
unfolding all_to
all_next n p = rw (add-one n)

pub all_fails : (n k : ℕ) (p : ℕ → Bool) → k < n → p k ≡ false → all_to n p ≡ false
unfolding all_to
all_fails zero k p l f = absurd (omega arith)
all_fails (suc n) k p l f = go (dec_lt k n) (λ l'. all_fails n k p l' f)
  where
    go : Dec (k < n) → (k < n → all_to n p ≡ false) → (p n && all_to n p) ≡ false
    go (yes l') below = rw (below l') (and-false (p n))
    go (no ge) below = let q : n ≡ k = omega arith in rw (q, f)

pub all_done : (n k : ℕ) (p : ℕ → Bool) → k ≡ n → all_to k p ≡ true → all_to n p ≡ true
all_done n k p q h = rw (sym q) h

-- every number of the range passes
pub all_holds : (n : ℕ) (p : ℕ → Bool) → ((k : ℕ) → k < n → p k ≡ true) → all_to n p ≡ true
unfolding all_to
all_holds zero p h = refl
all_holds (suc n) p h = rw (h n (omega arith)) (all_holds n p (λ k l. h k (omega arith)))

-- one of two tests passed
pub either : (a b : Bool) → (a || b) ≡ true → (a ≡ true) ⊎ (b ≡ true)
either true b h = inl refl
either false b h = inr h

-- what holds on either side of a test of two numbers holds of the test
pub leb_cases : (a b : ℕ) (P : Bool → Type 0) → (a ≤ b → P true) → (b < a → P false) → P (leb a b)
leb_cases a b P short long = go (leb a b) refl
  where
    go : (t : Bool) → leb a b ≡ t → P t
    go true e = short (leb-true a b e)
    go false e = long (leb-false a b e)

-- neither of two tests passed
pub neither : (a b : Bool) → (a || b) ≡ false → (a ≡ false) × (b ≡ false)
neither true b h = absurd (true≢false h)
neither false b h = (refl, h)

-- two tests that do not differ
pub alike : (a b : Bool) → xor a b ≡ false → a ≡ b
unfolding xor
alike true true h = refl
alike true false h = h
alike false true h = sym h
alike false false h = refl

-- a test does not differ from itself
pub same_ends : (b : Bool) → xor b b ≡ false
unfolding xor
same_ends true = refl
same_ends false = refl

-- a test that counts nothing fails
pub is_none : (b : Bool) → one_if b ≡ 0 → b ≡ false
is_none true h = absurd (omega arith)
is_none false h = refl

-- a test that counts something passed
pub is_one : (b : Bool) → 0 < one_if b → b ≡ true
is_one true h = refl
is_one false h = absurd (omega arith)

-- a test lets another pass: where the first passed the second does, and the first counts no more
pub let_pass : (a b : Bool) → (not a || b) ≡ true → a ≡ true → b ≡ true
let_pass true b h e = h
let_pass false b h e = absurd (false≢true e)

pub one_if_le : (a b : Bool) → (a ≡ true → b ≡ true) → one_if a ≤ one_if b
one_if_le true b h = rw (h refl) (omega arith)
one_if_le false true h = omega arith
one_if_le false false h = omega arith

-- of three tests no two of which pass together, as many pass as one of them passes
pub one_of_three : (a b c : Bool) → (a ≡ true → b ≡ true → ⊥) → (b ≡ true → c ≡ true → ⊥) → (a ≡ true → c ≡ true → ⊥)
    → one_if a + one_if b + one_if c ≡ one_if (a || (b || c))
one_of_three true true c ab bc ac = absurd (ab refl refl)
one_of_three true false true ab bc ac = absurd (ac refl refl)
one_of_three true false false ab bc ac = refl
one_of_three false true true ab bc ac = absurd (bc refl refl)
one_of_three false true false ab bc ac = refl
one_of_three false false true ab bc ac = refl
one_of_three false false false ab bc ac = refl
