-- Sums, joins and counts over a range: one step more, parts and blocks of the range, and equal terms.
use mathlib.Core.Path.{◌≡◌, refl, ap, ap₂, sym, ◌∙◌}
use mathlib.Core.List.{List, [], ◌∷◌, ◌++◌, map, flat_map, append_assoc, append-nil, map-append}
use mathlib.Core.Bool.{Bool, false, cond, ◌||◌}
use Prim.Native.Nat.{ℕ, zero, suc, ◌+◌, ◌*◌, ◌-◌, ◌<◌, ◌≤◌}
use native.Mathlib.Decide.{dec_lt}
use native.Mathlib.Nat.{mul-add, mul-suc, mul-zero, add-zero, add-suc}
use native.Mathlib.Numerals.{add-one}
use native.Mathlib.Omega.{arith}
use lib.Dec.{eqb}
use borrow.Author.Tests.{eq-eqb, ne_eqb}
use lib.ListN.{length, get_or, take, length-append, get_or-append}
use lib.Seq.{take-suc, take_all, get_or-append-add}
use Rattle.laws.specs.Range.{sum_to, join_to, count_to, keep_to, some_to, one_if}
use Rattle.laws.proofs.Binary.{bit_le}

-- one step of a walk, at n + 1 as the code has it
pub sum_next : (n : ℕ) (f : ℕ → ℕ) → sum_to (n + 1) f ≡ sum_to n f + f n
unfolding sum_to
sum_next n f = rw add-one

pub join_next : {A : Type 0} (n : ℕ) (f : ℕ → List A) → join_to (n + 1) f ≡ join_to n f ++ f n
unfolding join_to
join_next n f = rw add-one

-- equal terms
pub sum_cong : (n : ℕ) (f g : ℕ → ℕ) → ((i : ℕ) → i < n → f i ≡ g i) → sum_to n f ≡ sum_to n g
unfolding sum_to
sum_cong zero f g h = refl
sum_cong (suc n) f g h = ap₂ ◌+◌ (sum_cong n f g (λ i l. h i (omega arith))) (h n (omega arith))

pub join_cong : {A : Type 0} (n : ℕ) (f g : ℕ → List A) → ((i : ℕ) → i < n → f i ≡ g i) → join_to n f ≡ join_to n g
unfolding join_to
join_cong zero f g h = refl
join_cong (suc n) f g h = ap₂ ◌++◌ (join_cong n f g (λ i l. h i (omega arith))) (h n (omega arith))

pub count_cong : (n : ℕ) (p q : ℕ → Bool) → ((i : ℕ) → i < n → p i ≡ q i) → count_to n p ≡ count_to n q
unfolding count_to
count_cong n p q h = sum_cong n (λ i. one_if (p i)) (λ i. one_if (q i)) (λ i l. ap one_if (h i l))

pub keep_cong : (n : ℕ) (p q : ℕ → Bool) → ((i : ℕ) → i < n → p i ≡ q i) → keep_to n p ≡ keep_to n q
unfolding keep_to
keep_cong n p q h =
    join_cong n (λ i. cond (p i) (i ∷ []) []) (λ i. cond (q i) (i ∷ []) []) (λ i l. ap (λ b. cond b (i ∷ []) []) (h i l))

pub some_cong : (n : ℕ) (p q : ℕ → Bool) → ((i : ℕ) → i < n → p i ≡ q i) → some_to n p ≡ some_to n q
unfolding some_to
some_cong zero p q h = refl
some_cong (suc n) p q h = ap₂ ◌||◌ (h n (omega arith)) (some_cong n p q (λ i l. h i (omega arith)))

-- a range in two parts
pub sum_split : (m n : ℕ) (f : ℕ → ℕ) → sum_to (m + n) f ≡ sum_to m f + sum_to n (λ i. f (m + i))
unfolding sum_to
sum_split m zero f = rw (add-zero m) (omega arith)
sum_split m (suc n) f = rw add-suc (omega (arith, sum_split m n f))

pub join_split : {A : Type 0} (m n : ℕ) (f : ℕ → List A) → join_to (m + n) f ≡ join_to m f ++ join_to n (λ i. f (m + i))
unfolding join_to
join_split m zero f = rw add-zero (sym (append-nil (join_to m f)))
join_split m (suc n) f = rw (add-suc, join_split m n f) (append_assoc (join_to m f) (join_to n (λ i. f (m + i))) (f (m + n)))

pub count_split : (m n : ℕ) (p : ℕ → Bool) → count_to (m + n) p ≡ count_to m p + count_to n (λ i. p (m + i))
unfolding count_to
count_split m n p = sum_split m n (λ i. one_if (p i))

-- a range in n blocks of m
pub sum_blocks : (m n : ℕ) (f : ℕ → ℕ) → sum_to (m * n) f ≡ sum_to n (λ r. sum_to m (λ i. f (m * r + i)))
unfolding sum_to
sum_blocks m zero f = rw mul-zero
sum_blocks m (suc n) f = rw mul-suc (sum_split (m * n) m f ∙ ap (λ a. a + sum_to m (λ i. f (m * n + i))) (sum_blocks m n f))

pub join_blocks : {A : Type 0} (m n : ℕ) (f : ℕ → List A) → join_to (m * n) f ≡ join_to n (λ r. join_to m (λ i. f (m * r + i)))
unfolding join_to
join_blocks m zero f = rw mul-zero
join_blocks m (suc n) f = rw mul-suc (join_split (m * n) m f ∙ ap (λ a. a ++ join_to m (λ i. f (m * n + i))) (join_blocks m n f))

-- what a join becomes: measured, mapped
pub length_join : {A : Type 0} (n : ℕ) (f : ℕ → List A) → length (join_to n f) ≡ sum_to n (λ i. length (f i))
unfolding join_to sum_to
length_join zero f = refl
length_join (suc n) f = simp length-append (omega (arith, length_join n f))

pub map_join : {A B : Type 0} (g : A → B) (n : ℕ) (f : ℕ → List A) → map g (join_to n f) ≡ join_to n (λ i. map g (f i))
unfolding join_to
map_join g zero f = refl
map_join g (suc n) f = map-append g (join_to n f) (f n) ∙ ap (λ a. a ++ map g (f n)) (map_join g n f)

-- a list made from a join of two lists
pub flat_append : {A B : Type 0} (g : A → List B) (xs ys : List A) → flat_map g (xs ++ ys) ≡ flat_map g xs ++ flat_map g ys
unfolding flat_map
flat_append g [] ys = refl
flat_append g (x ∷ xs) ys = rw (flat_append g xs ys) (sym (append_assoc (g x) (flat_map g xs) (flat_map g ys)))

pub flat_join : {A B : Type 0} (g : A → List B) (n : ℕ) (f : ℕ → List A) → flat_map g (join_to n f) ≡ join_to n (λ i. flat_map g (f i))
unfolding join_to flat_map
flat_join g zero f = refl
flat_join g (suc n) f = flat_append g (join_to n f) (f n) ∙ ap (λ a. a ++ flat_map g (f n)) (flat_join g n f)

-- a stretch of the range that adds nothing
pub sum_quiet : (x y : ℕ) (f : ℕ → ℕ) → x ≤ y → ((i : ℕ) → x ≤ i → i < y → f i ≡ 0) → sum_to y f ≡ sum_to x f
unfolding sum_to
sum_quiet x zero f h q = let e : x ≡ 0 = omega arith in rw e
sum_quiet x (suc y) f h q = go (dec_lt y x) (λ l. sum_quiet x y f l (λ i a b. q i a (omega arith)))
  where
    go : Dec (y < x) → (x ≤ y → sum_to y f ≡ sum_to x f) → sum_to y f + f y ≡ sum_to x f
    go (yes l) below = let e : x ≡ suc y = omega arith in rw e
    go (no ge) below = omega (arith, below (omega arith), q y (omega arith) (omega arith))

pub join_quiet : {A : Type 0} (x y : ℕ) (f : ℕ → List A) → x ≤ y → ((i : ℕ) → x ≤ i → i < y → f i ≡ []) → join_to y f ≡ join_to x f
unfolding join_to
join_quiet x zero f h q = let e : x ≡ 0 = omega arith in rw e
join_quiet x (suc y) f h q = go (dec_lt y x) (λ l. join_quiet x y f l (λ i a b. q i a (omega arith)))
  where
    go : Dec (y < x) → (x ≤ y → join_to y f ≡ join_to x f) → join_to y f ++ f y ≡ join_to x f
    go (yes l) below = let e : x ≡ suc y = omega arith in rw e
    go (no ge) below = rw (q y (omega arith) (omega arith), below (omega arith)) (append-nil (join_to x f))

-- a property of lists that two lists have together if each has it, of a join
pub of_join : {A : Type 0} (P : List A → Type 0) → P [] → ((xs ys : List A) → P xs → P ys → P (xs ++ ys)) → (n : ℕ) (f : ℕ → List A)
    → ((i : ℕ) → i < n → P (f i)) → P (join_to n f)
unfolding join_to
of_join P none both zero f h = none
of_join P none both (suc n) f h = both (join_to n f) (f n) (of_join P none both n f (λ i l. h i (omega arith))) (h n (omega arith))

-- lists of one length joined
pub length_flat : {A B : Type 0} (width : ℕ) (g : A → List B) → ((a : A) → length (g a) ≡ width) → (xs : List A)
    → length (flat_map g xs) ≡ width * length xs
unfolding flat_map
length_flat width g even [] = omega (arith, mul-zero width)
length_flat width g even (x ∷ xs) = simp length-append (omega (arith, even x, length_flat width g even xs, mul-suc width (length xs)))

-- sums added up term by term
pub sum_add : (n : ℕ) (f g : ℕ → ℕ) → sum_to n (λ i. f i + g i) ≡ sum_to n f + sum_to n g
unfolding sum_to
sum_add zero f g = refl
sum_add (suc n) f g = omega (arith, sum_add n f g)

-- a sum rises with its range
pub sum_rises : (m n : ℕ) (f : ℕ → ℕ) → m ≤ n → sum_to m f ≤ sum_to n f
sum_rises m n f h =
    let e : n ≡ m + (n - m) = omega arith in
    rw e (omega (arith, sum_split m (n - m) f))

-- a count is at most the range
pub count_le : (n : ℕ) (p : ℕ → Bool) → count_to n p ≤ n
unfolding count_to sum_to
count_le zero p = omega arith
count_le (suc n) p = omega (arith, count_le n p, bit_le (p n))

-- terms that are nothing, and numbers of which none passes
pub sum_none : (n : ℕ) (f : ℕ → ℕ) → ((i : ℕ) → i < n → f i ≡ 0) → sum_to n f ≡ 0
unfolding sum_to
sum_none n f none = sum_quiet 0 n f (omega arith) (λ i a b. none i b)

pub count_none : (n : ℕ) (p : ℕ → Bool) → ((i : ℕ) → i < n → p i ≡ false) → count_to n p ≡ 0
unfolding count_to
count_none n p none = sum_none n (λ i. one_if (p i)) (λ i l. rw (none i l))

-- what one number of the range is worth by itself
pub sum_picks : (n k x : ℕ) → k < n → sum_to n (λ i. cond (eqb k i) x 0) ≡ x
unfolding sum_to
sum_picks zero k x l = absurd (omega arith)
sum_picks (suc n) k x l = go (dec_lt k n) (λ l'. sum_picks n k x l')
  where
    other : (i : ℕ) → (k ≡ i → ⊥) → cond (eqb k i) x 0 ≡ 0
    other i d = rw (ne_eqb k i d)

    go : Dec (k < n) → (k < n → sum_to n (λ i. cond (eqb k i) x 0) ≡ x) → sum_to n (λ i. cond (eqb k i) x 0) + cond (eqb k n) x 0 ≡ x
    go (yes l') below = omega (arith, below l', other n (λ e. absurd (omega arith)))
    go (no ge) below =
        let e : k ≡ n = omega arith in
        rw (eq-eqb k n e) (omega (arith, sum_quiet 0 n (λ i. cond (eqb k i) x 0) (omega arith) (λ i a b. other i (λ q. absurd (omega arith)))))

-- terms that have a bound
pub sum_most : (b n : ℕ) (f : ℕ → ℕ) → ((i : ℕ) → i < n → f i ≤ b) → sum_to n f ≤ b * n
unfolding sum_to
sum_most b zero f h = omega arith
sum_most b (suc n) f h = omega (arith, sum_most b n f (λ i l. h i (omega arith)), h n (omega arith), mul-suc b n)

-- what stands up to a number below n is no longer than the whole
pub join_room : {A : Type 0} (i n : ℕ) (f : ℕ → List A) → i < n → length (join_to i f) + length (f i) ≤ length (join_to n f)
join_room i n f h =
    let e : n ≡ i + 1 + (n - (i + 1)) = omega arith in
    rw (e, join_split (i + 1) (n - (i + 1)) f, join_next i f, length-append, length-append) (omega arith)

-- the entries of a list, one after the other
pub entries : (xs : List ℕ) (n : ℕ) → n ≤ length xs → join_to n (λ i. get_or xs i 0 ∷ []) ≡ take n xs
unfolding join_to
entries xs zero l = refl
entries xs (suc n) l = rw (entries xs n (omega arith)) (sym (take-suc xs n 0 l))

pub all_entries : (xs : List ℕ) (n : ℕ) → n ≡ length xs → join_to n (λ i. get_or xs i 0 ∷ []) ≡ xs
all_entries xs n e = entries xs n (omega arith) ∙ take_all n xs (omega arith)

-- joined from the front
pub join_one : {A : Type 0} (f : ℕ → List A) → join_to 1 f ≡ f 0
unfolding join_to
join_one f = refl

pub join_zero : {A : Type 0} (f : ℕ → List A) → join_to 0 f ≡ []
unfolding join_to
join_zero f = refl

pub join_first : {A : Type 0} (n : ℕ) (f : ℕ → List A) → join_to (suc n) f ≡ f 0 ++ join_to n (λ i. f (1 + i))
join_first n f =
    let e : suc n ≡ 1 + n = omega arith in
    rw (e, join_split 1 n f, join_one f)

-- a join of lists that are all empty
pub join_empty : {A : Type 0} (n : ℕ) (f : ℕ → List A) → ((i : ℕ) → f i ≡ []) → join_to n f ≡ []
join_empty n f e = join_quiet 0 n f (omega arith) (λ i a b. e i) ∙ join_zero f

-- a term is at most the sum
pub term_le : (n i : ℕ) (f : ℕ → ℕ) → i < n → f i ≤ sum_to n f
term_le n i f l = omega (arith, sum_next i f, sum_rises (i + 1) n f (omega arith))

-- terms that are at most so many times others
pub sum_times : (k n : ℕ) (f g : ℕ → ℕ) → ((i : ℕ) → i < n → f i ≤ k * g i) → sum_to n f ≤ k * sum_to n g
unfolding sum_to
sum_times k zero f g h = omega arith
sum_times k (suc n) f g h = omega (arith, sum_times k n f g (λ i l. h i (omega arith)), h n (omega arith), mul-add k (sum_to n g) (g n))

-- an entry of a part of a join
pub join_entry : {A : Type 0} (m i q : ℕ) (f : ℕ → List A) (d : A) → i < m → q < length (f i) → get_or (join_to m f) (length (join_to i f) + q) d ≡ get_or (f i) q d
join_entry m i q f d l lq =
    let e : m ≡ i + 1 + (m - (i + 1)) = omega arith in
    rw (e, join_split (i + 1) (m - (i + 1)) f, join_next i f)
    (get_or-append (join_to i f ++ f i) (join_to (m - (i + 1)) (λ k. f (i + 1 + k))) d (length (join_to i f) + q) (rw (length-append (join_to i f) (f i)) (omega arith))
    ∙ get_or-append-add (join_to i f) (f i) q d)
