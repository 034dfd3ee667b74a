-- The numbers below n that pass a test, and the rank of each among them: how many that pass stand below it.
use mathlib.Core.Path.{◌≡◌, refl, ap, sym, ◌∙◌}
use mathlib.Core.List.{List, [], ◌∷◌, ◌++◌}
use mathlib.Core.Bool.{Bool, true, false, cond}
use Prim.Native.Nat.{ℕ, zero, suc, ◌+◌, ◌-◌, ◌<◌, ◌≤◌}
use native.Mathlib.Decide.{dec_lt}
use native.Mathlib.Nat.{zero-add}
use native.Mathlib.Numerals.{add-one}
use native.Mathlib.Omega.{arith}
use lib.ListN.{length, get_or, length-append, get_or-append}
use lib.Seq.{get_or_at}
use Rattle.laws.specs.Range.{sum_to, join_to, count_to, keep_to, keep_from, one_if}
use Rattle.laws.specs.Sum.{All}
use Rattle.laws.proofs.Sums.{all_append}
use Rattle.laws.proofs.Ranges.{join_cong, join_split, join_quiet, join_one, of_join, length_join, sum_cong, count_le}

length_if : (b : Bool) (n : ℕ) → length (cond b (n ∷ []) []) ≡ one_if b
length_if true n = refl
length_if false n = refl

pub length_keep : (n : ℕ) (p : ℕ → Bool) → length (keep_to n p) ≡ count_to n p
unfolding keep_to count_to sum_to join_to
length_keep zero p = refl
length_keep (suc n) p = simp length-append (omega (arith, length_keep n p, length_if (p n) n))

-- one step of a walk, at n + 1 as the code has it
pub count_next : (n : ℕ) (p : ℕ → Bool) → count_to (n + 1) p ≡ count_to n p + one_if (p n)
unfolding count_to sum_to
count_next n p = rw add-one

count_step : (n : ℕ) (p : ℕ → Bool) → count_to (suc n) p ≡ count_to n p + one_if (p n)
unfolding count_to sum_to
count_step n p = refl

-- ranks rise: below n, a number that passes has fewer below it than there are
pub rank_lt : (n e : ℕ) (p : ℕ → Bool) → e < n → p e ≡ true → count_to e p < count_to n p
rank_lt zero e p l h = omega arith
rank_lt (suc n) e p l h = go (dec_lt e n) (λ l'. rank_lt n e p l' h)
  where
    go : Dec (e < n) → (e < n → count_to e p < count_to n p) → count_to e p < count_to (suc n) p
    go (yes l') below = omega (arith, below l', count_step n p)
    go (no ge) below =
        let q : n ≡ e = omega arith in
        rw q (omega (arith, count_step e p, ap one_if h))

-- a number that passes stands in the list at its rank
pub at_rank : (n e : ℕ) (p : ℕ → Bool) → e < n → p e ≡ true → get_or (keep_to n p) (count_to e p) 0 ≡ e
unfolding keep_to join_to
at_rank zero e p l h = omega arith
at_rank (suc n) e p l h = go (dec_lt e n) (λ l'. at_rank n e p l' h)
  where
    go : Dec (e < n) → (e < n → get_or (keep_to n p) (count_to e p) 0 ≡ e) → get_or (keep_to n p ++ cond (p n) (n ∷ []) []) (count_to e p) 0 ≡ e
    go (yes l') below =
        get_or-append (keep_to n p) (cond (p n) (n ∷ []) []) 0 (count_to e p) (omega (arith, length_keep n p, rank_lt n e p l' h)) ∙ below l'
    go (no ge) below =
        let q : e ≡ n = omega arith in
        let t : p n ≡ true = rw q at h in
        rw (t, q) (get_or_at (keep_to n p) n [] 0 (count_to n p) (length_keep n p))

-- a number below n that passes and has i that pass below it
pub record Ranked (n i : ℕ) (p : ℕ → Bool) (e : ℕ) : Type 0 where
  pub small : e < n
  pub passes : p e ≡ true
  pub rank : count_to e p ≡ i

-- each place of the list holds the number of that rank
pub kept_at : (n i : ℕ) (p : ℕ → Bool) → i < count_to n p → Ranked n i p (get_or (keep_to n p) i 0)
unfolding keep_to join_to count_to sum_to
kept_at zero i p l = absurd (omega arith)
kept_at (suc n) i p l = go (dec_lt i (count_to n p)) (λ l'. kept_at n i p l') (p n) refl
  where
    go : Dec (i < count_to n p) → (i < count_to n p → Ranked n i p (get_or (keep_to n p) i 0)) → (b : Bool) → p n ≡ b
        → Ranked (suc n) i p (get_or (keep_to n p ++ cond b (n ∷ []) []) i 0)
    go (yes l') below b e =
        let r = below l' in
        rw (get_or-append (keep_to n p) (cond b (n ∷ []) []) 0 i (omega (arith, length_keep n p)))
        (record { small = omega (arith, r.small); passes = r.passes; rank = r.rank })
    go (no ge) below true e =
        let q : i ≡ count_to n p = omega (arith, l, count_step n p, ap one_if e) in
        rw (get_or_at (keep_to n p) n [] 0 i (length_keep n p ∙ sym q)) (record { small = omega arith; passes = e; rank = sym q })
    go (no ge) below false e = absurd (omega (arith, l, count_step n p, ap one_if e))

-- the numbers from a on and below b: all that are below b, none, one, and those up to b with those from b on
pub keep_all : (b : ℕ) (p : ℕ → Bool) → keep_from 0 b p ≡ keep_to b p
unfolding keep_from keep_to
keep_all b p =
    let all : b - 0 ≡ b = omega arith in
    rw all (join_cong b (λ i. cond (p (0 + i)) ((0 + i) ∷ []) []) (λ i. cond (p i) (i ∷ []) []) (λ i l. rw (zero-add i)))

pub keep_no : (a b : ℕ) (p : ℕ → Bool) → ((i : ℕ) → i < b - a → p (a + i) ≡ false) → keep_from a b p ≡ []
unfolding keep_from join_to
keep_no a b p none = join_quiet 0 (b - a) (λ i. cond (p (a + i)) ((a + i) ∷ []) []) (omega arith) (λ i h l. rw (none i l))

pub keep_one : (e : ℕ) (p : ℕ → Bool) → keep_from e (e + 1) p ≡ cond (p e) (e ∷ []) []
unfolding keep_from
keep_one e p =
    let one : e + 1 - e ≡ 1 = omega arith in
    let here : e + 0 ≡ e = omega arith in
    rw (one, join_one (λ i. cond (p (e + i)) ((e + i) ∷ []) []), here)

pub length_one : (e : ℕ) (p : ℕ → Bool) → length (keep_from e (e + 1) p) ≡ one_if (p e)
length_one e p = ap length (keep_one e p) ∙ length_if (p e) e

pub keep_on : (a b c : ℕ) (p : ℕ → Bool) → a ≤ b → b ≤ c → keep_from a c p ≡ keep_from a b p ++ keep_from b c p
unfolding keep_from
keep_on a b c p h k =
    let all : c - a ≡ b - a + (c - b) = omega arith in
    let f : ℕ → List ℕ = λ i. cond (p i) (i ∷ []) [] in
    rw all
    (join_split (b - a) (c - b) (λ i. f (a + i))
    ∙ ap (λ xs. join_to (b - a) (λ i. f (a + i)) ++ xs) (join_cong (c - b) (λ i. f (a + (b - a + i))) (λ i. f (b + i)) (λ i l. ap f (omega arith))))

-- of a test that says the same of each number, all that are kept, and how many they are at most
module _ (a b : ℕ) (p : ℕ → Bool) where
  pub keep_cong_from : (q : ℕ → Bool) → ((e : ℕ) → a ≤ e → e < b → p e ≡ q e) → keep_from a b p ≡ keep_from a b q
  unfolding keep_from
  keep_cong_from q h = join_cong (b - a) _ _ (λ i l. ap (λ t. cond t ((a + i) ∷ []) []) (h (a + i) (omega arith) (omega arith)))

  pub keep_passes : All (λ e. (a ≤ e) × (e < b) × (p e ≡ true)) (keep_from a b p)
  unfolding keep_from
  keep_passes = of_join (All (λ e. (a ≤ e) × (e < b) × (p e ≡ true))) tt (all_append (λ e. (a ≤ e) × (e < b) × (p e ≡ true))) (b - a) _ (λ i l. go i l (p (a + i)) refl)
    where
      go : (i : ℕ) → i < b - a → (t : Bool) → p (a + i) ≡ t → All (λ e. (a ≤ e) × (e < b) × (p e ≡ true)) (cond t ((a + i) ∷ []) [])
      go i l true is = ((omega arith, omega arith, is), tt)
      go i l false is = tt

  pub length_from : length (keep_from a b p) ≡ count_to (b - a) (λ i. p (a + i))
  unfolding keep_from count_to
  length_from =
      length_join (b - a) (λ i. cond (p (a + i)) ((a + i) ∷ []) []) ∙ sum_cong (b - a) _ (λ i. one_if (p (a + i))) (λ i l. length_if (p (a + i)) (a + i))

  pub keep_most : length (keep_from a b p) ≤ b - a
  keep_most = rw length_from (count_le (b - a) (λ i. p (a + i)))

-- range after range
pub keep_ranges : (k : ℕ) (f : ℕ → ℕ) (p : ℕ → Bool) → ((i : ℕ) → i < k → f i ≤ f (i + 1)) → (f 0 ≤ f k) × (join_to k (λ i. keep_from (f i) (f (i + 1)) p) ≡ keep_from (f 0) (f k) p)
unfolding join_to
keep_ranges zero f p rises = (omega arith, sym (keep_no (f 0) (f 0) p (λ i l. absurd (omega arith))))
keep_ranges (suc k) f p rises =
    let so = keep_ranges k f p (λ i l. rises i (omega arith)) in
    let next : f k ≤ f (suc k) = rw add-one at (rises k (omega arith)) in (
      omega (arith, so.0, next),
      rw (so.1, add-one) (sym (keep_on (f 0) (f k) (f (suc k)) p so.0 next)),
    )
