-- A table of n rows of one width, joined to one list: where each entry of a row stands; rows made of the elements of a list.
use mathlib.Core.Path.{◌≡◌, refl, ap, sym, ◌∙◌}
use mathlib.Core.List.{List, [], ◌∷◌, ◌++◌, flat_map}
use Prim.Native.Nat.{ℕ, zero, suc, ◌+◌, ◌*◌, ◌<◌}
use native.Mathlib.Decide.{dec_lt}
use native.Mathlib.Nat.{suc-mul, zero-mul, mul_comm, add-zero}
use native.Mathlib.Omega.{arith}
use lib.Arith.{digits_lt}
use lib.ListN.{length, get_or, length-append, get_or-append}
use lib.Seq.{get_or-append-add}
use Rattle.laws.specs.Range.{join_to}
use Rattle.laws.specs.Threes.{three_at}
use Rattle.laws.proofs.Ranges.{all_entries, join_cong, join_first, join_blocks}

module _ {A : Type 0} (width : ℕ) (f : ℕ → List A) (even : (k : ℕ) → length (f k) ≡ width) where
  pub length_rows : (n : ℕ) → length (join_to n f) ≡ n * width
  unfolding join_to
  length_rows zero = omega (arith, zero-mul width)
  length_rows (suc n) = simp length-append (omega (arith, length_rows n, even n, suc-mul n width))

  pub entry_at : (n k i : ℕ) (d : A) → k < n → i < width → get_or (join_to n f) (k * width + i) d ≡ get_or (f k) i d
  unfolding join_to
  entry_at zero k i d h l = absurd (omega arith)
  entry_at (suc n) k i d h l = go (dec_lt k n) (λ h'. entry_at n k i d h' l)
    where
      go : Dec (k < n) → (k < n → get_or (join_to n f) (k * width + i) d ≡ get_or (f k) i d)
          → get_or (join_to n f ++ f n) (k * width + i) d ≡ get_or (f k) i d
      go (yes h') below =
          get_or-append (join_to n f) (f n) d (k * width + i) (omega (arith, length_rows n, digits_lt {q = k} {m = n} {r = i} {c = width} h' l)) ∙ below h'
      go (no ge) below =
          let q : k ≡ n = omega arith in
          rw (q, ← (length_rows n)) (get_or-append-add (join_to n f) (f n) i d)

-- a list's elements one by one, each made a row
pub join_flat : {A B : Type 0} (d : A) (row : A → List B) (xs : List A) → join_to (length xs) (λ i. row (get_or xs i d)) ≡ flat_map row xs
unfolding join_to flat_map
join_flat d row [] = refl
join_flat d row (x ∷ xs) =
    join_first (length xs) (λ i. row (get_or (x ∷ xs) i d))
    ∙ ap (λ t. row x ++ t) (join_cong (length xs) (λ i. row (get_or (x ∷ xs) (1 + i) d)) (λ i. row (get_or xs i d)) next ∙ join_flat d row xs)
  where
    next : (i : ℕ) → i < length xs → row (get_or (x ∷ xs) (1 + i) d) ≡ row (get_or xs i d)
    next i l = let e : 1 + i ≡ suc i = omega arith in rw e

pub flat_at : {A B : Type 0} (d : A) (e : B) (width : ℕ) (row : A → List B) → ((a : A) → length (row a) ≡ width) → (xs : List A) (i j : ℕ) → i < length xs → j < width
    → get_or (flat_map row xs) (width * i + j) e ≡ get_or (row (get_or xs i d)) j e
flat_at d e width row even xs i j l m =
    rw (sym (join_flat d row xs), mul_comm width i) (entry_at width (λ k. row (get_or xs k d)) (λ k. even (get_or xs k d)) (length xs) i j e l m)

-- numbers in threes, three by three
pub join_threes : (xs : List ℕ) (n : ℕ) → length xs ≡ 3 * n → join_to n (λ i. three_at xs (3 * i)) ≡ xs
unfolding join_to
join_threes xs n e =
    join_cong n (λ i. three_at xs (3 * i)) (λ i. join_to 3 (λ j. get_or xs (3 * i + j) 0 ∷ [])) (λ i l. rw (add-zero (3 * i)))
    ∙ sym (join_blocks 3 n (λ j. get_or xs j 0 ∷ [])) ∙ all_entries xs (3 * n) (sym e)
