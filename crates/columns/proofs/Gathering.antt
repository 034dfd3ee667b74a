-- A column as things are put into it: one more changes its own shell's number and no other; and how large the numbers become.
use mathlib.Core.Path.{◌≡◌, refl, ap, sym, ◌∙◌}
use mathlib.Core.List.{List, [], ◌∷◌, ◌++◌, append-nil, foldl, foldl-append}
use mathlib.Core.Bool.{Bool, true, false, cond}
use Prim.Native.Nat.{ℕ, ◌+◌, ◌<◌, ◌≤◌, ◌^◌}
use native.Mathlib.Omega.{arith}
use lib.Dec.{eqb}
use lib.ListN.{length, get_or, set}
use lib.Seq.{sets}
use borrow.Author.Tests.{eq-eqb, ne_eqb}
use Rattle.laws.specs.Range.{keep_to, join_to}
use Rattle.laws.specs.Values.{list_to}
use Rattle.laws.proofs.Ranges.{join_next, count_le}
use Rattle.laws.proofs.Keep.{length_keep}
use Rattle.columns.specs.declared.ways.Way.{Way}
use Rattle.columns.specs.declared.ways.Way.TheVariants.{Least, Greatest, Count}
use Rattle.columns.specs.Columns.{start_by, put_by, put_at, gathered_to, column_to}
use Rattle.laws.proofs.Runs.{run_at, run_change}

keep_next : (n : ℕ) (p : ℕ → Bool) → keep_to (n + 1) p ≡ keep_to n p ++ cond (p n) (n ∷ []) []
unfolding keep_to
keep_next n p = join_next n (λ i. cond (p i) (i ∷ []) [])

pub keep_more : (n : ℕ) (p : ℕ → Bool) → p n ≡ true → keep_to (n + 1) p ≡ keep_to n p ++ (n ∷ [])
keep_more n p h = keep_next n p ∙ rw h

pub keep_same : (n : ℕ) (p : ℕ → Bool) → p n ≡ false → keep_to (n + 1) p ≡ keep_to n p
keep_same n p h = keep_next n p ∙ rw h (append-nil (keep_to n p))

module _ {A : Type 0} (number_at : ℕ → ℕ) (put : A → ℕ → A) (start : A) where
  -- one thing more, under its own number and under any other
  pub gathered_here : (j : ℕ) → gathered_to number_at put start (j + 1) (number_at j) ≡ put (gathered_to number_at put start j (number_at j)) j
  gathered_here j =
      let has : ℕ → Bool = λ i. eqb (number_at i) (number_at j) in
      ap (foldl put start) (keep_more j has (eq-eqb (number_at j) (number_at j) refl)) ∙ foldl-append put start (keep_to j has) (j ∷ [])

  pub gathered_else : (j n : ℕ) → (n ≡ number_at j → ⊥) → gathered_to number_at put start (j + 1) n ≡ gathered_to number_at put start j n
  gathered_else j n ne = ap (foldl put start) (keep_same j (λ i. eqb (number_at i) n) (ne_eqb _ _ (λ e. ne (sym e))))

module _ (way : Way) (number_at worth : ℕ → ℕ) where
  -- a column written into a room from a place on
  module _ (room : List ℕ) (at shells : ℕ) where
    abbrev pub column_after : ℕ → List ℕ
    column_after j = sets room at (list_to shells (column_to way number_at worth j))

    pub none_put : column_after 0 ≡ sets room at (list_to shells (λ n. start_by way))
    unfolding keep_to join_to
    none_put = refl

    module _ (inside : at + shells ≤ length room) (j : ℕ) (small : number_at j < shells) where
      pub had : get_or (column_after j) (at + number_at j) 0 ≡ column_to way number_at worth j (number_at j)
      had = run_at room at shells (number_at j) (column_to way number_at worth j) 0 inside small

      -- what one more makes of its shell's number
      pub put_here : put_by way (get_or (column_after j) (at + number_at j) 0) (worth j) ≡ column_to way number_at worth (j + 1) (number_at j)
      put_here = ap (λ h. put_by way h (worth j)) had ∙ sym (gathered_here number_at (λ h i. put_by way h (worth i)) (start_by way) j)

      pub more_put : put_at way (at + number_at j) (worth j) (column_after j) ≡ column_after (j + 1)
      more_put =
          ap (set (column_after j) (at + number_at j)) put_here
          ∙ run_change room at shells (number_at j) (column_to way number_at worth j) (column_to way number_at worth (j + 1)) small
          (gathered_else number_at (λ h i. put_by way h (worth i)) (start_by way) j)

-- ---- sizes
fold_keeps : (P : ℕ → Type 0) (put : ℕ → ℕ → ℕ) → ((had x : ℕ) → P had → P (put had x)) → (start : ℕ) → P start → (xs : List ℕ) → P (foldl put start xs)
fold_keeps P put step start h [] = h
fold_keeps P put step start h (x ∷ xs) = fold_keeps P put step (put start x) (step start x h) xs

-- counting goes up by one a thing
pub counted : (start : ℕ) (xs : List ℕ) → foldl (λ had x. had + 1) start xs ≡ start + length xs
counted start [] = omega arith
counted start (x ∷ xs) = counted (start + 1) xs ∙ omega arith

pub count_small : (number_at worth : ℕ → ℕ) (j n : ℕ) → column_to Count number_at worth j n ≤ j
count_small number_at worth j n =
    let has : ℕ → Bool = λ i. eqb (number_at i) n in
    omega (arith, counted 0 (keep_to j has), length_keep j has, count_le j has)

-- a column of words has words
pub column_fits : (way : Way) (number_at worth : ℕ → ℕ) → (way ≡ Greatest → (i : ℕ) → worth i < 2 ^ 32) → (j n : ℕ) → j < 2 ^ 32 → column_to way number_at worth j n < 2 ^ 32
column_fits Least number_at worth words j n l =
    fold_keeps (λ w. w < 2 ^ 32) (λ had i. put_by Least had (worth i)) (λ had i h. omega arith) _ (omega arith) (keep_to j (λ i. eqb (number_at i) n))
column_fits Greatest number_at worth words j n l =
    fold_keeps (λ w. w < 2 ^ 32) (λ had i. put_by Greatest had (worth i)) (λ had i h. omega (arith, words refl i)) _ (omega arith) (keep_to j (λ i. eqb (number_at i) n))
column_fits Count number_at worth words j n l = omega (arith, count_small number_at worth j n)
