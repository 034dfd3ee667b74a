-- What comes at most once: in a list by a test, in a range and in a box of cells.
use mathlib.Core.Path.{◌≡◌, refl, sym, ◌∙◌}
use mathlib.Core.List.{List, [], ◌∷◌}
use mathlib.Core.Bool.{Bool, true, false, not, false≢true}
use mathlib.Core.Logic.{⊎_elim}
use Prim.Native.Nat.{ℕ, zero, suc, ◌+◌, ◌<◌, ◌≤◌}
use native.Mathlib.Nat.{eq-zero-or-pos}
use native.Mathlib.Decide.{dec_lt}
use native.Mathlib.Omega.{arith}
use borrow.Author.Tests.{not-true}
use Rattle.laws.specs.Range.{one_if, sum_to}
use Rattle.laws.specs.Sum.{sum_of}
use Rattle.laws.specs.Order.{is_in, single}
use Rattle.laws.proofs.Tests.{both, neither}
use Rattle.laws.proofs.Ranges.{sum_none}
use Rattle.laws.proofs.Box.{sum_box}

-- where nothing comes twice in a list, at most one element is a
module _ {A : Type 0} (same : A → A → Bool) (a : A) (alike : (x y : A) → same x a ≡ true → same y a ≡ true → same x y ≡ true) where
  none_else : (x : A) (xs : List A) → same x a ≡ true → is_in same x xs ≡ false → sum_of (λ y. one_if (same y a)) xs ≡ 0
  unfolding sum_of is_in
  none_else x [] e h = refl
  none_else x (y ∷ ys) e h = let n = neither (same x y) (is_in same x ys) h in go (same y a) refl n.0 (none_else x ys e n.1)
    where
      go : (b : Bool) → same y a ≡ b → same x y ≡ false → sum_of (λ y. one_if (same y a)) ys ≡ 0 → one_if b + sum_of (λ y. one_if (same y a)) ys ≡ 0
      go true f differ later = absurd (false≢true (sym differ ∙ alike x y e f))
      go false f differ later = omega (arith, later)

  pub single_most : (xs : List A) → single same xs ≡ true → sum_of (λ x. one_if (same x a)) xs ≤ 1
  unfolding sum_of single
  single_most [] h = omega arith
  single_most (x ∷ xs) h =
      let s = both (not (is_in same x xs)) (single same xs) h in
      go (same x a) refl (not-true (is_in same x xs) s.0) (single_most xs s.1)
    where
      go : (b : Bool) → same x a ≡ b → is_in same x xs ≡ false → sum_of (λ x. one_if (same x a)) xs ≤ 1 → one_if b + sum_of (λ x. one_if (same x a)) xs ≤ 1
      go true e out later = omega (arith, none_else x xs e out)
      go false e out later = omega (arith, later)

-- a sum that is not nothing has a term that is not
pub some_term : {R : Type 0} (n : ℕ) (f : ℕ → ℕ) → 0 < sum_to n f → ((i : ℕ) → i < n → 0 < f i → R) → R
unfolding sum_to
some_term zero f h then = absurd (omega (arith, h))
some_term {R} (suc n) f h then = go (dec_lt 0 (f n)) (λ l. some_term n f l (λ i small. then i (omega arith)))
  where
    go : Dec (0 < f n) → (0 < sum_to n f → R) → R
    go (yes l) later = then n (omega arith) l
    go (no l) later = later (omega (arith, h))

-- terms of at most 1, of which any two that are not nothing are the same
pub sum_most_one : (n : ℕ) (f : ℕ → ℕ) → ((i : ℕ) → i < n → f i ≤ 1) → ((i j : ℕ) → i < n → j < n → 0 < f i → 0 < f j → i ≡ j) → sum_to n f ≤ 1
unfolding sum_to
sum_most_one zero f most one = omega arith
sum_most_one (suc n) f most one =
    go (dec_lt 0 (f n)) (sum_most_one n f (λ i l. most i (omega arith)) (λ i j l k. one i j (omega arith) (omega arith)))
  where
    go : Dec (0 < f n) → sum_to n f ≤ 1 → sum_to n f + f n ≤ 1
    go (yes l) later =
        omega (
          arith,
          most n (omega arith),
          sum_none n f (λ i small. ⊎_elim (λ e. e) (λ k. let e = one i n (omega arith) (omega arith) k l in omega arith) (eq-zero-or-pos (f i))),
        )
    go (no l) later = omega (arith, later)

-- in a box of cells each worth at most 1, of which any two that are not worth nothing are the same cell, all together are worth at most 1
module _ (nx ny nz : ℕ) (f : ℕ → ℕ → ℕ → ℕ) where
  pub record OneCell : Type 0 where
    pub most : (x y z : ℕ) → x < nx → y < ny → z < nz → f x y z ≤ 1
    pub one : (x y z x' y' z' : ℕ) → x < nx → y < ny → z < nz → x' < nx → y' < ny → z' < nz → 0 < f x y z → 0 < f x' y' z' → (x ≡ x') × (y ≡ y') × (z ≡ z')

  pub box_most_one : OneCell → sum_box nx ny nz f ≤ 1
  unfolding sum_box
  box_most_one c = sum_most_one nz layer layer_most layer_one
    where
      row : ℕ → ℕ → ℕ
      row z y = sum_to nx (λ x. f x y z)

      layer : ℕ → ℕ
      layer z = sum_to ny (row z)

      row_most : (y z : ℕ) → y < ny → z < nz → row z y ≤ 1
      row_most y z hy hz =
          sum_most_one nx (λ x. f x y z) (λ x hx. c.most x y z hx hy hz) (λ x x' hx hx' p p'. (c.one x y z x' y z hx hy hz hx' hy hz p p').0)

      row_one : (y z y' z' : ℕ) → y < ny → z < nz → y' < ny → z' < nz → 0 < row z y → 0 < row z' y' → (y ≡ y') × (z ≡ z')
      row_one y z y' z' hy hz hy' hz' p p' =
          some_term nx (λ x. f x y z) p
          (λ x hx q. some_term nx (λ x. f x y' z') p' (λ x' hx' q'. let o = c.one x y z x' y' z' hx hy hz hx' hy' hz' q q' in (o.1, o.2)))

      layer_most : (z : ℕ) → z < nz → layer z ≤ 1
      layer_most z hz = sum_most_one ny (row z) (λ y hy. row_most y z hy hz) (λ y y' hy hy' p p'. (row_one y z y' z hy hz hy' hz p p').0)

      layer_one : (z z' : ℕ) → z < nz → z' < nz → 0 < layer z → 0 < layer z' → z ≡ z'
      layer_one z z' hz hz' p p' =
          some_term ny (row z) p (λ y hy q. some_term ny (row z') p' (λ y' hy' q'. (row_one y z y' z' hy hz hy' hz' q q').1))
