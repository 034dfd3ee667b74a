-- Any two numberings that the description allows are equal.
use mathlib.Core.Path.{◌≡◌, ap, sym, ◌∙◌}
use mathlib.Core.List.{List}
use Prim.Native.Nat.{ℕ, zero, suc, ◌<◌, ◌≤◌}
use native.Mathlib.Decide.{dec_lt, ℕ_discrete}
use native.Mathlib.Omega.{arith}
use lib.Seq.{ext_get_or}
use Rattle.laws.specs.Mesh.{Triangle}
use Rattle.shellnumbers.specs.Numbering.{number_of, Lowest, Used, Numbering}

-- the first of the numbers below n that f takes to k, or that there is none
data First (f : ℕ → ℕ) (k n : ℕ) : Type 0 where
  at : (q : ℕ) → q < n → f q ≡ k → ((r : ℕ) → r < q → f r ≡ k → ⊥) → First f k n
  nowhere : ((r : ℕ) → r < n → f r ≡ k → ⊥) → First f k n

first : (f : ℕ → ℕ) (k n : ℕ) → First f k n
first f k zero = nowhere (λ r l e. omega arith)
first f k (suc n) = go (first f k n) (ℕ_discrete (f n) k)
  where
    go : First f k n → Dec (f n ≡ k) → First f k (suc n)
    go (at q l e none) d = at q (omega arith) e none
    go (nowhere none) (yes e) = at n (omega arith) e none
    go (nowhere none) (no ne) = nowhere none'
      where
        none' : (r : ℕ) → r < suc n → f r ≡ k → ⊥
        none' r l h = last (dec_lt r n)
          where
            last : Dec (r < n) → ⊥
            last (yes l') = none r l' h
            last (no ge) = let q : r ≡ n = omega arith in ne (ap f (sym q) ∙ h)

module _ (ts : List Triangle) (v : ℕ) where
  -- where two numberings agree below p, and p is the lowest of its shell, the second does not give p more
  module _ (a b : List ℕ) (m n : ℕ) (A : Numbering ts v a m) (B : Numbering ts v b n) (p : ℕ) (small : p < v)
      (below : (q : ℕ) → q < p → number_of a q ≡ number_of b q) (new : (q : ℕ) → q < p → number_of a q ≡ number_of a p → ⊥) where
    lowest : Lowest v b p
    lowest q l e = go (dec_lt q p)
      where
        go : Dec (q < p) → p ≤ q
        go (yes l') = absurd (new q l' (A.same q p l small (B.led q p l small e)))
        go (no ge) = omega arith

    no_more : number_of a p < number_of b p → ⊥
    no_more less = go (first (number_of b) (number_of a p) v)
      where
        used : Used v b (number_of a p)
        used = B.used (number_of a p) (omega (arith, less, B.small p small))

        go : First (number_of b) (number_of a p) v → ⊥
        go (nowhere none) = none used.point used.small used.number
        go (at r l e none) = compare (dec_lt r p) (dec_lt p r)
          where
            low : Lowest v b r
            low q lq eq = order (dec_lt q r)
              where
                order : Dec (q < r) → r ≤ q
                order (yes l') = absurd (none q l' (eq ∙ e))
                order (no ge) = omega arith

            compare : Dec (r < p) → Dec (p < r) → ⊥
            compare (yes l') d = new r l' (below r l' ∙ e)
            compare (no ge) (yes k) = omega (arith, B.rising p r small l lowest low k, e, less)
            compare (no ge) (no k) =
                let q : r ≡ p = omega arith in
                omega (arith, ap (number_of b) q, e, less)

  -- and so they agree everywhere
  module _ (a b : List ℕ) (m n : ℕ) (A : Numbering ts v a m) (B : Numbering ts v b n) where
    here : (p : ℕ) → p < v → ((q : ℕ) → q < p → number_of a q ≡ number_of b q) → number_of a p ≡ number_of b p
    here p small below = go (first (number_of a) (number_of a p) p)
      where
        go : First (number_of a) (number_of a p) p → number_of a p ≡ number_of b p
        go (at q lq e none) =
            sym e ∙ below q lq ∙ B.same q p (omega arith) small (A.led q p (omega arith) small e)
        go (nowhere none) = order (dec_lt (number_of a p) (number_of b p)) (dec_lt (number_of b p) (number_of a p))
          where
            none' : (q : ℕ) → q < p → number_of b q ≡ number_of b p → ⊥
            none' q lq e = none q lq (A.same q p (omega arith) small (B.led q p (omega arith) small e))

            order : Dec (number_of a p < number_of b p) → Dec (number_of b p < number_of a p) → number_of a p ≡ number_of b p
            order (yes less) d = absurd (no_more a b m n A B p small below none less)
            order (no x) (yes more) = absurd (no_more b a n m B A p small (λ q lq. sym (below q lq)) none' more)
            order (no x) (no y) = omega arith

    upward : (k p : ℕ) → p < k → p < v → number_of a p ≡ number_of b p
    upward zero p l small = absurd (omega arith)
    upward (suc k) p l small = here p small (λ q lq. upward k q (omega arith) (omega arith))

    agree : (p : ℕ) → p < v → number_of a p ≡ number_of b p
    agree p l = upward (suc p) p (omega arith) l

    no_fewer : m < n → ⊥
    no_fewer less =
        let u = B.used m less in
        omega (arith, A.small u.point u.small, agree u.point u.small, u.number)

  pub one_numbering : (a b : List ℕ) (m n : ℕ) → Numbering ts v a m → Numbering ts v b n → (a ≡ b) × (m ≡ n)
  one_numbering a b m n A B =
      (ext_get_or 0 a b (A.long ∙ sym B.long) (λ p l. agree a b m n A B p (omega (arith, A.long))), order (dec_lt m n) (dec_lt n m))
    where
      order : Dec (m < n) → Dec (n < m) → m ≡ n
      order (yes less) d = absurd (no_fewer a b m n A B less)
      order (no x) (yes more) = absurd (no_fewer b a n m B A more)
      order (no x) (no y) = omega arith
