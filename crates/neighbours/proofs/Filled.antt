-- The buckets, two entries at a time.
use mathlib.Core.Path.{◌≡◌, refl, ap, sym, ◌∙◌}
use mathlib.Core.List.{List, [], ◌∷◌, ◌++◌, append-nil}
use mathlib.Core.Bool.{Bool, true, false}
use Prim.Native.Nat.{ℕ, zero, suc, ◌+◌, ◌-◌, ◌<◌, ◌≤◌}
use native.Mathlib.Decide.{dec_lt}
use native.Mathlib.Omega.{arith}
use lib.Dec.{eqb}
use lib.ListN.{length, get_or, set, length-set, length-append, get_or-append}
use lib.Seq.{get_or-set_same, get_or-set_other, get_or-append-add}
use borrow.Author.Tests.{eqb-true, eqb-false}
use Rattle.neighbours.specs.Lists.{two_if, bucket}
use Rattle.neighbours.specs.Steps.{begin_of, Filled, put_two, StampsBelow}
use Rattle.neighbours.proofs.Sized.{begins_rise}

module _ (ts : List ℕ) (v at : ℕ) (taken : begin_of ts v ≤ at) where
  -- a bucket lies among the entries
  bucket_room : (p : ℕ) → p < v → begin_of ts p + length (bucket ts p) ≤ at
  bucket_room p l = omega (arith, taken, begins_rise ts p v l)

  module _ (entries : ℕ → List ℕ) (p q r : ℕ) (work : List ℕ) (l : p < v) (room : at + v ≤ length work)
      (fits : (k : ℕ) → length (entries k ++ two_if (eqb p k) q r) ≤ length (bucket ts k)) (h : Filled ts v at entries work) where
    abbrev next : ℕ
    next = get_or work (at + p) 0

    abbrev after : List ℕ
    after = put_two at p q r work

    two : (b : Bool) → eqb p p ≡ b → b ≡ true
    two true e = refl
    two false e = absurd (eqb-false p p e refl)

    own_fits : length (entries p) + 2 ≤ length (bucket ts p)
    own_fits = let f = fits p in (rw (two (eqb p p) refl, length-append (entries p) (q ∷ r ∷ [])) at f)

    pub place_free : next + 2 ≤ at
    place_free = omega (arith, h.next p l, own_fits, bucket_room p l)

    other : (i : ℕ) → (i ≡ next → ⊥) → (i ≡ next + 1 → ⊥) → (i ≡ at + p → ⊥) → get_or after i 0 ≡ get_or work i 0
    other i a b c =
        get_or-set_other (set (set work next q) (next + 1) r) (at + p) i (next + 2) 0 c
        ∙ get_or-set_other (set work next q) (next + 1) i r 0 b
        ∙ get_or-set_other work next i q 0 a

    first : get_or after next 0 ≡ q
    first =
        get_or-set_other (set (set work next q) (next + 1) r) (at + p) next (next + 2) 0 (λ e. absurd (omega (arith, place_free)))
        ∙ get_or-set_other (set work next q) (next + 1) next r 0 (λ e. absurd (omega arith))
        ∙ get_or-set_same work next q 0 (omega (arith, place_free))

    second : get_or after (next + 1) 0 ≡ r
    second =
        get_or-set_other (set (set work next q) (next + 1) r) (at + p) (next + 1) (next + 2) 0 (λ e. absurd (omega (arith, place_free)))
        ∙ get_or-set_same (set work next q) (next + 1) r 0 (rw length-set (omega (arith, place_free)))

    own_next : get_or after (at + p) 0 ≡ next + 2
    own_next =
        get_or-set_same (set (set work next q) (next + 1) r) (at + p) (next + 2) 0 (rw (length-set, length-set) (omega arith))

    pub put_filled : Filled ts v at (λ k. entries k ++ two_if (eqb p k) q r) after
    put_filled = record { next = λ k m. next_of k m (eqb p k) refl; held = λ k j m n. held_of k j m (eqb p k) refl n }
      where
        next_of : (k : ℕ) → k < v → (b : Bool) → eqb p k ≡ b → get_or after (at + k) 0 ≡ begin_of ts k + length (entries k ++ two_if b q r)
        next_of k m true e =
            let is : p ≡ k = eqb-true p k e in
            rw (← is, length-append (entries p) (q ∷ r ∷ [])) (omega (arith, own_next, h.next p l))
        next_of k m false e =
            let d : p ≡ k → ⊥ = eqb-false p k e in
            rw (append-nil (entries k))
            (other (at + k) (λ x. absurd (omega (arith, place_free))) (λ x. absurd (omega (arith, place_free))) (λ x. d (omega arith))
            ∙ h.next k m)

        -- two entries behind those that were there
        own : (j : ℕ) → j < length (entries p) + 2 → Dec (j < length (entries p)) → get_or after (begin_of ts p + j) 0 ≡ get_or (entries p ++ (q ∷ r ∷ [])) j 0
        own j n (yes b) =
            other (begin_of ts p + j) (λ x. absurd (omega (arith, h.next p l))) (λ x. absurd (omega (arith, h.next p l))) (λ x. absurd (omega (arith, bucket_room p l, own_fits)))
            ∙ h.held p j l b
            ∙ sym (get_or-append (entries p) (q ∷ r ∷ []) 0 j b)
        own j n (no b) =
            let is : j ≡ length (entries p) + (j - length (entries p)) = omega arith in
            rw is (behind (j - length (entries p)) (omega arith))
          where
            behind : (d : ℕ) → d < 2 → get_or after (begin_of ts p + (length (entries p) + d)) 0 ≡ get_or (entries p ++ (q ∷ r ∷ [])) (length (entries p) + d) 0
            behind zero k = ap (λ i. get_or after i 0) (omega (arith, h.next p l)) ∙ first ∙ sym (get_or-append-add (entries p) (q ∷ r ∷ []) 0 0)
            behind (suc zero) k = ap (λ i. get_or after i 0) (omega (arith, h.next p l)) ∙ second ∙ sym (get_or-append-add (entries p) (q ∷ r ∷ []) 1 0)
            behind (suc (suc d)) k = absurd (omega arith)

        -- another bucket lies before this one or behind it
        apart : (k j : ℕ) → (p ≡ k → ⊥) → j < length (bucket ts k) → Dec (k < p) → (begin_of ts k + j ≡ next → ⊥) × (begin_of ts k + j ≡ next + 1 → ⊥)
        apart k j d n (yes m) =
            let a = begins_rise ts k p m in
            (λ x. absurd (omega (arith, h.next p l)), λ x. absurd (omega (arith, h.next p l)))
        apart k j d n (no m) =
            let a = begins_rise ts p k (below (dec_lt p k)) in
            (λ x. absurd (omega (arith, h.next p l, own_fits)), λ x. absurd (omega (arith, h.next p l, own_fits)))
          where
            below : Dec (p < k) → p < k
            below (yes y) = y
            below (no y) = absurd (d (omega arith))

        held_of : (k j : ℕ) → k < v → (b : Bool) → eqb p k ≡ b → j < length (entries k ++ two_if b q r)
            → get_or after (begin_of ts k + j) 0 ≡ get_or (entries k ++ two_if b q r) j 0
        held_of k j m true e n =
            let is : p ≡ k = eqb-true p k e in
            rw (← is) (own j (rw (← is, length-append (entries p) (q ∷ r ∷ [])) at n) (dec_lt j (length (entries p))))
        held_of k j m false e n =
            let small : j < length (entries k) = rw (append-nil (entries k)) at n in
            let whole : length (entries k) ≤ length (bucket ts k) = rw (e, append-nil (entries k)) at (fits k) in
            let a = apart k j (eqb-false p k e) (omega arith) (dec_lt k p) in
            rw (append-nil (entries k)) (other (begin_of ts k + j) a.0 a.1 (λ x. absurd (omega (arith, bucket_room k m))) ∙ h.held k j m small)

    pub put_stamps : (stamp : ℕ) → StampsBelow (at + v + 1) stamp work → StampsBelow (at + v + 1) stamp after
    put_stamps stamp s k =
        rw (other (at + v + 1 + k) (λ x. absurd (omega (arith, place_free))) (λ x. absurd (omega (arith, place_free))) (λ x. absurd (omega arith))) (s k)

    pub length_put : length after ≡ length work
    length_put = simp length-set
