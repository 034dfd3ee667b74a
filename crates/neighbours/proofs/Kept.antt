-- The different numbers of a bucket: kept at their first meeting, and known by their stamps.
use mathlib.Core.Path.{◌≡◌, refl, ap, sym, ◌∙◌}
use mathlib.Core.List.{List, [], ◌∷◌, ◌++◌, append-nil}
use mathlib.Core.Bool.{Bool, true, false, cond, ◌||◌, false≢true}
use Prim.Native.Nat.{ℕ, zero, suc, ◌+◌, ◌-◌, ◌<◌, ◌≤◌}
use native.Mathlib.Decide.{dec_lt}
use native.Mathlib.Numerals.{add-one}
use native.Mathlib.Omega.{arith}
use lib.Dec.{eqb}
use lib.ListN.{length, get_or, set, length-set, length-append, get_or-append}
use lib.Seq.{get_or-set_same, get_or-set_other, get_or_at}
use borrow.Author.Tests.{eqb-true, eqb-false}
use Rattle.laws.specs.Range.{join_to, some_to}
use Rattle.laws.proofs.Ranges.{join_next}
use Rattle.neighbours.specs.Lists.{met_to, different_to}
use Rattle.neighbours.specs.Steps.{AllBelow, Same, WrittenFrom, StampsBelow}

module _ (f : ℕ → ℕ) where
  pub met_next : (n q : ℕ) → met_to f (n + 1) q ≡ (eqb (f n) q || met_to f n q)
  unfolding met_to some_to
  met_next n q = rw add-one

  different_next : (n : ℕ) → different_to f (n + 1) ≡ different_to f n ++ cond (met_to f n (f n)) [] (f n ∷ [])
  unfolding different_to
  different_next n = join_next n (λ k. cond (met_to f k (f k)) [] (f k ∷ []))

  pub different_met : (n : ℕ) → met_to f n (f n) ≡ true → different_to f (n + 1) ≡ different_to f n
  different_met n h = different_next n ∙ rw h (append-nil (different_to f n))

  pub different_new : (n : ℕ) → met_to f n (f n) ≡ false → different_to f (n + 1) ≡ different_to f n ++ (f n ∷ [])
  different_new n h = different_next n ∙ rw h

  -- what was met is met again
  pub met_again : (n q : ℕ) → met_to f n (f n) ≡ true → met_to f (n + 1) q ≡ met_to f n q
  met_again n q h = met_next n q ∙ go (eqb (f n) q) refl
    where
      go : (b : Bool) → eqb (f n) q ≡ b → (b || met_to f n q) ≡ met_to f n q
      go true e = sym (rw (← (eqb-true (f n) q e)) h)
      go false e = refl

  pub different_le : (n : ℕ) → length (different_to f n) ≤ n
  unfolding different_to join_to
  different_le zero = omega arith
  different_le (suc n) = go (met_to f n (f n)) (different_le n)
    where
      go : (b : Bool) → length (different_to f n) ≤ n → length (different_to f n ++ cond b [] (f n ∷ [])) ≤ suc n
      go true l = rw length-append (omega arith)
      go false l = rw length-append (omega arith)

module _ (from end to stamps stamp : ℕ) (work₀ : List ℕ) where
  abbrev entry : ℕ → ℕ
  entry k = get_or work₀ (from + k) 0

  -- n entries were looked at
  pub record KeptTo (n kept : ℕ) (work : List ℕ) : Type 0 where
    pub same : length work ≡ length work₀
    pub within : from + n ≤ end
    pub counted : kept ≡ to + length (different_to entry n)
    pub written : WrittenFrom to (different_to entry n) work
    pub below : Same 0 to work₀ work
    pub ahead : Same (from + n) stamps work₀ work
    pub stamped : (q : ℕ) → met_to entry n q ≡ true → get_or work (stamps + q) 0 ≡ stamp
    pub clean : (q : ℕ) → met_to entry n q ≡ false → get_or work (stamps + q) 0 < stamp

  pub kept_first : (to ≤ from) × (from ≤ end) × (end ≤ stamps) → StampsBelow stamps stamp work₀ → KeptTo (from - from) to work₀
  unfolding different_to met_to join_to some_to
  kept_first ok clean =
      let e : from - from ≡ 0 = omega arith in
      rw e (record {
        same = refl;
        within = omega (arith, ok.1);
        counted = omega arith;
        written = λ j l. absurd (omega arith);
        below = λ i a b. refl;
        ahead = λ i a b. refl;
        stamped = λ q t. absurd (false≢true t);
        clean = λ q t. clean q;
      })

  module _ (n kept : ℕ) (work : List ℕ) (ok : (to ≤ from) × (from ≤ end) × (end ≤ stamps)) (l : from + n < end) (h : KeptTo n kept work) where
    -- what stands at the next place is still the entry
    pub next_entry : get_or work (from + n) 0 ≡ entry n
    next_entry = h.ahead (from + n) (omega arith) (omega (arith, ok.2))

    -- the stamp tells whether it was met
    met : (b : Bool) → met_to entry n (entry n) ≡ b → get_or work (stamps + entry n) 0 ≡ stamp → b ≡ true
    met true e s = refl
    met false e s = absurd (omega (arith, h.clean (entry n) e))

    not_met : (b : Bool) → met_to entry n (entry n) ≡ b → (get_or work (stamps + entry n) 0 ≡ stamp → ⊥) → b ≡ false
    not_met true e s = absurd (s (h.stamped (entry n) e))
    not_met false e s = refl

    pub kept_again : get_or work (stamps + entry n) 0 ≡ stamp → KeptTo (n + 1) kept work
    kept_again s =
        let m : met_to entry n (entry n) ≡ true = met (met_to entry n (entry n)) refl s in
        record {
          same = h.same;
          within = omega arith;
          counted = rw (different_met entry n m) h.counted;
          written = rw (different_met entry n m) h.written;
          below = h.below;
          ahead = λ i a b. h.ahead i (omega arith) b;
          stamped = λ q t. h.stamped q (sym (met_again entry n q m) ∙ t);
          clean = λ q t. h.clean q (sym (met_again entry n q m) ∙ t);
        }

    abbrev after : List ℕ
    after = set (set work (stamps + entry n) stamp) kept (entry n)

    -- the place that is written to lies behind what was kept, and before what is still to come
    kept_place : (kept ≤ from + n) × (from + n < stamps)
    kept_place = (omega (arith, h.counted, different_le entry n, ok.0), omega (arith, ok.2))

    -- a place that is neither the stamp's nor the entry's
    other : (i : ℕ) → (i ≡ kept → ⊥) → (i ≡ stamps + entry n → ⊥) → get_or after i 0 ≡ get_or work i 0
    other i a b =
        get_or-set_other (set work (stamps + entry n) stamp) kept i (entry n) 0 a ∙ get_or-set_other work (stamps + entry n) i stamp 0 b

    here : stamps + entry n < length work → get_or after (stamps + entry n) 0 ≡ stamp
    here r =
        get_or-set_other (set work (stamps + entry n) stamp) kept (stamps + entry n) (entry n) 0 (λ e. absurd (omega (arith, kept_place)))
        ∙ get_or-set_same work (stamps + entry n) stamp 0 r

    pub kept_new : stamps + entry n < length work → (get_or work (stamps + entry n) 0 ≡ stamp → ⊥) → KeptTo (n + 1) (kept + 1) after
    kept_new r s =
        let m : met_to entry n (entry n) ≡ false = not_met (met_to entry n (entry n)) refl s in
        let next : different_to entry (n + 1) ≡ different_to entry n ++ (entry n ∷ []) = different_new entry n m in
        record {
          same = simp length-set h.same;
          within = omega arith;
          counted = rw (next, length-append (different_to entry n) (entry n ∷ [])) (omega (arith, h.counted));
          written = rw next (λ j k. at_place j (rw (length-append (different_to entry n) (entry n ∷ [])) at k) (dec_lt j (length (different_to entry n))));
          below = λ i a b. other i (λ e. absurd (omega (arith, h.counted))) (λ e. absurd (omega (arith, ok.0, ok.1, ok.2))) ∙ h.below i a b;
          ahead = λ i a b. other i (λ e. absurd (omega (arith, kept_place.0))) (λ e. absurd (omega arith)) ∙ h.ahead i (omega arith) b;
          stamped = λ q t. marked q (eqb (entry n) q) refl (sym (met_next entry n q) ∙ t);
          clean = λ q t. unmarked q (eqb (entry n) q) refl (sym (met_next entry n q) ∙ t);
        }
      where
        at_place : (j : ℕ) → j < length (different_to entry n) + 1 → Dec (j < length (different_to entry n))
            → get_or after (to + j) 0 ≡ get_or (different_to entry n ++ (entry n ∷ [])) j 0
        at_place j k (yes b) =
            other (to + j) (λ e. absurd (omega (arith, h.counted))) (λ e. absurd (omega (arith, h.counted, kept_place)))
            ∙ h.written j b
            ∙ sym (get_or-append (different_to entry n) (entry n ∷ []) 0 j b)
        at_place j k (no b) =
            let e : to + j ≡ kept = omega (arith, h.counted) in
            rw (e, get_or_at (different_to entry n) (entry n) [] 0 j (omega arith))
            (get_or-set_same (set work (stamps + entry n) stamp) kept (entry n) 0 (rw length-set (omega (arith, kept_place))))

        marked : (q : ℕ) (b : Bool) → eqb (entry n) q ≡ b → (b || met_to entry n q) ≡ true → get_or after (stamps + q) 0 ≡ stamp
        marked q true e t = rw (← (eqb-true (entry n) q e)) (here r)
        marked q false e t =
            other (stamps + q) (λ d. absurd (omega (arith, kept_place))) (λ d. absurd (eqb-false (entry n) q e (omega arith)))
            ∙ h.stamped q t

        unmarked : (q : ℕ) (b : Bool) → eqb (entry n) q ≡ b → (b || met_to entry n q) ≡ false → get_or after (stamps + q) 0 < stamp
        unmarked q true e t = absurd (false≢true (sym t))
        unmarked q false e t =
            rw (other (stamps + q) (λ d. absurd (omega (arith, kept_place))) (λ d. absurd (eqb-false (entry n) q e (omega arith)))) (h.clean q t)

  -- the same at place i, as the code has it
  module _ (i kept : ℕ) (work : List ℕ) (ok : (to ≤ from) × (from ≤ end) × (end ≤ stamps)) (below : AllBelow (end - from) (λ k. stamps + entry k) (length work₀))
      (a : from ≤ i) (l : i < end) (h : KeptTo (i - from) kept work) where
    read : get_or work i 0 ≡ entry (i - from)
    read =
        let is : i ≡ from + (i - from) = omega arith in
        ap (λ k. get_or work k 0) is ∙ next_entry (i - from) kept work ok (omega arith) h

    -- the entry and its point's stamp are in the room, and what is kept goes no further than the entry
    pub room : (i < length work) × (stamps + get_or work i 0 < length work) × (kept ≤ i)
    room =
        let b : stamps + entry (i - from) < length work₀ = below (i - from) (omega arith) in
        (omega (arith, ok.2, h.same), omega (arith, read, h.same), omega (arith, h.counted, different_le entry (i - from), ok.0))

    pub again_at : get_or work (stamps + get_or work i 0) 0 ≡ stamp → KeptTo (i - from + 1) kept work
    again_at s = kept_again (i - from) kept work ok (omega arith) h (rw read at s)

    pub new_at : (get_or work (stamps + get_or work i 0) 0 ≡ stamp → ⊥)
        → KeptTo (i - from + 1) (kept + 1) (set (set work (stamps + get_or work i 0) stamp) kept (get_or work i 0))
    new_at s = rw read (kept_new (i - from) kept work ok (omega arith) h (rw read at room.1) (rw read at s))

  -- all were looked at
  pub kept_last : (kept : ℕ) (work : List ℕ) → (to ≤ from) × (from ≤ end) × (end ≤ stamps) → KeptTo (end - from) kept work
      → Same end stamps work₀ work × StampsBelow stamps (stamp + 1) work
  kept_last kept work ok h = (λ i a b. h.ahead i (omega (arith, ok.1)) b, λ q. go q (met_to entry (end - from) q) refl)
    where
      go : (q : ℕ) (b : Bool) → met_to entry (end - from) q ≡ b → get_or work (stamps + q) 0 < stamp + 1
      go q true e = omega (arith, h.stamped q e)
      go q false e = omega (arith, h.clean q e)
