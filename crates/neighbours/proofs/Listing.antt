-- The lists, point by point: those below p stand at their starts, the buckets from p on where they were.
use mathlib.Core.Path.{◌≡◌, refl, ap, sym, ◌∙◌}
use mathlib.Core.List.{List, [], ◌∷◌, ◌++◌}
use mathlib.Core.Bool.{Bool, true, false, cond}
use Prim.Native.Nat.{ℕ, zero, suc, ◌+◌, ◌*◌, ◌-◌, ◌<◌, ◌≤◌}
use native.Mathlib.Decide.{dec_lt}
use native.Mathlib.Omega.{arith}
use lib.Dec.{eqb}
use lib.ListN.{length, get_or, set, length-set}
use lib.Seq.{get_or-set_same, get_or-set_other}
use Rattle.laws.specs.Range.{sum_to}
use Rattle.laws.specs.Sum.{All}
use Rattle.laws.proofs.Sums.{all_append}
use Rattle.laws.proofs.Lists.{all_get}
use Rattle.laws.proofs.Ranges.{sum_next, sum_rises, join_cong, of_join, some_cong}
use Rattle.laws.specs.Mesh.{Triangle}
use Rattle.mesh.specs.Mesh.{triangle_count, triangle_at}
use Rattle.neighbours.specs.Lists.{two_if, others, bucket_to, bucket, met_to, different_to, list_of, start_of, Listed, ListsFit}
use Rattle.neighbours.specs.Steps.{AllBelow, Same, WrittenFrom, StampsBelow, begin_of, BucketsFrom, ListsTo, Filled}
use Rattle.neighbours.proofs.Sized.{begin_next, begins_rise, entries_taken}
use Rattle.neighbours.proofs.Kept.{different_le}

-- the same numbers have the same different ones
different_cong : (f g : ℕ → ℕ) (n : ℕ) → ((k : ℕ) → k < n → f k ≡ g k) → different_to f n ≡ different_to g n
unfolding different_to met_to
different_cong f g n h =
    join_cong n (λ k. cond (met_to f k (f k)) [] (f k ∷ [])) (λ k. cond (met_to g k (g k)) [] (g k ∷ []))
    (λ k l. rw (h k l, some_cong k (λ j. eqb (f j) (g k)) (λ j. eqb (g j) (g k)) (λ j m. ap (λ x. eqb x (g k)) (h j (omega arith)))))

-- every number of a list is below v
abbrev Below : ℕ → List ℕ → Type 0
Below v xs = All (λ x. x < v) xs

below_append : (v : ℕ) (xs ys : List ℕ) → Below v xs → Below v ys → Below v (xs ++ ys)
below_append v = all_append (λ x. x < v)

below_two : (v : ℕ) (b : Bool) (q r : ℕ) → q < v → r < v → Below v (two_if b q r)
below_two v true q r hq hr = (hq, (hr, tt))
below_two v false q r hq hr = tt

pub record ListedTo (ts : List ℕ) (v at size p from to : ℕ) (work : List ℕ) : Type 0 where
  pub same : length work ≡ size
  pub within : p ≤ v
  pub from_is : from ≡ begin_of ts p
  pub to_is : to ≡ start_of ts p
  pub starts : (q : ℕ) → q < p → get_or work (at + q) 0 ≡ start_of ts q
  pub ends : (q : ℕ) → p ≤ q → q < v → get_or work (at + q) 0 ≡ begin_of ts (q + 1)
  pub lists : ListsTo ts p work
  pub buckets : BucketsFrom ts p v work
  pub stamped : StampsBelow (at + v + 1) (p + 1) work

module _ (ts : List ℕ) (v at size : ℕ) (ok : ListsFit ts v at size) where
  all_below : (p : ℕ) → Below v (bucket ts p)
  unfolding bucket_to others
  all_below p =
      of_join (Below v) tt (below_append v) (triangle_count ts) (λ i. others (triangle_at ts i) p)
      (λ i l.
      others_below (triangle_at ts i) (ok.named (3 * i) (omega (arith, ok.threes))) (ok.named (3 * i + 1) (omega (arith, ok.threes))) (ok.named (3 * i + 2) (omega (arith, ok.threes))))
    where
      others_below : (t : Triangle) → t.one < v → t.two < v → t.three < v → Below v (others t p)
      others_below t a b c =
          let x = two_if (eqb t.one p) t.two t.three in
          let y = two_if (eqb t.two p) t.three t.one in
          let z = two_if (eqb t.three p) t.one t.two in
          below_append v x (y ++ z) (below_two v (eqb t.one p) t.two t.three b c)
          (below_append v y z (below_two v (eqb t.two p) t.three t.one c a) (below_two v (eqb t.three p) t.one t.two a b))

  pub bucket_below : (p j : ℕ) → j < length (bucket ts p) → get_or (bucket ts p) j 0 < v
  bucket_below p j l = all_get (λ x. x < v) (bucket ts p) j 0 (all_below p) l

  -- a list is no longer than its bucket, so it starts no later
  list_le : (p : ℕ) → length (list_of ts p) ≤ length (bucket ts p)
  unfolding list_of
  list_le p = different_le (λ k. get_or (bucket ts p) k 0) (length (bucket ts p))

  starts_le : (p : ℕ) → start_of ts p ≤ begin_of ts p
  unfolding start_of begin_of sum_to
  starts_le zero = omega arith
  starts_le (suc p) = omega (arith, starts_le p, list_le p)

  pub start_next : (p : ℕ) → start_of ts (p + 1) ≡ start_of ts p + length (list_of ts p)
  unfolding start_of
  start_next p = sum_next p (λ q. length (list_of ts q))

  starts_rise : (q p : ℕ) → q < p → start_of ts q + length (list_of ts q) ≤ start_of ts p
  unfolding start_of
  starts_rise q p l = omega (arith, start_next q, sum_rises (q + 1) p (λ k. length (list_of ts k)) (omega arith))

  pub starts_most : (p : ℕ) → p ≤ v → start_of ts p ≤ at
  unfolding begin_of
  starts_most p l = omega (arith, starts_le p, sum_rises p v (λ q. length (bucket ts q)) l, entries_taken ts v at size ok)

  abbrev stamps : ℕ
  stamps = at + v + 1

  abbrev To : ℕ → ℕ → ℕ → List ℕ → Type 0
  To p from to work = ListedTo ts v at size p from to work

  pub listed_first : (work : List ℕ) → length work ≡ size → Filled ts v at (bucket ts) work → StampsBelow stamps 1 work → To 0 0 0 work
  unfolding begin_of start_of sum_to
  listed_first work same h clean =
      record {
        same = same;
        within = omega arith;
        from_is = refl;
        to_is = refl;
        starts = λ q l. absurd (omega arith);
        ends = λ q a l. h.next q l ∙ sym (begin_next ts q);
        lists = λ q l. absurd (omega arith);
        buckets = λ q a l j m. h.held q j l m;
        stamped = λ q. clean q;
      }

  -- one point more: its start is stored where its bucket's end stood, and the different ones are kept
  module _ (p from to : ℕ) (work : List ℕ) (l : p < v) (h : To p from to work) where
    abbrev end : ℕ
    end = get_or work (at + p) 0

    abbrev stored : List ℕ
    stored = set work (at + p) to

    end_is : end ≡ from + length (bucket ts p)
    end_is = omega (arith, h.ends p (omega arith) l, begin_next ts p, h.from_is)

    -- starts and buckets end before the stamps
    pub places : (to ≤ from) × (from ≤ end) × (end ≤ at)
    places = (
      omega (arith, h.to_is, h.from_is, starts_le p),
      omega (arith, end_is),
      omega (arith, end_is, h.from_is, begins_rise ts p v l, entries_taken ts v at size ok),
    )

    kept_elsewhere : (i : ℕ) → (i ≡ at + p → ⊥) → get_or stored i 0 ≡ get_or work i 0
    kept_elsewhere i d = get_or-set_other work (at + p) i to 0 d

    -- the bucket's entries are still there
    entry_is : (k : ℕ) → k < length (bucket ts p) → get_or stored (from + k) 0 ≡ get_or (bucket ts p) k 0
    entry_is k m =
        kept_elsewhere (from + k) (λ e. absurd (omega (arith, places, end_is)))
        ∙ ap (λ b. get_or work (b + k) 0) h.from_is
        ∙ h.buckets p (omega arith) l k m

    pub keep_ready : ((to ≤ from) × (from ≤ end) × (end ≤ stamps))
        × (AllBelow (end - from) (λ k. stamps + get_or stored (from + k) 0) (length stored) × StampsBelow stamps (p + 1) stored)
    keep_ready =
        let o = places in (
          (o.0, o.1, omega (arith, o.2)),
          (
            λ k m.
                let b : k < length (bucket ts p) = omega (arith, end_is) in
                rw length-set (omega (arith, entry_is k b, bucket_below p k b, ok.room, h.same)),
            λ q. rw (kept_elsewhere (stamps + q) (λ e. absurd (omega arith))) (h.stamped q),
          ),
        )

    kept_list : different_to (λ k. get_or stored (from + k) 0) (end - from) ≡ list_of ts p
    unfolding list_of
    kept_list =
        let n : end - from ≡ length (bucket ts p) = omega (arith, end_is) in
        rw n (different_cong (λ k. get_or stored (from + k) 0) (λ k. get_or (bucket ts p) k 0) (length (bucket ts p)) entry_is)

    pub listed_next : (kept : ℕ) (after : List ℕ) → length after ≡ length stored
        → kept ≡ to + length (different_to (λ k. get_or stored (from + k) 0) (end - from))
        → WrittenFrom to (different_to (λ k. get_or stored (from + k) 0) (end - from)) after
        → Same 0 to stored after → Same end stamps stored after → StampsBelow stamps (p + 1 + 1) after
        → To (p + 1) end kept after
    listed_next kept after long counted written below behind clean =
        record {
          same = long ∙ length-set work (at + p) to ∙ h.same;
          within = omega arith;
          from_is = h.ends p (omega arith) l;
          to_is = (rw kept_list at counted) ∙ omega (arith, h.to_is, start_next p);
          starts = λ q m. start_of_lem q m (dec_lt q p);
          ends = λ q a m. beside (at + q) (omega (arith, places)) (omega arith) (λ e. absurd (omega arith)) ∙ h.ends q (omega arith) m;
          lists = λ q m. list_of_lem q m (dec_lt q p);
          buckets = λ q a m j b. beside (begin_of ts q + j) (omega (arith, begins_rise ts p q (omega arith), h.from_is, end_is)) (omega (arith, in_entries q m)) (λ e. absurd (omega (arith, in_entries q m))) ∙ h.buckets q (omega arith) m j b;
          stamped = λ q. clean q;
        }
      where
        in_entries : (q : ℕ) → q < v → begin_of ts q + length (bucket ts q) ≤ at
        in_entries q m = omega (arith, begins_rise ts q v m, entries_taken ts v at size ok)

        -- behind the bucket's end nothing changed but the start that was stored
        beside : (i : ℕ) → end ≤ i → i < stamps → (i ≡ at + p → ⊥) → get_or after i 0 ≡ get_or work i 0
        beside i a b d = behind i a b ∙ kept_elsewhere i d

        start_of_lem : (q : ℕ) → q < p + 1 → Dec (q < p) → get_or after (at + q) 0 ≡ start_of ts q
        start_of_lem q m (yes b) = beside (at + q) (omega (arith, places)) (omega arith) (λ e. absurd (omega arith)) ∙ h.starts q b
        start_of_lem q m (no b) =
            let is : q ≡ p = omega arith in
            rw is (behind (at + p) (omega (arith, places)) (omega arith) ∙ get_or-set_same work (at + p) to 0 (omega (arith, ok.room, h.same)) ∙ h.to_is)

        list_of_lem : (q : ℕ) → q < p + 1 → Dec (q < p) → WrittenFrom (start_of ts q) (list_of ts q) after
        list_of_lem q m (yes b) j n =
            let low : start_of ts q + j < to = omega (arith, starts_rise q p b, h.to_is) in
            below (start_of ts q + j) (omega arith) low
            ∙ kept_elsewhere (start_of ts q + j) (λ e. absurd (omega (arith, places)))
            ∙ h.lists q b j n
        list_of_lem q m (no b) j n =
            let is : q ≡ p = omega arith in
            rw (is, ← h.to_is) ((rw kept_list at written) j (rw is at n))

  -- all points: the last start is where the next list would begin
  pub listed_last : (from to : ℕ) (work : List ℕ) → To v from to work → Listed ts v at (set work (at + v) to)
  listed_last from to work h =
      record {
        starts = λ p l. start_of_lem p l (dec_lt p v);
        entries = λ p j l m.
            get_or-set_other work (at + v) (start_of ts p + j) to 0 (λ e. absurd (omega (arith, starts_rise p v l, starts_le v, entries_taken ts v at size ok)))
            ∙ h.lists p l j m;
      }
    where
      start_of_lem : (p : ℕ) → p ≤ v → Dec (p < v) → get_or (set work (at + v) to) (at + p) 0 ≡ start_of ts p
      start_of_lem p l (yes b) = get_or-set_other work (at + v) (at + p) to 0 (λ e. absurd (omega arith)) ∙ h.starts p b
      start_of_lem p l (no b) =
          let is : p ≡ v = omega arith in
          rw is (get_or-set_same work (at + v) to 0 (omega (arith, ok.room, h.same)) ∙ h.to_is)

  -- every point in a list is below v
  pub list_below : (p j : ℕ) → j < length (list_of ts p) → get_or (list_of ts p) j 0 < v
  unfolding list_of different_to
  list_below p j l = all_get (λ x. x < v) (list_of ts p) j 0 all l
    where
      entry : ℕ → ℕ
      entry k = get_or (bucket ts p) k 0

      one : (b : Bool) (x : ℕ) → x < v → Below v (cond b [] (x ∷ []))
      one true x h = tt
      one false x h = (h, tt)

      all : Below v (list_of ts p)
      all =
          of_join (Below v) tt (below_append v) (length (bucket ts p))
          (λ k. cond (met_to entry k (entry k)) [] (entry k ∷ [])) (λ k l. one (met_to entry k (entry k)) (entry k) (bucket_below p k l))
