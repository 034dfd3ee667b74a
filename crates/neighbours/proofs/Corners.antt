-- The buckets, triangle by triangle: each corner puts the other two into its bucket.
use mathlib.Core.Path.{◌≡◌, ap, ◌∙◌}
use mathlib.Core.List.{List, ◌++◌, append_assoc}
use Prim.Native.Nat.{ℕ, ◌+◌, ◌*◌, ◌<◌, ◌≤◌}
use native.Mathlib.Omega.{arith}
use lib.Dec.{eqb}
use lib.ListN.{length, get_or, length-append}
use borrow.Author.Tests.{ne_eqb}
use Rattle.laws.specs.Range.{sum_to, join_to}
use Rattle.laws.proofs.Ranges.{join_next, length_join, sum_rises, sum_cong, count_none}
use Rattle.grid.specs.Limits.{most_triangles}
use Rattle.mesh.specs.Mesh.{triangle_count, triangle_at}
use Rattle.neighbours.specs.Lists.{two_if, others, bucket_to, bucket, ListsFit}
use Rattle.neighbours.specs.Steps.{From, HoldsTo, StampsBelow, size_to, begin_of, Filled, put_two}
use Rattle.neighbours.proofs.Sized.{bucket_size, entries_taken}
use Rattle.neighbours.proofs.Filled.{place_free, put_filled, put_stamps, length_put}

bucket_next : (ts : List ℕ) (n p : ℕ) → bucket_to ts (n + 1) p ≡ bucket_to ts n p ++ others (triangle_at ts n) p
unfolding bucket_to
bucket_next ts n p = join_next n (λ i. others (triangle_at ts i) p)

bucket_rises : (ts : List ℕ) (n p : ℕ) → n ≤ triangle_count ts → length (bucket_to ts n p) ≤ length (bucket ts p)
unfolding bucket_to
bucket_rises ts n p l =
    rw (length_join n (λ i. others (triangle_at ts i) p), length_join (triangle_count ts) (λ i. others (triangle_at ts i) p))
    (sum_rises n (triangle_count ts) (λ i. length (others (triangle_at ts i) p)) l)

-- the room while it is filled
pub record Stage (ts : List ℕ) (v at size : ℕ) (entries : ℕ → List ℕ) (work : List ℕ) : Type 0 where
  pub same : length work ≡ size
  pub filled : Filled ts v at entries work
  pub stamps : StampsBelow (at + v + 1) 1 work

abbrev with_two : (ℕ → List ℕ) → ℕ → ℕ → ℕ → ℕ → List ℕ
with_two entries p q r k = entries k ++ two_if (eqb p k) q r

-- the buckets when the first of triangle i's corners has put, and the second
abbrev after_one : List ℕ → ℕ → ℕ → List ℕ
after_one ts i = with_two (bucket_to ts i) (get_or ts (3 * i) 0) (get_or ts (3 * i + 1) 0) (get_or ts (3 * i + 2) 0)

abbrev after_two : List ℕ → ℕ → ℕ → List ℕ
after_two ts i = with_two (after_one ts i) (get_or ts (3 * i + 1) 0) (get_or ts (3 * i + 2) 0) (get_or ts (3 * i) 0)

module _ (ts : List ℕ) (v at size : ℕ) (ok : ListsFit ts v at size) where
  abbrev Fits : (ℕ → List ℕ) → Type 0
  Fits entries = (k : ℕ) → length (entries k) ≤ length (bucket ts k)

  abbrev Holds : (ℕ → List ℕ) → List ℕ → Type 0
  Holds entries work = Stage ts v at size entries work

  module _ (entries : ℕ → List ℕ) (p q r : ℕ) (work : List ℕ) (l : p < v) (fits : Fits (with_two entries p q r)) (h : Holds entries work) where
    taken : begin_of ts v ≤ at
    taken = omega (arith, entries_taken ts v at size ok)

    in_room : at + v ≤ length work
    in_room = omega (arith, ok.room, h.same)

    -- what putting two asks
    stage_ready : (at ≤ 6 * most_triangles) × ((at + p < length work) × (get_or work (at + p) 0 + 2 ≤ at))
    stage_ready = (omega (arith, ok.entered, ok.threes, ok.triangles), (omega (arith, in_room), place_free ts v at taken entries p q r work l in_room fits h.filled))

    stage_next : (after : List ℕ) → after ≡ put_two at p q r work → Holds (with_two entries p q r) after
    stage_next after is =
        rw is (record {
          same = length_put ts v at taken entries p q r work l in_room fits h.filled ∙ h.same;
          filled = put_filled ts v at taken entries p q r work l in_room fits h.filled;
          stamps = put_stamps ts v at taken entries p q r work l in_room fits h.filled 1 h.stamps;
        })

  -- one triangle
  module _ (i : ℕ) (l : i < triangle_count ts) where
    abbrev a : ℕ
    a = get_or ts (3 * i) 0

    abbrev b : ℕ
    b = get_or ts (3 * i + 1) 0

    abbrev c : ℕ
    c = get_or ts (3 * i + 2) 0

    -- the buckets after no corner, one, two and all three
    abbrev none : ℕ → List ℕ
    none = bucket_to ts i

    abbrev one : ℕ → List ℕ
    one = after_one ts i

    abbrev two : ℕ → List ℕ
    two = after_two ts i

    abbrev three : ℕ → List ℕ
    three = with_two two c a b

    pub all_three : (p : ℕ) → three p ≡ bucket_to ts (i + 1) p
    unfolding others
    all_three p = rw (bucket_next ts i p, append_assoc, append_assoc)

    fits_three : Fits three
    fits_three p = rw (all_three p) (bucket_rises ts (i + 1) p (omega arith))

    fits_two : Fits two
    fits_two p = omega (arith, fits_three p, length-append (two p) (two_if (eqb c p) a b))

    fits_one : Fits one
    fits_one p = omega (arith, fits_two p, length-append (one p) (two_if (eqb b p) c a))

    corner_below : (j : ℕ) → j < 3 → get_or ts (3 * i + j) 0 < v
    corner_below j m = ok.named (3 * i + j) (omega (arith, ok.threes))

    a_below : a < v
    a_below = ok.named (3 * i) (omega (arith, ok.threes))

    -- the three corners, one after the other
    module _ (w : List ℕ) (h : Holds none w) where
      pub first_ready : (at ≤ 6 * most_triangles) × ((at + a < length w) × (get_or w (at + a) 0 + 2 ≤ at))
      first_ready = stage_ready none a b c w a_below fits_one h

      pub first_put : (after : List ℕ) → after ≡ put_two at a b c w → Holds one after
      first_put = stage_next none a b c w a_below fits_one h

    module _ (w : List ℕ) (h : Holds one w) where
      pub second_ready : (at ≤ 6 * most_triangles) × ((at + b < length w) × (get_or w (at + b) 0 + 2 ≤ at))
      second_ready = stage_ready one b c a w (corner_below 1 (omega arith)) fits_two h

      pub second_put : (after : List ℕ) → after ≡ put_two at b c a w → Holds two after
      second_put = stage_next one b c a w (corner_below 1 (omega arith)) fits_two h

    module _ (w : List ℕ) (h : Holds two w) where
      pub third_ready : (at ≤ 6 * most_triangles) × ((at + c < length w) × (get_or w (at + c) 0 + 2 ≤ at))
      third_ready = stage_ready two c a b w (corner_below 2 (omega arith)) fits_three h

      pub third_put : (after : List ℕ) → after ≡ put_two at c a b w → Holds (bucket_to ts (i + 1)) after
      third_put after e =
          let s = stage_next two c a b w (corner_below 2 (omega arith)) fits_three h after e in
          record {
            same = s.same;
            stamps = s.stamps;
            filled =
                record {
                  next = λ p m. s.filled.next p m ∙ ap (λ xs. begin_of ts p + length xs) (all_three p);
                  held = λ p j m n. rw (← (all_three p)) (s.filled.held p j m (rw (← (all_three p)) at n));
                };
          }

  -- the sizes summed up: empty buckets, and no stamp
  stamps_zero : (p : ℕ) → v ≤ p → size_to ts (length ts) p ≡ 0
  stamps_zero p l =
      ap (λ n. 2 * n) (count_none (length ts) (λ k. eqb (get_or ts k 0) p) (λ k m. ne_eqb (get_or ts k 0) p (λ e. absurd (omega (arith, ok.named k m)))))

  pub stage_first : (sized begun : List ℕ) → length begun ≡ size → From at (size_to ts (length ts)) sized
      → HoldsTo v at (λ p. sum_to p (λ q. get_or sized (at + q) 0)) begun → From (at + v) (λ i. get_or sized (at + v + i) 0) begun
      → Holds (bucket_to ts 0) begun
  unfolding begin_of bucket_to join_to
  stage_first sized begun same sizes begins rest =
      record {
        same = same;
        filled =
            record {
              next = λ p m. begins p m ∙ sum_cong p (λ q. get_or sized (at + q) 0) (λ q. length (bucket ts q)) (λ q n. sizes q ∙ bucket_size ts v at size ok q) ∙ omega arith;
              held = λ p j m n. absurd (omega arith);
            };
        stamps = λ q. stamp q;
      }
    where
      stamp : (q : ℕ) → get_or begun (at + v + 1 + q) 0 < 1
      stamp q =
          let here : at + v + 1 + q ≡ at + v + (1 + q) = omega arith in
          let there : at + v + (1 + q) ≡ at + (v + (1 + q)) = omega arith in
          let e = rest (1 + q) ∙ ap (λ i. get_or sized i 0) there ∙ sizes (v + (1 + q)) ∙ stamps_zero (v + (1 + q)) (omega arith) in
          rw here (omega (arith, e))

  -- what summing the sizes up asks
  pub begin_ready : (sized : List ℕ) → length sized ≡ size → From at (size_to ts (length ts)) sized
      → (at + v ≤ length sized) × ((at ≤ 6 * most_triangles) × (sum_to v (λ p. get_or sized (at + p) 0) ≤ at))
  unfolding begin_of
  begin_ready sized same sizes =
      let e : sum_to v (λ p. get_or sized (at + p) 0) ≡ begin_of ts v
      = sum_cong v (λ p. get_or sized (at + p) 0) (λ q. length (bucket ts q)) (λ q n. sizes q ∙ bucket_size ts v at size ok q) in
      (omega (arith, ok.room), (omega (arith, ok.entered, ok.threes, ok.triangles), omega (arith, entries_taken ts v at size ok)))
