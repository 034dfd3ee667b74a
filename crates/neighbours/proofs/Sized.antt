-- How long the buckets are, and that together they take all the entries.
use mathlib.Core.Path.{◌≡◌, refl, ap, sym, ◌∙◌}
use mathlib.Core.List.{List}
use mathlib.Core.Bool.{Bool, true, false}
use Prim.Native.Nat.{ℕ, zero, suc, ◌+◌, ◌*◌, ◌<◌, ◌≤◌}
use native.Mathlib.Nat.{add-zero}
use native.Mathlib.Omega.{arith}
use lib.Dec.{eqb}
use lib.ListN.{length, get_or, length-append}
use Rattle.laws.specs.Range.{sum_to, count_to, one_if}
use Rattle.laws.specs.Mesh.{Triangle}
use Rattle.laws.proofs.Ranges.{sum_next, sum_cong, sum_blocks, sum_rises, length_join}
use Rattle.laws.proofs.Parted.{parted}
use Rattle.mesh.specs.Mesh.{triangle_count, triangle_at}
use Rattle.neighbours.specs.Lists.{two_if, others, bucket_to, bucket, ListsFit}
use Rattle.neighbours.specs.Steps.{size_to, begin_of}

length_two : (b : Bool) (q r : ℕ) → length (two_if b q r) ≡ 2 * one_if b
length_two true q r = refl
length_two false q r = refl

length_others : (t : Triangle) (p : ℕ) → length (others t p) ≡ 2 * (one_if (eqb t.one p) + one_if (eqb t.two p) + one_if (eqb t.three p))
unfolding others
length_others t p =
    rw (length-append, length-append)
    (omega (arith, length_two (eqb t.one p) t.two t.three, length_two (eqb t.two p) t.three t.one, length_two (eqb t.three p) t.one t.two))

-- twice a sum
sum_twice : (n : ℕ) (f : ℕ → ℕ) → sum_to n (λ i. 2 * f i) ≡ 2 * sum_to n f
unfolding sum_to
sum_twice zero f = refl
sum_twice (suc n) f = omega (arith, sum_twice n f)

-- three corners a triangle
sized_threes : (ts : List ℕ) (n p : ℕ) → size_to ts (3 * n) p ≡ length (bucket_to ts n p)
unfolding count_to bucket_to sum_to
sized_threes ts n p =
    ap (λ k. 2 * k) (sum_blocks 3 n (λ k. one_if (eqb (get_or ts k 0) p)))
    ∙ sym (sum_twice n (λ i. sum_to 3 (λ j. one_if (eqb (get_or ts (3 * i + j) 0) p))))
    ∙ sum_cong n (λ i. 2 * sum_to 3 (λ j. one_if (eqb (get_or ts (3 * i + j) 0) p))) (λ i. length (others (triangle_at ts i) p)) (λ i l. sym (length_others (triangle_at ts i) p ∙ three i))
    ∙ sym (length_join n (λ i. others (triangle_at ts i) p))
  where
    three : (i : ℕ) → 2 * (one_if (eqb (get_or ts (3 * i) 0) p) + one_if (eqb (get_or ts (3 * i + 1) 0) p) + one_if (eqb (get_or ts (3 * i + 2) 0) p))
        ≡ 2 * sum_to 3 (λ j. one_if (eqb (get_or ts (3 * i + j) 0) p))
    three i = rw (add-zero (3 * i)) (omega arith)

module _ (ts : List ℕ) (v at room : ℕ) (ok : ListsFit ts v at room) where
  pub bucket_size : (p : ℕ) → size_to ts (length ts) p ≡ length (bucket ts p)
  bucket_size p = ap (λ n. size_to ts n p) ok.threes ∙ sized_threes ts (triangle_count ts) p

  -- the buckets take all the entries, since each corner is in one
  pub entries_taken : begin_of ts v ≡ at
  unfolding begin_of
  entries_taken =
      sum_cong v (λ q. length (bucket ts q)) (size_to ts (length ts)) (λ q l. sym (bucket_size q))
      ∙ sum_twice v (λ q. count_to (length ts) (λ k. eqb (get_or ts k 0) q))
      ∙ ap (λ n. 2 * n) (parted v (length ts) (λ k. get_or ts k 0) ok.named)
      ∙ sym ok.entered

module _ (ts : List ℕ) where
  pub begin_next : (p : ℕ) → begin_of ts (p + 1) ≡ begin_of ts p + length (bucket ts p)
  unfolding begin_of
  begin_next p = sum_next p (λ q. length (bucket ts q))

  -- a bucket ends before those of all points above begin
  pub begins_rise : (p q : ℕ) → p < q → begin_of ts p + length (bucket ts p) ≤ begin_of ts q
  unfolding begin_of
  begins_rise p q l =
      omega (arith, begin_next p, sum_rises (p + 1) q (λ k. length (bucket ts k)) (omega arith))
