-- Where a case's numbers stand in the two tables.
use mathlib.Core.Path.{◌≡◌, refl, ap, ◌∙◌}
use mathlib.Core.List.{List, [], ◌∷◌, flatten}
use Prim.Native.Nat.{ℕ, ◌+◌, ◌*◌, ◌<◌}
use native.Mathlib.Omega.{arith}
use lib.ListN.{length, get_or}
use Rattle.laws.specs.Threes.{three_at}
use Rattle.laws.proofs.Rows.{entry_at}
use Rattle.cube.specs.Answer.{case_length, count, count_table, corners_at, answer, row, table}
use Rattle.cube.specs.Cube.{cases}

pub length_row : (k : ℕ) → length (row k) ≡ case_length
unfolding row flatten answer corners_at
length_row k = refl

pub entry : (k i : ℕ) → k < cases → i < case_length → get_or table (k * case_length + i) 0 ≡ get_or (row k) i 0
unfolding table
entry k i h l = entry_at case_length row length_row cases k i 0 h l

entry_from : (k i at : ℕ) → k < cases → i < case_length → at ≡ k * case_length + i → get_or table at 0 ≡ get_or (row k) i 0
entry_from k i at h l e = ap (λ n. get_or table n 0) e ∙ entry k i h l

pub three_at_lem : (k i at : ℕ) → k < cases → i + 2 < case_length → at ≡ k * case_length + i → three_at table at ≡ three_at (row k) i
three_at_lem k i at h l e =
    rw (entry_from k i at h (omega arith) e, entry_from k (i + 1) (at + 1) h (omega arith) (omega arith), entry_from k (i + 2) (at + 2) h (omega arith) (omega arith))

pub count_at : (k : ℕ) → k < cases → get_or count_table k 0 ≡ count k
unfolding count_table
count_at k h =
    let e : k ≡ k * 1 + 0 = omega arith in
    ap (λ n. get_or count_table n 0) e ∙ entry_at 1 (λ k. count k ∷ []) (λ k. refl) cases k 0 0 h (omega arith)

-- five readings of three are the case's answer
pub answer_read : (k : ℕ) → k < cases → (rows a b c d e : List ℕ) → rows ≡ table → a ≡ three_at rows (k * case_length) → b ≡ three_at rows (k * case_length + 3)
    → c ≡ three_at rows (k * case_length + 6) → d ≡ three_at rows (k * case_length + 9) → e ≡ three_at rows (k * case_length + 12) → a ∷ b ∷ c ∷ d ∷ e ∷ [] ≡ answer k
unfolding row flatten answer corners_at
answer_read k h rows a b c d e t p q r s u =
    rw (p, q, r, s, u, t)
    (rw (
      three_at_lem k 0 (k * case_length) h (omega arith) (omega arith),
      three_at_lem k 3 (k * case_length + 3) h (omega arith) refl,
      three_at_lem k 6 (k * case_length + 6) h (omega arith) refl,
      three_at_lem k 9 (k * case_length + 9) h (omega arith) refl,
      three_at_lem k 12 (k * case_length + 12) h (omega arith) refl,
    ))
