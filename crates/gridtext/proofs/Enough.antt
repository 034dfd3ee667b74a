-- The answer to a text depends on its first bytes only: as many as line 1 and the most samples can have, and one more.
use mathlib.Core.Path.{◌≡◌, refl, ap, sym, ◌∙◌}
use mathlib.Core.List.{List, [], ◌∷◌}
use mathlib.Core.Bool.{Bool, true, false, ◌&&◌}
use Prim.Native.Nat.{ℕ, zero, suc, ◌+◌, ◌*◌, ◌-◌, ◌≤◌, ◌<◌}
use native.Mathlib.Nat.{le_refl, mul-suc}
use native.Mathlib.Omega.{arith}
use lib.Dec.{eqb, leb}
use borrow.Author.Tests.{leb-true, eqb-true, eqb-false}
use lib.ListN.{take}
use lib.Seq.{take-take}
use Rattle.grid.specs.Limits.{most_small, most_number}
use Rattle.lines.specs.Decimal.{digit_zero, is_digit}
use Rattle.reading.specs.Reading.{Got, bad, got, after, digits_on, read_number, ended_by, read_field, read_row, GotRows, line_then, read_rows}
use Rattle.lines.specs.Line.{tab, end_of}
use Rattle.gridtext.specs.Grid.{longest_head, letter_g, head_of, read_head, head_number, with_head, read_grid, most_read}
use Rattle.gridtext.specs.declared.Head.{Head}
use Rattle.lines.proofs.Decimals.{of_digit}
use Rattle.gridtext.proofs.Checks.{passed}

-- what was read, with only the first k bytes of the rest
unfoldable cut : {A : Type 0} → ℕ → Got A → Got A
cut k bad = bad
cut k (got a rest) = got a (take k rest)

-- the first m bytes are enough to read a piece and k bytes of the rest
abbrev Enough : {A : Type 0} → ℕ → ℕ → (List ℕ → Got A) → Type 0
Enough m k read = (bs : List ℕ) → cut k (read (take m bs)) ≡ cut k (read bs)

got_enough : {A : Type 0} (m k : ℕ) (a : A) → k ≤ m → Enough m k (got a)
unfolding cut
got_enough m k a l bs = rw (take-take k m bs l)

-- a piece and then another
after_enough : {A B : Type 0} (m j k : ℕ) (read : List ℕ → Got A) (next : A → List ℕ → Got B) → Enough m j read → ((a : A) → Enough j k (next a)) → Enough m k (λ bs. after next (read bs))
unfolding cut after
after_enough {A = A} m j k read next first second bs =
    sym (rest_cut (read (take m bs))) ∙ ap (λ r. cut k (after next r)) (first bs) ∙ rest_cut (read bs)
  where
    rest_cut : (r : Got A) → cut k (after next (cut j r)) ≡ cut k (after next r)
    rest_cut bad = refl
    rest_cut (got a rest) = second a rest

-- n with j zeros behind it, the least that it becomes with j digits more
unfoldable zeros : ℕ → ℕ → ℕ
zeros zero n = n
zeros (suc j) n = zeros j (10 * n)

zeros_more : (j n m : ℕ) → n ≤ m → zeros j n ≤ zeros j m
unfolding zeros
zeros_more zero n m l = l
zeros_more (suc j) n m l = zeros_more j (10 * n) (10 * m) (omega arith)

-- one byte behind n
digit_enough : (most m k n b : ℕ) (bs : List ℕ) → k ≤ m → (10 * n + (b - digit_zero) ≤ most → Enough m (suc k) (digits_on most (10 * n + (b - digit_zero))))
    → cut (suc k) (digits_on most n (b ∷ take m bs)) ≡ cut (suc k) (digits_on most n (b ∷ bs))
unfolding digits_on cut
digit_enough most m k n b bs l further = go (is_digit b) refl (leb (10 * n + (b - digit_zero)) most) refl
  where
    go : (t : Bool) → is_digit b ≡ t → (u : Bool) → leb (10 * n + (b - digit_zero)) most ≡ u → cut (suc k) (digits_on most n (b ∷ take m bs)) ≡ cut (suc k) (digits_on most n (b ∷ bs))
    go true e true f = rw (e, f) (further (leb-true (10 * n + (b - digit_zero)) most f) bs)
    go true e false f = rw (e, f)
    go false e u f = rw (e, take-take k m bs l)

-- the digits behind n, if more than j are too many
digits_enough : (most j m k n : ℕ) → suc k + j ≤ m → most < zeros (suc j) n → Enough m (suc k) (digits_on most n)
unfolding zeros
digits_enough most j zero k n l o bs = absurd (omega arith)
digits_enough most j (suc m) k n l o [] = refl
digits_enough most zero (suc m) k n l o (b ∷ bs) = digit_enough most m k n b bs (omega arith) (λ h. absurd (omega arith))
digits_enough most (suc j) (suc m) k n l o (b ∷ bs) =
    let z = zeros_more j (10 * (10 * n)) (10 * (10 * n + (b - digit_zero))) (omega arith) in
    digit_enough most m k n b bs (omega arith) (λ h. digits_enough most j m k (10 * n + (b - digit_zero)) (omega arith) (omega arith))

-- a number of at most five digits, and the byte behind it
number_enough : (m k : ℕ) → k + 6 ≤ m → Enough m (suc k) (read_number most_number)
unfolding read_number zeros
number_enough zero k l bs = absurd (omega arith)
number_enough (suc m) k l [] = refl
number_enough (suc m) k l (b ∷ bs) = go (eqb b digit_zero) refl (is_digit b) refl
  where
    go : (t : Bool) → eqb b digit_zero ≡ t → (u : Bool) → is_digit b ≡ u → cut (suc k) (read_number most_number (b ∷ take m bs)) ≡ cut (suc k) (read_number most_number (b ∷ bs))
    go true e u f = rw e (got_enough m (suc k) 0 (omega arith) bs)
    go false e true f =
        let s = of_digit b f in
        let z = eqb-false b digit_zero e in
        rw (e, f) (digits_enough most_number 4 m k (b - digit_zero) (omega arith) (omega arith) bs)
    go false e false f = rw (e, f)

end_enough : (end k n : ℕ) → Enough (suc k) k (ended_by end n)
unfolding ended_by
end_enough end k n [] = refl
end_enough end k n (b ∷ bs) = go (eqb b end) refl
  where
    go : (t : Bool) → eqb b end ≡ t → cut k (ended_by end n (b ∷ take k bs)) ≡ cut k (ended_by end n (b ∷ bs))
    go true e = rw e (got_enough k k n (le_refl k) bs)
    go false e = rw e

field_enough : (end m k : ℕ) → k + 6 ≤ m → Enough m k (read_field most_number end)
unfolding read_field
field_enough end m k l = after_enough m (suc k) k (read_number most_number) (ended_by end) (number_enough m k l) (end_enough end k)

-- a line of w numbers
row_enough : (w m k : ℕ) → k + 6 * w ≤ m → Enough m k (read_row most_number w)
unfolding read_row
row_enough zero m k l = got_enough m k [] (omega arith)
row_enough (suc w) m k l =
    let j : ℕ = k + 6 * w in
    after_enough m j k (read_field most_number (end_of w)) (λ n rest. after (λ ns rest. got (n ∷ ns) rest) (read_row most_number w rest))
    (field_enough (end_of w) m j (omega arith))
    (λ n. after_enough j k k (read_row most_number w) (λ ns rest. got (n ∷ ns) rest) (row_enough w j k (le_refl j)) (λ ns. got_enough k k (n ∷ ns) (le_refl k)))

-- line 1
head_enough : (m k : ℕ) → k + longest_head ≤ m → Enough m k read_head
unfolding read_head
head_enough zero k l bs = absurd (omega arith)
head_enough (suc zero) k l bs = absurd (omega arith)
head_enough (suc (suc m)) k l [] = refl
head_enough (suc (suc m)) k l (b ∷ []) = refl
head_enough (suc (suc m)) k l (b ∷ c ∷ bs) = go (eqb b letter_g && eqb c tab) refl
  where
    go : (t : Bool) → eqb b letter_g && eqb c tab ≡ t → cut k (read_head (b ∷ c ∷ take m bs)) ≡ cut k (read_head (b ∷ c ∷ bs))
    go true e =
        rw e (after_enough m k k (read_row most_number 6) (λ ns rest. got (head_of ns) rest) (row_enough 6 m k (omega arith)) (λ ns. got_enough k k (head_of ns) (le_refl k)) bs)
    go false e = rw e

-- a line and those after it
line_enough : (line m j : ℕ) (read : List ℕ → Got (List ℕ)) (others : List ℕ → GotRows) → Enough m j read → ((bs : List ℕ) → others (take j bs) ≡ others bs) → (bs : List ℕ) → line_then line others (read (take m bs)) ≡ line_then line others (read bs)
unfolding cut line_then
line_enough line m j read others first second bs =
    sym (rest_cut (read (take m bs))) ∙ ap (line_then line others) (first bs) ∙ rest_cut (read bs)
  where
    rest_cut : (r : Got (List ℕ)) → line_then line others (cut j r) ≡ line_then line others r
    rest_cut bad = refl
    rest_cut (got ns rest) = rw (second rest)

-- c lines of w numbers; one byte more shows whether bytes follow them
rows_enough : (w c line m : ℕ) → 6 * (w * c) + 1 ≤ m → (bs : List ℕ) → read_rows most_number w c line (take m bs) ≡ read_rows most_number w c line bs
unfolding read_rows
rows_enough w zero line zero l bs = absurd (omega arith)
rows_enough w zero line (suc m) l [] = refl
rows_enough w zero line (suc m) l (b ∷ bs) = refl
rows_enough w (suc c) line m l bs =
    let j : ℕ = 6 * (w * c) + 1 in
    line_enough line m j (read_row most_number w) (read_rows most_number w c (line + 1)) (row_enough w m j (omega (arith, mul-suc w c))) (rows_enough w c (line + 1) j (le_refl j)) bs

-- after line 1: its numbers refuse, or there are no more samples than `most_small`
rest_enough : (room : List ℕ) (r : Got Head) → with_head room (cut (6 * most_small + 1) r) ≡ with_head room r
unfolding cut with_head
rest_enough room bad = refl
rest_enough room (got h rest) = go (eqb (head_number h) 0) refl
  where
    go : (t : Bool) → eqb (head_number h) 0 ≡ t → with_head room (got h (take (6 * most_small + 1) rest)) ≡ with_head room (got h rest)
    go true e =
        let few = (passed h (eqb-true (head_number h) 0 e)).1 in
        rw (e, rows_enough h.nx (h.ny * h.nz) 2 (6 * most_small + 1) (omega arith) rest)
    go false e = rw e

-- a text and its first bytes have the same answer
pub enough_read : (input room : List ℕ) → read_grid (take most_read input) room ≡ read_grid input room
unfolding read_grid
enough_read input room =
    sym (rest_enough room (read_head (take most_read input))) ∙ ap (with_head room) (head_enough most_read (6 * most_small + 1) (omega arith) input) ∙ rest_enough room (read_head input)
