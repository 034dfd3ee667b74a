-- Numbers as fields of a line, read as they were written.
use mathlib.Core.Path.{◌≡◌, refl, ap, sym, ◌∙◌}
use mathlib.Core.List.{List, [], ◌∷◌, ◌++◌, append_assoc}
use mathlib.Core.Bool.{Bool, true, false, cond}
use Prim.Native.Nat.{ℕ, zero, suc, ◌+◌, ◌*◌, ◌-◌, ◌≤◌}
use native.Mathlib.Decide.{ℕ_discrete}
use native.Mathlib.Nat.{add-zero}
use native.Mathlib.Omega.{arith}
use lib.Dec.{eqb, leb}
use lib.ListN.{length}
use borrow.Author.Tests.{eq-eqb, leb-true, leb-false, eqb-true}
use Rattle.laws.specs.Sum.{All}
use Rattle.lines.specs.Decimal.{digit_zero, decimal, is_digit}
use Rattle.lines.specs.Line.{end_of, line, fields}
use Rattle.lines.proofs.Decimals.{of_digit}
use Rattle.lines.proofs.Fields.{end_no_digit, fields_line}
use Rattle.reading.specs.Reading.{Got, bad, got, after, digits_on, read_number, ended_by, read_field, read_fields, read_both, read_row}
use Rattle.reading.proofs.Digits.{never, NoDigit, digits_stop, digits_over, digits_next, digits_done, number_empty, number_zero, number_none, number_starts, number_written, number_read}
use Rattle.reading.proofs.Exact.{Exact, before, got_value, got_rest, Parts, both_exact}

-- a number that was read is within its bound
digits_within : (most v n : ℕ) (bs rest : List ℕ) → v ≤ most → digits_on most v bs ≡ got n rest → n ≤ most
digits_within most v n [] rest l h = same (sym (digits_done most v [] tt) ∙ h)
  where
    same : got v [] ≡ got n rest → n ≤ most
    same e = let q : v ≡ n = cc in omega arith
digits_within most v n (b ∷ bs) rest l h =
    go (is_digit b) refl (leb (10 * v + (b - digit_zero)) most) refl (λ m. digits_within most (10 * v + (b - digit_zero)) n bs rest m)
  where
    same : got v (b ∷ bs) ≡ got n rest → n ≤ most
    same e = let q : v ≡ n = cc in omega arith

    go : (t : Bool) → is_digit b ≡ t → (u : Bool) → leb (10 * v + (b - digit_zero)) most ≡ u
        → (10 * v + (b - digit_zero) ≤ most → digits_on most (10 * v + (b - digit_zero)) bs ≡ got n rest → n ≤ most) → n ≤ most
    go false e u f further = same (sym (digits_stop most v b bs e) ∙ h)
    go true e true f further =
        let m = leb-true (10 * v + (b - digit_zero)) most f in
        further m (sym (digits_next most v b bs e m) ∙ h)
    go true e false f further = never (sym (digits_over most v b bs e (leb-false (10 * v + (b - digit_zero)) most f)) ∙ h)

pub number_within : (most n : ℕ) (bs rest : List ℕ) → 9 ≤ most → read_number most bs ≡ got n rest → n ≤ most
number_within most n [] rest l h = never (sym (number_empty most) ∙ h)
number_within most n (b ∷ bs) rest l h = go (ℕ_discrete b digit_zero) (is_digit b) refl
  where
    zeroed : got 0 bs ≡ got n rest → n ≤ most
    zeroed e = let q : 0 ≡ n = cc in omega arith

    go : Dec (b ≡ digit_zero) → (t : Bool) → is_digit b ≡ t → n ≤ most
    go (yes q) t e = zeroed (sym (number_zero most b bs q) ∙ h)
    go (no ne) true e =
        let s = of_digit b e in
        digits_within most (b - digit_zero) n bs rest (omega arith) (sym (number_starts most b bs ne e) ∙ h)
    go (no ne) false e = never (sym (number_none most b bs ne e) ∙ h)

-- a reader that is exact for a writer before everything but a digit
pub record Stops {A : Type 0} (read : List ℕ → Got A) (write : A → List ℕ) (Fits : A → Type 0) : Type 0 where
  pub written : (a : A) (rest : List ℕ) → Fits a → NoDigit rest → read (write a ++ rest) ≡ got a rest
  pub was : (a : A) (bs rest : List ℕ) → read bs ≡ got a rest → bs ≡ write a ++ rest
  pub fits : (a : A) (bs rest : List ℕ) → read bs ≡ got a rest → Fits a

pub number_stops : (most : ℕ) → 9 ≤ most → Stops (read_number most) decimal (λ n. n ≤ most)
number_stops most l =
    record { written = λ n rest. number_written most n rest; was = λ n bs rest. number_read most n bs rest; fits = λ n bs rest. number_within most n bs rest l }

-- and so it is exact with a byte behind it that is no digit
pub ended_exact : {A : Type 0} {read : List ℕ → Got A} {write : A → List ℕ} {Fits : A → Type 0} (end : ℕ) → is_digit end ≡ false → Stops read write Fits
    → Exact (λ bs. after (ended_by end) (read bs)) (λ a. write a ++ end ∷ []) Fits
unfolding after ended_by
ended_exact {A} {read} {write} {Fits} end d x =
    record { written = written; was = λ a bs rest e. (found a bs rest e).0; fits = λ a bs rest e. (found a bs rest e).1 }
  where
    written : (a : A) (rest : List ℕ) → Fits a → after (ended_by end) (read ((write a ++ end ∷ []) ++ rest)) ≡ got a rest
    written a rest f = rw (append_assoc (write a) (end ∷ []) rest, x.written a (end ∷ rest) f d, eq-eqb end end refl)

    same : (a b : A) (c : ℕ) (more rest : List ℕ) (t : Bool) → eqb c end ≡ t → cond t (got b more) bad ≡ got a rest → got b (c ∷ more) ≡ got a (end ∷ rest)
    same a b c more rest true e h = let q : c ≡ end = eqb-true c end e in cc
    same a b c more rest false e h = never h

    behind : (a b : A) (more rest : List ℕ) → ended_by end b more ≡ got a rest → got b more ≡ got a (end ∷ rest)
    behind a b [] rest h = never h
    behind a b (c ∷ more) rest h = same a b c more rest (eqb c end) refl h

    found : (a : A) (bs rest : List ℕ) → after (ended_by end) (read bs) ≡ got a rest → (bs ≡ (write a ++ end ∷ []) ++ rest) × Fits a
    found a bs rest h =
        let s = before (ended_by end) (read bs) a rest h in
        let e : read bs ≡ got a (end ∷ rest) = s.here ∙ behind a s.first s.more rest s.then in
        (x.was a bs (end ∷ rest) e ∙ sym (append_assoc (write a) (end ∷ []) rest), x.fits a bs (end ∷ rest) e)

pub field_exact : (most end : ℕ) → 9 ≤ most → is_digit end ≡ false → Exact (read_field most end) (λ n. decimal n ++ end ∷ []) (λ n. n ≤ most)
unfolding read_field
field_exact most end l d = ended_exact end d (number_stops most l)

-- so many numbers within the bound
abbrev pub Numbers : ℕ → ℕ → List ℕ → Type 0
Numbers most k ns = (length ns ≡ k) × All (λ n. n ≤ most) ns

pub fields_exact : (most more k : ℕ) → 9 ≤ most → Exact (read_fields most more k) (fields more) (Numbers most k)
unfolding read_fields fields read_both
fields_exact most more zero l =
    record { written = λ ns rest f. written ns rest f.0; was = λ ns bs rest e. (found ns bs rest e).0; fits = λ ns bs rest e. (found ns bs rest e).1 }
  where
    written : (ns rest : List ℕ) → length ns ≡ 0 → got [] (fields more ns ++ rest) ≡ got ns rest
    written [] rest e = refl
    written (n ∷ ns) rest e = absurd (omega arith)

    found : (ns bs rest : List ℕ) → got [] bs ≡ got ns rest → (bs ≡ fields more ns ++ rest) × Numbers most 0 ns
    found ns bs rest e =
        let q : [] ≡ ns = got_value e in
        rw (sym q) (got_rest e, (refl, tt))
fields_exact most more (suc k) l =
    both_exact (record { made = λ n ns f g. (ap suc g.0, (f, g.1)); text = λ n ns f g. text n ns g.0; parts = λ ns f. parts ns f.0 f.1 })
    (field_exact most (end_of (k + more)) l (end_no_digit (k + more))) (fields_exact most more k l)
  where
    text : (n : ℕ) (ns : List ℕ) → length ns ≡ k → decimal n ++ end_of (length ns + more) ∷ fields more ns ≡ (decimal n ++ end_of (k + more) ∷ []) ++ fields more ns
    text n ns e = rw e (sym (append_assoc (decimal n) (end_of (k + more) ∷ []) (fields more ns)))

    parts : (ns : List ℕ) → length ns ≡ suc k → All (λ n. n ≤ most) ns → Parts ◌∷◌ (λ n. decimal n ++ end_of (k + more) ∷ []) (fields more) (λ n. n ≤ most) (Numbers most k) ns
    parts [] e a = absurd (omega arith)
    parts (n ∷ ns) e a = record { one = n; two = ns; fit_one = a.0; fit_two = (omega arith, a.1); same = refl }

-- a line
after_same : {A B : Type 0} (f g : A → List ℕ → Got B) → ((a : A) (rest : List ℕ) → f a rest ≡ g a rest) → (read : Got A) → after f read ≡ after g read
unfolding after
after_same f g e bad = refl
after_same f g e (got a rest) = e a rest

pub row_fields : (most k : ℕ) (bs : List ℕ) → read_row most k bs ≡ read_fields most 0 k bs
unfolding read_row read_fields
row_fields most zero bs = refl
row_fields most (suc k) bs =
    rw add-zero (after_same _ _ (λ n rest. ap (after (λ ns rest. got (n ∷ ns) rest)) (row_fields most k rest)) (read_field most (end_of k) bs))

pub row_exact : (most k : ℕ) → 9 ≤ most → Exact (read_row most k) line (Numbers most k)
row_exact most k l =
    let x = fields_exact most 0 k l in
    record {
      written = λ ns rest f. row_fields most k (line ns ++ rest) ∙ ap (λ t. read_fields most 0 k (t ++ rest)) (sym (fields_line ns)) ∙ x.written ns rest f;
      was = λ ns bs rest e. x.was ns bs rest (sym (row_fields most k bs) ∙ e) ∙ ap (λ t. t ++ rest) (fields_line ns);
      fits = λ ns bs rest e. x.fits ns bs rest (sym (row_fields most k bs) ∙ e);
    }

pub row_written : (most : ℕ) (ns rest : List ℕ) → 9 ≤ most → All (λ n. n ≤ most) ns → read_row most (length ns) (line ns ++ rest) ≡ got ns rest
row_written most ns rest l a = (row_exact most (length ns) l).written ns rest (refl, a)

-- the bytes are a line of so many numbers within the bound, and a rest
abbrev pub IsLine : ℕ → ℕ → List ℕ → List ℕ → List ℕ → Type 0
IsLine most k ns bs rest = (bs ≡ line ns ++ rest) × (length ns ≡ k) × All (λ n. n ≤ most) ns

pub row_read : (most k : ℕ) (ns bs rest : List ℕ) → 9 ≤ most → read_row most k bs ≡ got ns rest → IsLine most k ns bs rest
row_read most k ns bs rest l e =
    let x = row_exact most k l in
    (x.was ns bs rest e, (x.fits ns bs rest e).0, (x.fits ns bs rest e).1)
