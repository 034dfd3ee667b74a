-- Signed numbers, read as they were written.
use mathlib.Core.Path.{◌≡◌, refl, ap, sym, ◌∙◌, subst}
use mathlib.Core.List.{List, [], ◌∷◌, ◌++◌}
use mathlib.Core.Bool.{Bool, true, false, cond}
use Prim.Native.Nat.{ℕ, zero, suc, ◌≤◌}
use native.Mathlib.Omega.{arith}
use lib.Dec.{eqb}
use lib.IntN.{ℤ, pos, negsuc, nat_abs}
use borrow.Author.Tests.{eqb-true}
use Rattle.lines.specs.Decimal.{is_digit, minus_sign, decimal, signed}
use Rattle.reading.specs.Reading.{got, after, read_number, negated, read_signed, read_signed_field}
use Rattle.reading.proofs.Digits.{never, NoDigit, number_empty, number_none, number_written, number_read}
use Rattle.reading.proofs.Exact.{Exact, before, got_value, got_rest}
use Rattle.reading.proofs.Fields.{number_within, Stops, ended_exact}

-- no number starts with a minus sign
no_minus : (most n b : ℕ) (bs rest : List ℕ) → b ≡ minus_sign → read_number most (b ∷ bs) ≡ got n rest → ⊥
unfolding is_digit
no_minus most n b bs rest q e = never (sym (number_none most b bs (λ z. absurd (omega arith)) (ap is_digit q)) ∙ e)

pub signed_stops : (most : ℕ) → 9 ≤ most → Stops (read_signed most) signed (λ z. nat_abs z ≤ most)
unfolding read_signed after negated signed
signed_stops most l = record { written = written; was = λ z bs rest e. (found z bs rest e).0; fits = λ z bs rest e. (found z bs rest e).1 }
  where
    plain : (n b : ℕ) (bs rest : List ℕ) → read_number most (b ∷ bs) ≡ got n rest → (t : Bool) → eqb b minus_sign ≡ t
        → cond t (after negated (read_number most bs)) (after (λ n rest. got (pos n) rest) (read_number most (b ∷ bs))) ≡ got (pos n) rest
    plain n b bs rest e true q = absurd (no_minus most n b bs rest (eqb-true b minus_sign q) e)
    plain n b bs rest e false q = rw e

    unsigned : (n : ℕ) (bs rest : List ℕ) → read_number most bs ≡ got n rest → read_signed most bs ≡ got (pos n) rest
    unsigned n [] rest e = never (sym (number_empty most) ∙ e)
    unsigned n (b ∷ bs) rest e = plain n b bs rest e (eqb b minus_sign) refl

    written : (z : ℤ) (rest : List ℕ) → nat_abs z ≤ most → NoDigit rest → read_signed most (signed z ++ rest) ≡ got z rest
    written (pos n) rest f d = unsigned n (decimal n ++ rest) rest (number_written most n rest f d)
    written (negsuc n) rest f d = rw (number_written most (suc n) rest f d)

    turned : (m : ℕ) (more : List ℕ) (z : ℤ) (bs rest : List ℕ) → read_number most bs ≡ got m more → negated m more ≡ got z rest → (minus_sign ∷ bs ≡ signed z ++ rest) × (nat_abs z ≤ most)
    turned zero more z bs rest h e = never e
    turned (suc m) more z bs rest h e =
        let r : more ≡ rest = got_rest e in
        subst (λ y. (minus_sign ∷ bs ≡ signed y ++ rest) × (nat_abs y ≤ most)) (got_value e)
        (ap (λ d. minus_sign ∷ d) (number_read most (suc m) bs more h ∙ ap (λ d. decimal (suc m) ++ d) r), number_within most (suc m) bs more l h)

    found : (z : ℤ) (bs rest : List ℕ) → read_signed most bs ≡ got z rest → (bs ≡ signed z ++ rest) × (nat_abs z ≤ most)
    found z [] rest e = never e
    found z (b ∷ bs) rest e = go (eqb b minus_sign) refl e
      where
        go : (t : Bool) → eqb b minus_sign ≡ t → cond t (after negated (read_number most bs)) (after (λ n rest. got (pos n) rest) (read_number most (b ∷ bs))) ≡ got z rest
            → (b ∷ bs ≡ signed z ++ rest) × (nat_abs z ≤ most)
        go true q e =
            let s = before negated (read_number most bs) z rest e in
            let m : b ≡ minus_sign = eqb-true b minus_sign q in
            rw m (turned s.first s.more z bs rest s.here s.then)
        go false q e =
            let s = before (λ n rest. got (pos n) rest) (read_number most (b ∷ bs)) z rest e in
            let r : s.more ≡ rest = got_rest s.then in
            subst (λ y. (b ∷ bs ≡ signed y ++ rest) × (nat_abs y ≤ most)) (got_value s.then)
            (number_read most s.first (b ∷ bs) s.more s.here ∙ ap (λ d. decimal s.first ++ d) r, number_within most s.first (b ∷ bs) s.more l s.here)

pub signed_exact : (most end : ℕ) → 9 ≤ most → is_digit end ≡ false → Exact (read_signed_field most end) (λ z. signed z ++ end ∷ []) (λ z. nat_abs z ≤ most)
unfolding read_signed_field
signed_exact most end l d = ended_exact end d (signed_stops most l)
