-- A signed number at a place of an input: a field, with or without a minus sign before it.
use mathlib.Core.Path.{◌≡◌, refl, ap, ◌∙◌}
use mathlib.Core.List.{List, [], ◌∷◌}
use mathlib.Core.Bool.{Bool, true, false, cond}
use Prim.Native.Nat.{ℕ, zero, suc, ◌+◌, ◌-◌, ◌≤◌, ◌<◌}
use native.Mathlib.Omega.{arith}
use lib.Dec.{eqb}
use lib.IntN.{ℤ, pos, negsuc, ◌-ℤ◌}
use lib.ListN.{length, get_or, drop, drop_of_length-le}
use borrow.Author.Tests.{eq-eqb, ne_eqb, lt-ltb}
use Rattle.lines.specs.Decimal.{minus_sign}
use Rattle.lines.proofs.Bytes.{byte_at}
use Rattle.reading.specs.Reading.{Got, bad, got, after, read_number, negated, read_signed, ended_by, read_field, read_signed_field}

-- a number with no sign
abbrev pub plainly : ℕ → List ℕ → Got ℤ
plainly n rest = got (pos n) rest

-- the byte behind a number stands there whatever its sign
ended_plain : (end : ℕ) (read : Got ℕ) → after (ended_by end) (after plainly read) ≡ after plainly (after (ended_by end) read)
unfolding after ended_by
ended_plain end bad = refl
ended_plain end (got n []) = refl
ended_plain end (got n (b ∷ rest)) = go (eqb b end)
  where
    go : (t : Bool) → cond t (got (pos n) rest) bad ≡ after plainly (cond t (got n rest) bad)
    go true = refl
    go false = refl

ended_minus : (end : ℕ) (read : Got ℕ) → after (ended_by end) (after negated read) ≡ after negated (after (ended_by end) read)
unfolding after ended_by negated
ended_minus end bad = refl
ended_minus end (got zero []) = refl
ended_minus end (got (suc n) []) = refl
ended_minus end (got zero (b ∷ rest)) = go (eqb b end)
  where
    go : (t : Bool) → bad ≡ after negated (cond t (got 0 rest) bad)
    go true = refl
    go false = refl
ended_minus end (got (suc n) (b ∷ rest)) = go (eqb b end)
  where
    go : (t : Bool) → cond t (got (negsuc n) rest) bad ≡ after negated (cond t (got (suc n) rest) bad)
    go true = refl
    go false = refl

module _ (most end b : ℕ) (bs : List ℕ) where
  plain_field : (b ≡ minus_sign → ⊥) → read_signed_field most end (b ∷ bs) ≡ after plainly (read_field most end (b ∷ bs))
  unfolding read_signed_field read_signed read_field
  plain_field ne = rw (ne_eqb b minus_sign ne) (ended_plain end (read_number most (b ∷ bs)))

  minus_field : b ≡ minus_sign → read_signed_field most end (b ∷ bs) ≡ after negated (read_field most end bs)
  unfolding read_signed_field read_signed read_field
  minus_field q = rw (eq-eqb b minus_sign q) (ended_minus end (read_number most bs))

-- a size that is not 0, negated
pub negated_got : (v : ℕ) (rest : List ℕ) → (v ≡ 0 → ⊥) → negated v rest ≡ got (pos 0 -ℤ pos v) rest
unfolding negated
negated_got zero rest ne = absurd (ne refl)
negated_got (suc v) rest ne =
    let e : suc v - 1 ≡ v = omega arith in
    rw (lt-ltb 0 (suc v) (omega arith), e)

module _ (most end : ℕ) (input : List ℕ) (at : ℕ) where
  pub signed_end_at : length input ≤ at → read_signed_field most end (drop at input) ≡ bad
  unfolding read_signed_field read_signed after
  signed_end_at l = rw (drop_of_length-le input l)

  module _ (l : at < length input) where
    pub plain_at : (get_or input at 0 ≡ minus_sign → ⊥) → read_signed_field most end (drop at input) ≡ after plainly (read_field most end (drop at input))
    plain_at ne = rw (byte_at input at l) (plain_field most end (get_or input at 0) (drop (at + 1) input) ne)

    pub minus_at : get_or input at 0 ≡ minus_sign → read_signed_field most end (drop at input) ≡ after negated (read_field most end (drop (at + 1) input))
    minus_at q = ap (read_signed_field most end) (byte_at input at l) ∙ minus_field most end (get_or input at 0) (drop (at + 1) input) q
