-- Line 1, read and written.
use mathlib.Core.Path.{◌≡◌, refl, ap, sym, subst}
use mathlib.Core.List.{List, [], ◌∷◌}
use mathlib.Core.Bool.{Bool, true, false, cond, ◌&&◌}
use Prim.Native.Nat.{ℕ, ◌≤◌}
use native.Mathlib.Omega.{arith}
use lib.Dec.{eqb}
use lib.ListN.{length}
use borrow.Author.Tests.{eqb-true}
use Rattle.laws.specs.Range.{join_to}
use Rattle.laws.specs.Sum.{All}
use Rattle.laws.proofs.Tests.{both}
use Rattle.laws.proofs.Ranges.{all_entries}
use Rattle.grid.specs.Limits.{most_number}
use Rattle.reading.specs.Reading.{Got, bad, got, after, read_row}
use Rattle.reading.proofs.Digits.{never}
use Rattle.reading.proofs.Fields.{row_written, row_read}
use Rattle.gridtext.specs.Grid.{letter_g, head_of, read_head}
use Rattle.gridtext.specs.GridText.{head_text}
use Rattle.gridtext.specs.Malformed.{HeadThen}
use Rattle.gridtext.specs.declared.Head.{Head}

-- line 1 is read exactly if the text begins with one
abbrev head_numbers : Head → List ℕ
head_numbers h = h.nx ∷ h.ny ∷ h.nz ∷ h.grey ∷ h.rounds ∷ h.weight ∷ []

pub head_is_read : (text rest : List ℕ) (h : Head) → HeadThen text h rest → read_head text ≡ got h rest
unfolding read_head head_text after head_of
head_is_read text rest h t = rw (t.written, row_written most_number (head_numbers h) rest (omega arith) t.within)

six : (ns : List ℕ) → length ns ≡ 6 → head_numbers (head_of ns) ≡ ns
unfolding head_of join_to
six ns e = all_entries ns 6 (sym e)

head_of_row : (b c : ℕ) (bs ns rest : List ℕ) → eqb b letter_g && eqb c 9 ≡ true → read_row most_number 6 bs ≡ got ns rest → HeadThen (b ∷ c ∷ bs) (head_of ns) rest
unfolding head_text
head_of_row b c bs ns rest t e =
    let s = both (eqb b letter_g) (eqb c 9) t in
    let g : b ≡ letter_g = eqb-true b letter_g s.0 in
    let u : c ≡ 9 = eqb-true c 9 s.1 in
    let f = row_read most_number 6 ns bs rest (omega arith) e in
    record { within = subst (All (λ n. n ≤ most_number)) (sym (six ns f.1)) f.2; written = rw (g, u, six ns f.1) (ap (λ l. letter_g ∷ 9 ∷ l) f.0) }

pub read_is_head : (text rest : List ℕ) (h : Head) → read_head text ≡ got h rest → HeadThen text h rest
unfolding read_head after
read_is_head [] rest h e = never e
read_is_head (b ∷ []) rest h e = never e
read_is_head (b ∷ c ∷ bs) rest h e = go (eqb b letter_g && eqb c 9) refl e
  where
    same : (ns more : List ℕ) → HeadThen (b ∷ c ∷ bs) (head_of ns) more → got (head_of ns) more ≡ got h rest → HeadThen (b ∷ c ∷ bs) h rest
    same ns more t e =
        let q : head_of ns ≡ h = cc in
        let r : more ≡ rest = cc in
        rw (sym q, sym r) t

    in_row : (read : Got (List ℕ)) → ((ns more : List ℕ) → read ≡ got ns more → HeadThen (b ∷ c ∷ bs) (head_of ns) more)
        → after (λ ns rest. got (head_of ns) rest) read ≡ got h rest → HeadThen (b ∷ c ∷ bs) h rest
    in_row bad f e = never e
    in_row (got ns more) f e = same ns more (f ns more refl) e

    go : (t : Bool) → eqb b letter_g && eqb c 9 ≡ t → cond t (after (λ ns rest. got (head_of ns) rest) (read_row most_number 6 bs)) bad ≡ got h rest → HeadThen (b ∷ c ∷ bs) h rest
    go true t e = in_row (read_row most_number 6 bs) (λ ns more q. head_of_row b c bs ns more t q) e
    go false t e = never e
