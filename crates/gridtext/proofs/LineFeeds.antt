-- A line's number is its place among the line feeds: line `at` of a text begins behind `at` - 1 of them.
use mathlib.Core.Path.{◌≡◌, refl, ap, ◌∙◌}
use mathlib.Core.List.{List, [], ◌∷◌, ◌++◌}
use mathlib.Core.Bool.{Bool, true, false}
use Prim.Native.Nat.{ℕ, zero, suc, ◌+◌, ◌*◌, ◌/◌, ◌%◌, ◌<◌}
use native.Mathlib.Omega.{arith}
use lib.Dec.{eqb, ltb}
use lib.ListN.{length}
use borrow.Author.Tests.{ne_eqb}
use Rattle.laws.specs.Range.{one_if}
use Rattle.laws.specs.Sum.{sum_of}
use Rattle.laws.proofs.Sums.{sum_append}
use Rattle.grid.proofs.Sides.{sides_within}
use Rattle.lines.specs.Decimal.{digit, decimal_to, decimal}
use Rattle.lines.specs.Line.{tab, line_feed, end_of, line}
use Rattle.gridtext.specs.Grid.{letter_g, head_number}
use Rattle.gridtext.specs.GridText.{head_text}
use Rattle.gridtext.specs.Malformed.{RowThen, RowsThen, none, row, FirstMalformed, HeadThen}
use Rattle.gridtext.specs.declared.Head.{Head}
use Rattle.gridtext.proofs.Checks.{passed}

-- how many line feeds a text has
unfoldable pub line_feeds : List ℕ → ℕ
line_feeds text = sum_of (λ b. one_if (eqb b line_feed)) text

feeds_in : (xs ys : List ℕ) → line_feeds (xs ++ ys) ≡ line_feeds xs + line_feeds ys
unfolding line_feeds
feeds_in xs ys = sum_append (λ b. one_if (eqb b line_feed)) xs ys

feeds_none : line_feeds [] ≡ 0
unfolding line_feeds sum_of
feeds_none = refl

one_feed : line_feeds (line_feed ∷ []) ≡ 1
unfolding line_feeds sum_of
one_feed = refl

other_first : (b : ℕ) (bs : List ℕ) → (b ≡ line_feed → ⊥) → line_feeds (b ∷ bs) ≡ line_feeds bs
unfolding line_feeds sum_of
other_first b bs ne = rw (ne_eqb b line_feed ne) (omega arith)

-- a number has none, and a line has one
digits_none : (k n : ℕ) → line_feeds (decimal_to k n) ≡ 0
unfolding decimal_to
digits_none zero n = feeds_none
digits_none (suc k) n = go (ltb n 10) (digits_none k (n / 10))
  where
    last : (d : ℕ) → line_feeds (digit d ∷ []) ≡ 0
    last d = other_first (digit d) [] (λ q. omega arith) ∙ feeds_none

    go : (t : Bool) → line_feeds (decimal_to k (n / 10)) ≡ 0 → line_feeds (elim t [ true ↦ digit n ∷ [] | false ↦ decimal_to k (n / 10) ++ (digit (n % 10) ∷ []) ]) ≡ 0
    go true e = last n
    go false e = feeds_in (decimal_to k (n / 10)) (digit (n % 10) ∷ []) ∙ omega (arith, last (n % 10))

number_none : (n : ℕ) → line_feeds (decimal n) ≡ 0
unfolding decimal
number_none n = digits_none (suc n) n

line_feeds_lem : (n : ℕ) (ns : List ℕ) → line_feeds (line (n ∷ ns)) ≡ 1
unfolding line end_of
line_feeds_lem n [] = feeds_in (decimal n) (line_feed ∷ []) ∙ omega (arith, number_none n, one_feed)
line_feeds_lem n (m ∷ ms) =
    feeds_in (decimal n) (tab ∷ line (m ∷ ms))
    ∙ omega (arith, number_none n, other_first tab (line (m ∷ ms)) (λ q. omega arith), line_feeds_lem m ms)

-- line 1, a row, and rows
head_feeds : (text rest : List ℕ) (h : Head) → HeadThen text h rest → line_feeds text ≡ 1 + line_feeds rest
unfolding head_text
head_feeds text rest h t =
    let ns = h.ny ∷ h.nz ∷ h.grey ∷ h.rounds ∷ h.weight ∷ [] in
    ap line_feeds t.written
    ∙ other_first letter_g (tab ∷ (line (h.nx ∷ ns) ++ rest)) (λ q. omega arith)
    ∙ other_first tab (line (h.nx ∷ ns) ++ rest) (λ q. omega arith)
    ∙ feeds_in (line (h.nx ∷ ns)) rest
    ∙ ap (λ k. k + line_feeds rest) (line_feeds_lem h.nx ns)

module _ {width : ℕ} (some : 0 < width) where
  row_feeds : {text more : List ℕ} → RowThen width text more → line_feeds text ≡ 1 + line_feeds more
  row_feeds {text} {more} r = ap line_feeds r.written ∙ feeds_in (line r.numbers) more ∙ ap (λ k. k + line_feeds more) (one r.numbers r.many)
    where
      one : (ns : List ℕ) → length ns ≡ width → line_feeds (line ns) ≡ 1
      one [] q = absurd (omega arith)
      one (n ∷ ns) q = line_feeds_lem n ns

  rows_feeds : {good : ℕ} {text rest : List ℕ} → RowsThen width good text rest → line_feeds text ≡ good + line_feeds rest
  rows_feeds none = omega arith
  rows_feeds (row r further) = omega (arith, row_feeds r, rows_feeds further)

-- what stands at the malformed line of the rows has `at` - 1 line feeds of the input in front of it
pub feeds_before : (input rest : List ℕ) (h : Head) (at : ℕ) → HeadThen input h rest → head_number h ≡ 0 → (f : FirstMalformed h.nx (h.ny * h.nz) 2 rest at)
    → line_feeds input + 1 ≡ at + line_feeds f.rest
feeds_before input rest h at t e f =
    let s = sides_within h.nx h.ny h.nz (passed h e).0 in
    let some : 0 < h.nx = omega (arith, s.least_x) in
    omega (arith, head_feeds input rest h t, rows_feeds some f.before, f.numbered)
