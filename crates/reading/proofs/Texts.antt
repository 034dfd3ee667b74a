-- Lines of numbers, read as they were written.
use mathlib.Core.Path.{◌≡◌, refl, ap, sym, ◌∙◌}
use mathlib.Core.List.{List, [], ◌∷◌, ◌++◌}
use Prim.Native.Nat.{ℕ, zero, suc, ◌+◌, ◌*◌, ◌≤◌}
use native.Mathlib.Nat.{mul-zero, mul-suc, mul-add, mul-one}
use native.Mathlib.Omega.{arith}
use lib.ListN.{length, get_or, length-append, get_or-append}
use lib.Seq.{get_or-append-add}
use Rattle.laws.specs.Range.{join_to}
use Rattle.laws.specs.Sum.{All}
use Rattle.laws.proofs.Sums.{all_append}
use Rattle.laws.proofs.Ranges.{all_entries, join_cong, join_zero, join_first}
use Rattle.lines.specs.Line.{line}
use Rattle.reading.specs.Reading.{Got, bad, got, read_row, GotRows, malformed, rows, ahead, line_then, read_rows}
use Rattle.reading.proofs.Fields.{IsLine, row_written, row_read}

-- row r of a list in rows of a width
unfoldable pub part : ℕ → List ℕ → ℕ → List ℕ
part width ns r = join_to width (λ x. get_or ns (width * r + x) 0 ∷ [])

-- rows, written and read
pub rows_written : (most width count at : ℕ) (g : ℕ → List ℕ) → 9 ≤ most → ((r : ℕ) → (length (g r) ≡ width) × All (λ n. n ≤ most) (g r)) → read_rows most width count at (join_to count (λ r. line (g r))) ≡ rows (join_to count g)
unfolding read_rows line_then ahead
rows_written most width zero at g small fits = rw (join_zero (λ r. line (g r)), join_zero g)
rows_written most width (suc k) at g small fits =
    let s : read_row most width (line (g 0) ++ join_to k (λ r. line (g (1 + r)))) ≡ got (g 0) (join_to k (λ r. line (g (1 + r)))) =
    rw (fits 0).0 at (row_written most (g 0) (join_to k (λ r. line (g (1 + r)))) small (fits 0).1) in
    rw (join_first k (λ r. line (g r)), join_first k g, s, rows_written most width k (at + 1) (λ r. g (1 + r)) small (λ r. fits (1 + r)))

-- parts of a list in front of which another row stands
part_first : (width : ℕ) (ms ls : List ℕ) → length ms ≡ width → part width (ms ++ ls) 0 ≡ ms
unfolding part
part_first width ms ls e =
    join_cong width (λ x. get_or (ms ++ ls) (width * 0 + x) 0 ∷ []) (λ x. get_or ms x 0 ∷ [])
    (λ x l. let z : width * 0 + x ≡ x = omega (arith, mul-zero width) in rw (z, get_or-append ms ls 0 x (omega arith)))
    ∙ all_entries ms width (sym e)

part_next : (width r : ℕ) (ms ls : List ℕ) → length ms ≡ width → part width (ms ++ ls) (1 + r) ≡ part width ls r
unfolding part
part_next width r ms ls e =
    join_cong width (λ x. get_or (ms ++ ls) (width * (1 + r) + x) 0 ∷ []) (λ x. get_or ls (width * r + x) 0 ∷ [])
    (λ x l. let z : width * (1 + r) + x ≡ length ms + (width * r + x) = place x in rw (z, get_or-append-add ms ls (width * r + x) 0))
  where
    place : (x : ℕ) → width * (1 + r) + x ≡ length ms + (width * r + x)
    place x = omega (arith, mul-add width 1 r, mul-one width)

-- the bytes are lines of so many numbers within the bound, to the end
abbrev pub AreLines : ℕ → ℕ → ℕ → List ℕ → List ℕ → Type 0
AreLines most width count ns bs =
    (bs ≡ join_to count (λ r. line (part width ns r))) × (length ns ≡ width * count) × All (λ n. n ≤ most) ns

lines_more : (most width k : ℕ) (ms ls bs more : List ℕ) → IsLine most width ms bs more → AreLines most width k ls more → AreLines most width (suc k) (ms ++ ls) bs
lines_more most width k ms ls bs more f o = (
  f.0 ∙ ap (λ l. line ms ++ l) o.0 ∙ sym (rw (join_first k (λ r. line (part width (ms ++ ls) r)), part_first width ms ls f.1)
      (ap (λ l. line ms ++ l) (join_cong k (λ r. line (part width (ms ++ ls) (1 + r))) (λ r. line (part width ls r)) (λ r l. ap line (part_next width r ms ls f.1))))),
  rw length-append (omega (arith, f.1, o.1, mul-suc width k)),
  all_append (λ n. n ≤ most) ms ls f.2 o.2,
)

never_rows : {B : Type 0} {at : ℕ} {ns : List ℕ} → malformed at ≡ rows ns → B
never_rows {at = at} {ns = ns} e = let z : ◌≡◌ {A = ℕ} 0 1 = cc in absurd (omega arith)

pub rows_read : (most width count at : ℕ) (ns bs : List ℕ) → 9 ≤ most → read_rows most width count at bs ≡ rows ns → AreLines most width count ns bs
unfolding read_rows line_then ahead
rows_read most width zero at ns [] l h = none ns h
  where
    none : (ns : List ℕ) → rows [] ≡ rows ns → AreLines most width 0 ns []
    none [] h = (sym (join_zero (λ r. line (part width [] r))), sym (mul-zero width), tt)
    none (n ∷ ns) h = let q : [] ≡ n ∷ ns = cc in absurd (omega (arith, ap length q))
rows_read most width zero at ns (b ∷ bs) l h = never_rows h
rows_read most width (suc k) at ns bs l h =
    first (read_row most width bs) refl (λ more ls. rows_read most width k (at + 1) ls more l) h
  where
    whole : (ms ls : List ℕ) → AreLines most width (suc k) (ms ++ ls) bs → rows (ms ++ ls) ≡ rows ns → AreLines most width (suc k) ns bs
    whole ms ls a h = let q : ms ++ ls ≡ ns = cc in rw (sym q) a

    others : (ms more : List ℕ) → read_row most width bs ≡ got ms more → (read : GotRows) → ((ls : List ℕ) → read ≡ rows ls → AreLines most width k ls more) → ahead ms read ≡ rows ns → AreLines most width (suc k) ns bs
    others ms more e (malformed line) further h = never_rows h
    others ms more e (rows ls) further h = whole ms ls (lines_more most width k ms ls bs more (row_read most width ms bs more l e) (further ls refl)) h

    first : (read : Got (List ℕ)) → read_row most width bs ≡ read → ((more ls : List ℕ) → read_rows most width k (at + 1) more ≡ rows ls → AreLines most width k ls more)
        → line_then at (read_rows most width k (at + 1)) read ≡ rows ns → AreLines most width (suc k) ns bs
    first bad e further h = never_rows h
    first (got ms more) e further h = others ms more e (read_rows most width k (at + 1) more) (further more) h
