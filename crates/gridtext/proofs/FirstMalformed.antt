-- The reader refuses a text with number 12 exactly if a line of it is malformed, and the line that it gives is the first.
use mathlib.Core.Path.{◌≡◌, refl, ap, sym, ◌∙◌}
use mathlib.Core.List.{List, [], ◌∷◌}
use mathlib.Core.Bool.{Bool, true, false, cond, not}
use Prim.Native.Nat.{ℕ, zero, suc, ◌+◌, ◌*◌, ◌-◌, ◌≤◌}
use native.Mathlib.Decide.{ℕ_discrete}
use native.Mathlib.Nat.{add-zero, add-suc}
use native.Mathlib.Omega.{arith}
use lib.Dec.{leb}
use lib.ListN.{length, replicate, length-replicate}
use Rattle.grid.specs.Limits.{most_small, most_number}
use Rattle.grid.specs.Sides.{sides_fit}
use Rattle.reading.specs.Reading.{Got, bad, got, read_row, GotRows, malformed, ahead, line_then, read_rows}
use Rattle.reading.specs.Reading.{rows as all-rows}
use Rattle.gridtext.specs.Grid.{read_head, samples_of, smoothing_fits, head_number, refused, granted, with_rows, with_head, read_grid}
use Rattle.gridtext.specs.Malformed.{RowThen, RowsThen, none, row, Malformed, due, over, FirstMalformed, HeadThen, MalformedAt, head, rows}
use Rattle.gridtext.specs.declared.Head.{Head}
use Rattle.reading.proofs.Digits.{never}
use Rattle.gridtext.proofs.Heads.{head_is_read, read_is_head}
use Rattle.gridtext.proofs.Checks.{passed, head_refused, room_holds}
use Rattle.reading.proofs.Fields.{row_written, row_read}

-- a row is read exactly if the text begins with one
row_is_read : (width : ℕ) (text more : List ℕ) (r : RowThen width text more) → read_row most_number width text ≡ got r.numbers more
row_is_read width text more r = rw (r.written, sym r.many) (row_written most_number r.numbers more (omega arith) r.within)

read_is_row : (width : ℕ) (text ns more : List ℕ) → read_row most_number width text ≡ got ns more → RowThen width text more
read_is_row width text ns more e =
    let f = row_read most_number width ns text more (omega arith) e in
    record { numbers = ns; many = f.1; within = f.2; written = f.0 }

no_row : (width : ℕ) (text : List ℕ) → read_row most_number width text ≡ bad → (more : List ℕ) → RowThen width text more → ⊥
no_row width text e more r = never (sym e ∙ row_is_read width text more r)

not_read : (width : ℕ) (text : List ℕ) → ((more : List ℕ) → RowThen width text more → ⊥) → read_row most_number width text ≡ bad
not_read width text nothing = go (read_row most_number width text) refl
  where
    go : (read : Got (List ℕ)) → read_row most_number width text ≡ read → read_row most_number width text ≡ bad
    go bad e = e
    go (got ns more) e = absurd (nothing more (read_is_row width text ns more e))

-- the line that is given is the first that is malformed
same_line : {a b : ℕ} → malformed a ≡ malformed b → b ≡ a + 0
same_line {a} {b} e = let q : b ≡ a = cc in omega arith

never_malformed : {B : Type 0} {at : ℕ} {ns : List ℕ} → all-rows ns ≡ malformed at → B
never_malformed {at = at} {ns = ns} e = let z : ◌≡◌ {A = ℕ} 0 1 = cc in absurd (omega arith)

pub first_of_rows : (width count first : ℕ) (text : List ℕ) (at : ℕ) → read_rows most_number width count first text ≡ malformed at → FirstMalformed width count first text at
unfolding read_rows line_then ahead
first_of_rows width zero first [] at e = never_malformed e
first_of_rows width zero first (b ∷ bs) at e =
    record { good = 0; rest = b ∷ bs; before = none; here = over refl (λ q. absurd (omega (arith, ap length q))); numbered = same_line e }
first_of_rows width (suc k) first text at e =
    begin (read_row most_number width text) refl (λ more. first_of_rows width k (first + 1) more at) e
  where
    longer : (more : List ℕ) → RowThen width text more → FirstMalformed width k (first + 1) more at → FirstMalformed width (suc k) first text at
    longer more r f =
        record {
          good = suc f.good;
          rest = f.rest;
          before = row r f.before;
          here = one_more f.here;
          numbered = omega (arith, f.numbered);
        }
      where
        one_more : {good : ℕ} {rest : List ℕ} → Malformed width k good rest → Malformed width (suc k) (suc good) rest
        one_more (due l nothing) = due (omega arith) nothing
        one_more (over q some) = over (ap suc q) some

    others : (ns : List ℕ) (read : GotRows) → ahead ns read ≡ malformed at → read ≡ malformed at
    others ns (malformed a) e = e
    others ns (all-rows ms) e = never_malformed e

    begin : (read : Got (List ℕ)) → read_row most_number width text ≡ read
        → ((more : List ℕ) → read_rows most_number width k (first + 1) more ≡ malformed at → FirstMalformed width k (first + 1) more at)
        → line_then first (read_rows most_number width k (first + 1)) read ≡ malformed at → FirstMalformed width (suc k) first text at
    begin bad q further e =
        record { good = 0; rest = text; before = none; here = due (omega arith) (no_row width text q); numbered = same_line e }
    begin (got ns more) q further e =
        longer more (read_is_row width text ns more q) (further more (others ns (read_rows most_number width k (first + 1) more) e))

-- and the first that is malformed is given
after_rows : {width good : ℕ} {text rest : List ℕ} → RowsThen width good text rest → (left first at : ℕ)
    → read_rows most_number width left (first + good) rest ≡ malformed at → read_rows most_number width (left + good) first text ≡ malformed at
unfolding read_rows line_then ahead
after_rows none left first at e = rw add-zero (rw add-zero at e)
after_rows {width = width} (row {k = k} {text = text} {more = more} {rest = rest} r further) left first at e =
    let q : first + suc k ≡ first + 1 + k = omega arith in
    rw (add-suc, row_is_read width text more r, after_rows further left (first + 1) at (rw q at e))

malformed_here : (width count good : ℕ) (text : List ℕ) (at : ℕ) → Malformed width count good text → read_rows most_number width (count - good) at text ≡ malformed at
unfolding read_rows line_then
malformed_here width count good text at (due l nothing) =
    let e : count - good ≡ suc (count - good - 1) = omega arith in
    rw (e, not_read width text nothing)
malformed_here width count good [] at (over q some) = absurd (some refl)
malformed_here width count good (b ∷ bs) at (over q some) = let e : count - good ≡ 0 = omega arith in rw e

pub rows_at_first : (width count first : ℕ) (text : List ℕ) (at : ℕ) → FirstMalformed width count first text at → read_rows most_number width count first text ≡ malformed at
rows_at_first width count first text at f =
    let e : count ≡ count - f.good + f.good = enough f.here in
    rw e (after_rows f.before (count - f.good) first at (rw (sym f.numbered) (malformed_here width count f.good f.rest at f.here)))
  where
    enough : {good : ℕ} {rest : List ℕ} → Malformed width count good rest → count ≡ count - good + good
    enough (due l nothing) = omega arith
    enough (over q some) = omega arith

-- no check of line 1's numbers refuses with 12
not_12 : (h : Head) → head_number h ≡ 12 → ⊥
unfolding head_number
not_12 h e = go (sides_fit h.nx h.ny h.nz) (leb (samples_of h) most_small) (smoothing_fits h) e
  where
    go : (s t u : Bool) → ◌≡◌ {A = ℕ} (cond (not s) 1 (cond (not t) 13 (cond (not u) 10 0))) 12 → ⊥
    go true true true e = omega arith
    go true true false e = omega arith
    go true false u e = omega arith
    go false t u e = omega arith

-- a room that takes the samples of every small grid
module _ (input room : List ℕ) (holds : most_small ≤ length room) where
  pub malformed_first : (read_grid input room).answer.number ≡ 12 → MalformedAt input (read_grid input room).answer.line
  unfolding read_grid with_head with_rows refused granted
  malformed_first z = line_1 (read_head input) refl z
    where
      in_rows : (h : Head) (rest : List ℕ) → HeadThen input h rest → head_number h ≡ 0 → (read : GotRows) → read_rows most_number h.nx (h.ny * h.nz) 2 rest ≡ read
          → (with_rows h room read).answer.number ≡ 12 → MalformedAt input (with_rows h room read).answer.line
      in_rows h rest t e (malformed at) q z = rows h rest t e (first_of_rows h.nx (h.ny * h.nz) 2 rest at q)
      in_rows h rest t e (all-rows ns) q z = absurd (omega arith)

      checked : (h : Head) (rest : List ℕ) → HeadThen input h rest → Dec (head_number h ≡ 0) → (with_head room (got h rest)).answer.number ≡ 12 → MalformedAt input (with_head room (got h rest)).answer.line
      checked h rest t (yes e) z =
          let q = room_holds h rest room e (omega (arith, (passed h e).1)) in
          rw q (in_rows h rest t e (read_rows most_number h.nx (h.ny * h.nz) 2 rest) refl (rw q at z))
      checked h rest t (no ne) z = absurd (not_12 h (ap (λ o. o.answer.number) (head_refused h rest room ne) ∙ z))

      line_1 : (read : Got Head) → read_head input ≡ read → (with_head room read).answer.number ≡ 12 → MalformedAt input (with_head room read).answer.line
      line_1 bad q z = head refl (λ h rest t. never (sym q ∙ head_is_read input rest h t))
      line_1 (got h rest) q z = checked h rest (read_is_head input rest h q) (ℕ_discrete (head_number h) 0) z

  pub first_refused : (at : ℕ) → MalformedAt input at → read_grid input room ≡ refused 12 at room
  unfolding read_grid with_head with_rows
  first_refused at (head q nothing) = line_1 (read_head input) refl
    where
      line_1 : (read : Got Head) → read_head input ≡ read → with_head room read ≡ refused 12 at room
      line_1 bad e = rw q
      line_1 (got h rest) e = absurd (nothing h rest (read_is_head input rest h e))
  first_refused at (rows h rest t e f) =
      rw (head_is_read input rest h t, room_holds h rest room e (omega (arith, (passed h e).1)), rows_at_first h.nx (h.ny * h.nz) 2 rest at f)

-- so there is one such line
pub one_line : (input : List ℕ) (a b : ℕ) → MalformedAt input a → MalformedAt input b → a ≡ b
unfolding refused
one_line input a b p q =
    let room : List ℕ = replicate most_small 0 in
    let holds : most_small ≤ length room = omega (arith, length-replicate {A = ℕ} most_small 0) in
    ap (λ o. o.answer.line) (sym (first_refused input room holds a p) ∙ first_refused input room holds b q)
