-- Numbers in a line and a run of lines, read piece by piece.
use mathlib.Core.Path.{◌≡◌, refl, ap, sym, ◌∙◌}
use mathlib.Core.List.{List, [], ◌∷◌, ◌++◌, append_assoc, append-nil}
use Prim.Native.Nat.{ℕ, suc, ◌+◌, ◌*◌, ◌-◌, ◌<◌}
use native.Mathlib.Nat.{sub-zero, mul-suc}
use native.Mathlib.Numerals.{add-one}
use native.Mathlib.Omega.{arith}
use lib.ListN.{length, take, drop, set, length-drop}
use lib.Seq.{take-suc-set, drop-set-add, take-add}
use Rattle.reading.specs.Reading.{Got, bad, got, after, read_field, read_fields, read_row, GotRows, malformed, rows, ahead, line_then, read_rows}
use Rattle.lines.specs.Line.{end_of}

-- numbers read before a line goes on
unfoldable pub before : List ℕ → Got (List ℕ) → Got (List ℕ)
before ns read = after (λ ms rest. got (ns ++ ms) rest) read

before_none : (read : Got (List ℕ)) → before [] read ≡ read
unfolding before after
before_none bad = refl
before_none (got ns rest) = refl

before_before : (ns ms : List ℕ) (read : Got (List ℕ)) → before ns (before ms read) ≡ before (ns ++ ms) read
unfolding before after
before_before ns ms bad = refl
before_before ns ms (got ls rest) = rw append_assoc

module _ (most more : ℕ) (ns : List ℕ) where
  fields_end : (bs : List ℕ) → before ns (read_fields most more 0 bs) ≡ got ns bs
  unfolding before after read_fields
  fields_end bs = rw append-nil

  fields_fail : (k : ℕ) (bs : List ℕ) → read_field most (end_of (k + more)) bs ≡ bad → before ns (read_fields most more (suc k) bs) ≡ bad
  unfolding before after read_fields
  fields_fail k bs e = rw e

  fields_first : (k n : ℕ) (bs rest : List ℕ) → read_field most (end_of (k + more)) bs ≡ got n rest → read_fields most more (suc k) bs ≡ before (n ∷ []) (read_fields most more k rest)
  unfolding before after read_fields
  fields_first k n bs rest e = rw e

  fields_next : (k n : ℕ) (bs rest : List ℕ) → read_field most (end_of (k + more)) bs ≡ got n rest → before ns (read_fields most more (suc k) bs) ≡ before (ns ++ (n ∷ [])) (read_fields most more k rest)
  fields_next k n bs rest e = ap (before ns) (fields_first k n bs rest e) ∙ before_before ns (n ∷ []) (read_fields most more k rest)

-- the same in a loop: it begins, ends, and has read i of so many numbers, with the byte that is to end the next
pub fields_begin : (most more count : ℕ) (bs : List ℕ) → read_fields most more count bs ≡ before [] (read_fields most more (count - 0) bs)
fields_begin most more count bs = rw sub-zero (sym (before_none (read_fields most more count bs)))

pub fields_done : (most more count i : ℕ) (stands : ℕ → List ℕ) (bs : List ℕ) → i ≡ count → before (stands i) (read_fields most more (count - i) bs) ≡ got (stands count) bs
fields_done most more count i stands bs q =
    let e : count - count ≡ 0 = omega arith in
    rw (q, e) (fields_end most more (stands count) bs)

module _ (most more count i : ℕ) (ns bs : List ℕ) where
  module _ (end : ℕ) (l : i < count) (q : end ≡ end_of (count - i - 1 + more)) where
    pub fields_stop : read_field most end bs ≡ bad → before ns (read_fields most more (count - i) bs) ≡ bad
    fields_stop h = let e : count - i ≡ suc (count - i - 1) = omega arith in rw e (fields_fail most more ns (count - i - 1) bs (rw q at h))

    pub fields_turn : (n : ℕ) (rest : List ℕ) → read_field most end bs ≡ got n rest → before ns (read_fields most more (count - i) bs) ≡ before (ns ++ (n ∷ [])) (read_fields most more (count - (i + 1)) rest)
    fields_turn n rest h =
        let e : count - i ≡ suc (count - i - 1) = omega arith in
        let f : count - (i + 1) ≡ count - i - 1 = omega arith in
        rw (e, f) (fields_next most more ns (count - i - 1) n bs rest (rw q at h))

-- a number written behind those that stand in a room from a place on
module _ (room : List ℕ) (base i v : ℕ) (l : base + i < length room) where
  pub stands_next : take (i + 1) (drop base (set room (base + i) v)) ≡ take i (drop base room) ++ (v ∷ [])
  stands_next = rw (add-one, drop-set-add base room i v) (take-suc-set (drop base room) i v (rw length-drop (omega arith)))

-- rows read before the others
ahead_none : (read : GotRows) → ahead [] read ≡ read
unfolding ahead
ahead_none (malformed line) = refl
ahead_none (rows ns) = refl

ahead_ahead : (ns ms : List ℕ) (read : GotRows) → ahead ns (ahead ms read) ≡ ahead (ns ++ ms) read
unfolding ahead
ahead_ahead ns ms (malformed line) = refl
ahead_ahead ns ms (rows ls) = rw append_assoc

module _ (most width k line : ℕ) (bs : List ℕ) where
  first_stops : read_row most width bs ≡ bad → read_rows most width (suc k) line bs ≡ malformed line
  unfolding read_rows line_then
  first_stops e = rw e

  first_read : (ns rest : List ℕ) → read_row most width bs ≡ got ns rest → read_rows most width (suc k) line bs ≡ ahead ns (read_rows most width k (line + 1) rest)
  unfolding read_rows line_then
  first_read ns rest e = rw e

-- the same in a loop that has read i of so many lines, of which the first is line 2
pub rows_begin : (most width count : ℕ) (bs : List ℕ) → read_rows most width count 2 bs ≡ ahead [] (read_rows most width (count - 0) 2 bs)
rows_begin most width count bs = rw sub-zero (sym (ahead_none (read_rows most width count 2 bs)))

module _ (most width count i : ℕ) (ns bs : List ℕ) where
  module _ (l : i < count) where
    pub rows_stop : read_row most width bs ≡ bad → ahead ns (read_rows most width (count - i) (i + 2) bs) ≡ malformed (i + 2)
    unfolding ahead
    rows_stop h =
        let e : count - i ≡ suc (count - i - 1) = omega arith in
        rw (e, first_stops most width (count - i - 1) (i + 2) bs h)

    pub rows_turn : (ms rest : List ℕ) → read_row most width bs ≡ got ms rest → ahead ns (read_rows most width (count - i) (i + 2) bs) ≡ ahead (ns ++ ms) (read_rows most width (count - (i + 1)) (i + 1 + 2) rest)
    rows_turn ms rest h =
        let e : count - i ≡ suc (count - i - 1) = omega arith in
        let f : count - (i + 1) ≡ count - i - 1 = omega arith in
        let g : i + 1 + 2 ≡ i + 2 + 1 = omega arith in
        rw (e, f, g, first_read most width (count - i - 1) (i + 2) bs ms rest h) (ahead_ahead ns ms (read_rows most width (count - i - 1) (i + 2 + 1) rest))

  pub rows_over : i ≡ count → (b : ℕ) (rest : List ℕ) → bs ≡ b ∷ rest → ahead ns (read_rows most width (count - i) (i + 2) bs) ≡ malformed (count + 2)
  unfolding ahead read_rows
  rows_over q b rest h =
      let e : count - count ≡ 0 = omega arith in
      rw (q, e, h)

  pub rows_done : i ≡ count → bs ≡ [] → ahead ns (read_rows most width (count - i) (i + 2) bs) ≡ rows ns
  unfolding ahead read_rows
  rows_done q h =
      let e : count - i ≡ 0 = omega arith in
      rw (e, h, append-nil)

-- the next row's place in a room of rows
pub row_after : (width base i : ℕ) → base ≡ width * i → base + width ≡ width * (i + 1)
row_after width base i q = rw (q, add-one, mul-suc)

pub rows_joined : (old room : List ℕ) (base width : ℕ) → take base room ≡ take base old → take (base + width) room ≡ take base old ++ take width (drop base room)
rows_joined old room base width e = take-add base width room ∙ rw e
