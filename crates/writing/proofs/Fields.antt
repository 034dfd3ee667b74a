-- The lengths of numbers, and numbers written into a room.
use mathlib.Core.Path.{◌≡◌, refl, ap, sym, ◌∙◌}
use mathlib.Core.Bool.{Bool, true, false, cond}
use mathlib.Core.List.{List, [], ◌∷◌, ◌++◌, append_assoc}
use Prim.Native.Nat.{ℕ, zero, suc, ◌+◌, ◌-◌, ◌/◌, ◌%◌, ◌^◌, ◌≤◌, ◌<◌}
use native.Mathlib.Nat.{pow-succ'}
use native.Mathlib.Decide.{dec_lt}
use native.Mathlib.Omega.{arith}
use lib.Dec.{ltb}
use lib.ListN.{length, get_or, take, drop, set, length-append, length-drop, drop_of_length-le}
use lib.Seq.{sets, take_at, drop_at}
use borrow.Author.Tests.{le-ltb, lt-ltb}
use Rattle.laws.specs.Room.{laid}
use Rattle.laws.proofs.Writes.{sets_append, sets_front, sets_below}
use Rattle.lines.specs.Decimal.{digit, decimal}
use Rattle.lines.specs.Line.{end_of, fields, lettered}
use Rattle.writing.specs.Writing.{outcome, written}
use Rattle.lines.proofs.Decimals.{decimal_one, decimal_more}
use Rattle.lines.proofs.Bytes.{byte_at}
use Rattle.lines.proofs.Fields.{fields_line}

-- a number has one digit, or one more than its tenth
pub digits_one : (n : ℕ) → n < 10 → length (decimal n) ≡ 1
digits_one n l = rw (decimal_one n l)

pub digits_more : (n : ℕ) → 10 ≤ n → length (decimal n) ≡ length (decimal (n / 10)) + 1
digits_more n l = rw (decimal_more n l, length-append (decimal (n / 10)) (digit (n % 10) ∷ []))

pub digits_some : (n : ℕ) → 1 ≤ length (decimal n)
digits_some n = go (dec_lt n 10)
  where
    go : Dec (n < 10) → 1 ≤ length (decimal n)
    go (yes l) = omega (arith, digits_one n l)
    go (no l) = omega (arith, digits_more n (omega arith))

-- a number below a power of ten has no more digits than the power
pub digits_most : (k n : ℕ) → n < 10 ^ suc k → length (decimal n) ≤ suc k
digits_most zero n l = omega (arith, digits_one n l)
digits_most (suc k) n l = go (dec_lt n 10) (digits_most k (n / 10) (omega (arith, pow-succ' 10 (suc k))))
  where
    go : Dec (n < 10) → length (decimal (n / 10)) ≤ suc k → length (decimal n) ≤ suc (suc k)
    go (yes s) tens = omega (arith, digits_one n s)
    go (no s) tens = omega (arith, digits_more n (omega arith))

pub nothing_behind : (n count : ℕ) → count ≡ length (decimal n) → drop (count - 1 + 1) (decimal n) ≡ []
nothing_behind n count e = let l : length (decimal n) ≤ count - 1 + 1 = omega (arith, digits_some n) in drop_of_length-le (decimal n) l

-- a number spelled from its last digit to the first: what is left of it, and the digits behind that
module _ (n rest i : ℕ) (e : decimal n ≡ decimal rest ++ drop (i + 1) (decimal n)) (q : length (decimal rest) ≡ i + 1) where
  module _ (l : 10 ≤ rest) where
    pub tenth_length : length (decimal (rest / 10)) ≡ i - 1 + 1
    tenth_length = omega (arith, digits_more rest l, digits_some (rest / 10))

    tenth_split : decimal n ≡ decimal (rest / 10) ++ (digit (rest % 10) ∷ drop (i + 1) (decimal n))
    tenth_split =
        e ∙ (ap (λ d. d ++ drop (i + 1) (decimal n)) (decimal_more rest l) ∙ append_assoc (decimal (rest / 10)) (digit (rest % 10) ∷ []) (drop (i + 1) (decimal n)))

    pub tenth_behind : drop (i - 1 + 1) (decimal n) ≡ digit (rest % 10) ∷ drop (i + 1) (decimal n)
    tenth_behind = ap (drop (i - 1 + 1)) tenth_split ∙ drop_at (decimal (rest / 10)) (digit (rest % 10) ∷ drop (i + 1) (decimal n)) (i - 1 + 1) tenth_length

    pub tenth_whole : decimal n ≡ decimal (rest / 10) ++ drop (i - 1 + 1) (decimal n)
    tenth_whole = tenth_split ∙ ap (λ d. decimal (rest / 10) ++ d) (sym tenth_behind)

    pub tenth_written : (room : List ℕ) (at : ℕ) → set (sets room (at + i + 1) (drop (i + 1) (decimal n))) (at + i) (digit (rest % 10)) ≡ sets room (at + (i - 1) + 1) (drop (i - 1 + 1) (decimal n))
    tenth_written room at =
        let z : at + (i - 1) + 1 ≡ at + i = omega (arith, digits_more rest l, digits_some (rest / 10)) in
        rw (tenth_behind, z) (sets_below room (at + i) (drop (i + 1) (decimal n)) (digit (rest % 10)))

  pub first_written : rest < 10 → (room : List ℕ) (at : ℕ) → set (sets room (at + i + 1) (drop (i + 1) (decimal n))) (at + i) (digit rest) ≡ sets room at (decimal n)
  first_written l room at =
      let z : i ≡ 0 = omega (arith, digits_one rest l) in
      let f : decimal n ≡ digit rest ∷ drop (i + 1) (decimal n) = e ∙ ap (λ d. d ++ drop (i + 1) (decimal n)) (decimal_one rest l) in
      let p : at + i ≡ at = omega arith in
      sets_below room (at + i) (drop (i + 1) (decimal n)) (digit rest) ∙ (ap (sets room (at + i)) (sym f) ∙ ap (λ k. sets room k (decimal n)) p)

-- a field written, and the fields after it
pub field_stored : (room left : List ℕ) (n count end at : ℕ) → count ≡ length (decimal n) → left ≡ sets room at (decimal n) → set left (at + count) end ≡ sets room at (decimal n ++ end ∷ [])
field_stored room left n count end at q e = rw (q, e) (sets_append room at (decimal n) (end ∷ []))

pub field_then : (room left : List ℕ) (n end at : ℕ) (rest : List ℕ) → left ≡ sets room at (decimal n ++ end ∷ []) → sets left (at + (length (decimal n) + 1)) rest ≡ sets room at (decimal n ++ end ∷ rest)
field_then room left n end at rest e =
    let l : length (decimal n ++ end ∷ []) ≡ length (decimal n) + 1 = length-append (decimal n) (end ∷ []) in
    rw e (ap (λ k. sets (sets room at (decimal n ++ end ∷ [])) (at + k) rest) (sym l) ∙ (sets_append room at (decimal n ++ end ∷ []) rest ∙ rw append_assoc))

module _ (more : ℕ) (ns : List ℕ) (i : ℕ) (l : i < length ns) where
  pub fields_next : fields more (drop i ns) ≡ decimal (get_or ns i 0) ++ end_of (length ns - i - 1 + more) ∷ fields more (drop (i + 1) ns)
  unfolding fields
  fields_next =
      let e : length (drop (i + 1) ns) ≡ length ns - i - 1 = length-drop (i + 1) ns ∙ omega arith in
      rw (byte_at ns i l, e)

  pub fields_length : length (fields more (drop i ns)) ≡ length (decimal (get_or ns i 0)) + 1 + length (fields more (drop (i + 1) ns))
  fields_length = rw (fields_next, length-append (decimal (get_or ns i 0)) (end_of (length ns - i - 1 + more) ∷ fields more (drop (i + 1) ns))) (omega arith)

  pub fields_turn : (room left : List ℕ) (at end : ℕ) → end ≡ end_of (length ns - i - 1 + more) → left ≡ sets room at (decimal (get_or ns i 0) ++ end ∷ [])
      → sets left (at + (length (decimal (get_or ns i 0)) + 1)) (fields more (drop (i + 1) ns)) ≡ sets room at (fields more (drop i ns))
  fields_turn room left at end q e =
      let f : decimal (get_or ns i 0) ++ end ∷ fields more (drop (i + 1) ns) ≡ fields more (drop i ns) = rw q (sym fields_next) in
      field_then room left (get_or ns i 0) end at (fields more (drop (i + 1) ns)) e ∙ ap (sets room at) f

pub fields_end : (more : ℕ) (ns : List ℕ) (i : ℕ) → length ns ≤ i → fields more (drop i ns) ≡ []
unfolding fields
fields_end more ns i l = rw (drop_of_length-le ns l)

-- fields are as long whatever comes after them
pub fields_as_long : (more : ℕ) (ns : List ℕ) → length (fields more ns) ≡ length (fields 0 ns)
unfolding fields
fields_as_long more [] = refl
fields_as_long more (n ∷ ns) =
    rw (length-append (decimal n) (end_of (length ns + more) ∷ fields more ns), length-append (decimal n) (end_of (length ns + 0) ∷ fields 0 ns)) (omega (arith, fields_as_long more ns))

-- a letter and a tab before them
pub lettered_written : (room left : List ℕ) (letter at : ℕ) (ns : List ℕ) → left ≡ sets (set (set room at letter) (at + 1) 9) (at + 2) (fields 0 ns) → left ≡ sets room at (lettered letter ns)
unfolding lettered
lettered_written room left letter at ns e =
    let one : at + 1 ≡ suc at = omega arith in
    let two : at + 2 ≡ suc (suc at) = omega arith in
    e ∙ rw (one, two, fields_line ns)

pub lettered_length : (letter : ℕ) (ns : List ℕ) → length (lettered letter ns) ≡ 2 + length (fields 0 ns)
unfolding lettered
lettered_length letter ns = rw (fields_line ns) (omega arith)

-- a text written from the front of a room that holds it
pub written_front : (text room left : List ℕ) (long : ℕ) → length text ≤ length room → long ≡ length text → left ≡ sets room 0 text → outcome 0 long left ≡ written text room
unfolding written
written_front text room left long l q e =
    let f : left ≡ laid text room = e ∙ sets_front room text l in
    rw (le-ltb (length room) (length text) l, q, f)

pub written_not : (text room : List ℕ) → length room < length text → outcome 3 0 room ≡ written text room
unfolding written
written_not text room l = rw (lt-ltb (length room) (length text) l)

-- a text that was written is read again at the front of the room
pub written_read : (text room left : List ℕ) (number long : ℕ) → (number ≡ 3 → ⊥) → outcome number long left ≡ written text room → (long ≤ length left) × (take long left ≡ text)
unfolding written laid
written_read text room left number long not_IsShort e = go (ltb (length room) (length text)) refl e
  where
    go : (t : Bool) → ltb (length room) (length text) ≡ t → outcome number long left ≡ cond t (outcome 3 0 room) (outcome 0 (length text) (text ++ drop (length text) room))
        → (long ≤ length left) × (take long left ≡ text)
    go true q e = absurd (not_IsShort (ap (λ o. o.number) e))
    go false q e =
        let n : long ≡ length text = ap (λ o. o.length) e in
        let r : left ≡ text ++ drop (length text) room = ap (λ o. o.room) e in
        (rw (n, r) (omega (arith, length-append text (drop (length text) room))), rw (n, r) (take_at text (drop (length text) room) (length text) refl))
