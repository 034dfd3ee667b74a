-- Line 1 and the samples of a small grid.
use mathlib.Core.Path.{◌≡◌, refl}
use mathlib.Core.List.{List, [], ◌∷◌, ◌++◌}
use mathlib.Core.Bool.{and-false}
use Prim.Native.Nat.{ℕ, ◌≤◌, ◌<◌}
use native.Mathlib.Omega.{arith}
use lib.ListN.{length, get_or, take, drop}
use lib.Seq.{length-take-le, get_or-take}
use borrow.Author.Tests.{eq-eqb, ne_eqb}
use Rattle.laws.specs.Room.{laid}
use Rattle.grid.specs.Limits.{most_number}
use Rattle.reading.specs.Reading.{bad, got, after, read_row, GotRows, rows}
use Rattle.gridtext.specs.Promise.{samples_filled}
use Rattle.gridtext.specs.Grid.{letter_g, head_of, read_head}

-- line 1, by its first two bytes
pub head_short : (input : List ℕ) → length input < 2 → read_head input ≡ bad
unfolding read_head
head_short [] l = refl
head_short (b ∷ []) l = refl
head_short (b ∷ c ∷ bs) l = absurd (omega arith)

pub head_other : (input : List ℕ) → 2 ≤ length input → (get_or input 0 0 ≡ letter_g → ⊥) → read_head input ≡ bad
unfolding read_head
head_other [] l ne = refl
head_other (b ∷ []) l ne = refl
head_other (b ∷ c ∷ bs) l ne = rw (ne_eqb b letter_g ne)

pub head_untabbed : (input : List ℕ) → 2 ≤ length input → (get_or input 1 0 ≡ 9 → ⊥) → read_head input ≡ bad
unfolding read_head
head_untabbed [] l ne = refl
head_untabbed (b ∷ []) l ne = refl
head_untabbed (b ∷ c ∷ bs) l ne = rw (ne_eqb c 9 ne, and-false)

head_row : (input : List ℕ) → 2 ≤ length input → get_or input 0 0 ≡ letter_g → get_or input 1 0 ≡ 9 → read_head input ≡ after (λ ns rest. got (head_of ns) rest) (read_row most_number 6 (drop 2 input))
unfolding read_head
head_row [] l g t = absurd (omega arith)
head_row (b ∷ []) l g t = absurd (omega arith)
head_row (b ∷ c ∷ bs) l g t = rw (eq-eqb b letter_g g, eq-eqb c 9 t)

six : (ns : List ℕ) → head_of (take 6 ns) ≡ head_of ns
unfolding head_of
six ns = rw (field 0 (omega arith), field 1 (omega arith), field 2 (omega arith), field 3 (omega arith), field 4 (omega arith), field 5 (omega arith))
  where
    field : (i : ℕ) → i < 6 → get_or (take 6 ns) i 0 ≡ get_or ns i 0
    field i l = get_or-take 6 ns i 0 l

module _ (input : List ℕ) (l : 2 ≤ length input) (g : get_or input 0 0 ≡ letter_g) (t : get_or input 1 0 ≡ 9) where
  pub head_stops : read_row most_number 6 (drop 2 input) ≡ bad → read_head input ≡ bad
  unfolding after
  head_stops e = rw (head_row input l g t, e)

  pub head_reads : (ns rest : List ℕ) → read_row most_number 6 (drop 2 input) ≡ got (take 6 ns) rest → read_head input ≡ got (head_of ns) rest
  unfolding after
  head_reads ns rest e = rw (head_row input l g t, e, six ns)

-- the room for samples, where all rows are well formed
pub filled : (read : GotRows) (n : ℕ) (found copied entry : List ℕ) → read ≡ rows (take n found) → n ≤ length found → copied ≡ take n found → copied ++ drop n entry ≡ samples_filled read entry
unfolding samples_filled laid
filled read n found copied entry q l c = rw (q, c, length-take-le n found l)
