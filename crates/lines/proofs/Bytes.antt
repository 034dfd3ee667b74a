-- A text from a place on, and the byte behind a field.
use mathlib.Core.Path.{◌≡◌, refl}
use mathlib.Core.List.{List, ◌∷◌}
use Prim.Native.Nat.{ℕ, zero, suc, ◌+◌, ◌<◌}
use native.Mathlib.Numerals.{add-one}
use lib.ListN.{length, get_or, drop}
use lib.Seq.{drop-cons}
use Rattle.lines.specs.Line.{end_of}

-- the byte at a place, and the rest
pub byte_at : (input : List ℕ) (at : ℕ) → at < length input → drop at input ≡ get_or input at 0 ∷ drop (at + 1) input
byte_at input at l = rw (add-one, drop-cons input at 0 l)

-- a line feed if no field follows, else a tab
pub end_tab : (k : ℕ) → (k ≡ 0 → ⊥) → end_of k ≡ 9
unfolding end_of
end_tab zero ne = absurd (ne refl)
end_tab (suc k) ne = refl

pub end_feed : (k : ℕ) → k ≡ 0 → end_of k ≡ 10
unfolding end_of
end_feed k e = rw e
