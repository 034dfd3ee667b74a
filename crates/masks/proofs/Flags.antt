-- Flags as bytes and as Booleans, and those of samples laid over the front of others.
use mathlib.Core.Path.{◌≡◌, ap, sym, subst, ◌∙◌}
use mathlib.Core.List.{List}
use Prim.Native.Nat.{ℕ, ◌+◌, ◌-◌, ◌<◌, ◌≤◌}
use native.Mathlib.Decide.{dec_lt}
use native.Mathlib.Omega.{arith}
use lib.Dec.{eqb}
use lib.ListN.{length, get_or}
use Rattle.laws.specs.Range.{one_if}
use Rattle.laws.specs.Room.{laid}
use Rattle.laws.proofs.Binary.{bit_back, number_back, bit_le}
use Rattle.laws.proofs.Rooms.{laid_rest}
use Rattle.laws.proofs.Values.{length_list, laid_at}
use Rattle.grid.specs.Grid.{is_above_grey}
use Rattle.masks.specs.Flags.{AreFlags, flags_from, flag_set}

pub flag_byte : (flags : List ℕ) → AreFlags flags → (i : ℕ) → get_or flags i 0 ≡ one_if (flag_set flags i)
unfolding flag_set
flag_byte flags are i = sym (number_back (get_or flags i 0) (are i))

pub length_flags : (grey : ℕ) (samples : List ℕ) (start many : ℕ) → length (flags_from grey samples start many) ≡ many
unfolding flags_from
length_flags grey samples start many = length_list many _

module _ (grey : ℕ) (samples : List ℕ) (start many : ℕ) (room : List ℕ) where
  abbrev flags : List ℕ
  flags = laid (flags_from grey samples start many) room

  pub flag_is : (i : ℕ) → i < many → flag_set flags i ≡ is_above_grey grey samples (start + i)
  unfolding flag_set flags_from
  flag_is i l = ap (λ n. eqb n 1) (laid_at many i _ room 0 l) ∙ bit_back (is_above_grey grey samples (start + i))

  pub still_flags : AreFlags room → AreFlags flags
  unfolding flags_from
  still_flags are i = go (dec_lt i many)
    where
      go : Dec (i < many) → get_or flags i 0 ≤ 1
      go (yes l) = rw (laid_at many i _ room 0 l) (bit_le (is_above_grey grey samples (start + i)))
      go (no past) =
          let e : length (flags_from grey samples start many) + (i - many) ≡ i = omega (arith, length_flags grey samples start many) in
          subst (λ k. get_or flags k 0 ≤ 1) e (rw (laid_rest (flags_from grey samples start many) room (i - many) 0) (are _))
