-- `blockrows::differs` meets its contract. The loop's invariant: nothing is gathered exactly if the blocks that were passed are the same.
use mathlib.Core.Path.{◌≡◌, sym, ◌∙◌}
use mathlib.Core.Bool.{◌&&◌, and_comm, and_assoc}
use mathlib.Core.List.{List}
use Prim.Native.Nat.{ℕ, ◌+◌, ◌*◌}
use lib.Bits.{bit_or, bit_xor}
use lib.Dec.{eqb}
use lib.ListN.{get_or}
use Rattle.laws.proofs.Tests.{all_none}
use Rattle.blockrows.specs.Numbers.{same_row}
use Rattle.laws.proofs.Tests.{all_next}
use Rattle.laws.proofs.Words.{or_is_zero, xor_is_zero}
use Rattle.blockrows.proofs.differs.Goals as goal

pub loop-i-init : goal.loop-i-init
loop-i-init c = all_none _

-- one block more: both its differences are gathered
same_more : (list least greatest : List ℕ) (at i apart : ℕ) → same_row list at i least greatest ≡ eqb apart 0
    → same_row list at (i + 1) least greatest
    ≡ eqb (bit_or (bit_or apart (bit_xor (get_or list (at + 2 * i) 0) (get_or least i 0))) (bit_xor (get_or list (at + 2 * i + 1) 0) (get_or greatest i 0))) 0
same_more list least greatest at i apart same =
    let low = eqb (get_or list (at + 2 * i) 0) (get_or least i 0) in
    let high = eqb (get_or list (at + 2 * i + 1) 0) (get_or greatest i 0) in
    all_next i _ ∙ simp (same, or_is_zero, xor_is_zero) (and_comm (low && high) (eqb apart 0) ∙ sym (and_assoc (eqb apart 0) low high))

pub loop-i-preserved : goal.loop-i-preserved
loop-i-preserved c =
    let a = c.args in
    same_more a.list.now a.least.now a.greatest.now a.at c.loop-i.i c.loop-i.apart c.loop-i.invariant
