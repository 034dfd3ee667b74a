-- `masks::mask_row` meets its contract. The words passed are gathered, and two samples or more are left.
use mathlib.Core.Path.{◌≡◌}
use Prim.Native.Nat.{◌+◌}
use native.Mathlib.Omega.{arith}
use lib.ListN.{length-set}
use Rattle.laws.specs.Bits.{word_bits}
use Rattle.masks.specs.Masks.{row_words}
use Rattle.masks.proofs.Rows.{samples_within, words_next, words_all}
use Rattle.masks.proofs.mask_row.Goals as goal

pub loop-left-preserved : goal.loop-left-preserved
loop-left-preserved c =
    let l = c.loop-left in (
      simp length-set l.invariant.0,
      omega arith,
      omega arith,
      omega arith,
      words_next l.left word_bits (omega arith) (omega arith) (omega arith) (λ i li ll. li) c.word_mask.ensures l.invariant.4,
    )

pub returns : goal.returns
returns c =
    let a = c.args in
    let l = c.loop-left in
    let all : l.to + 1 ≡ a.from + row_words a.nx = omega arith in record {
      value = all;
      gathered = words_all all
          (words_next l.left l.left (omega arith) (omega arith) (omega arith) (λ i li ll. omega (arith, samples_within l.left (omega arith))) c.word_mask-2.ensures l.invariant.4);
    }
