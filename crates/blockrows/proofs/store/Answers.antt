-- `blockrows::store` meets its contract. The loop's invariant: the list is as long as ever, and the blocks that were passed stand in it.
use mathlib.Core.Path.{◌≡◌, refl, ap, sym}
use mathlib.Core.List.{List, [], ◌∷◌}
use Prim.Native.Nat.{ℕ, ◌+◌, ◌*◌}
use native.Mathlib.Numerals.{add-one}
use native.Mathlib.Omega.{arith}
use lib.ListN.{length, get_or, length-set}
use lib.Seq.{sets}
use Rattle.laws.proofs.Ranges.{join_next, join_zero}
use Rattle.laws.proofs.Rows.{length_rows}
use Rattle.laws.proofs.Writes.{sets_append}
use Rattle.blockrows.specs.Numbers.{row_numbers}
use Rattle.blockrows.proofs.store.Goals as goal

pub loop-i-init : goal.loop-i-init
loop-i-init c = let a = c.args in (refl, sym (ap (sets a.list.now a.at) (join_zero _)))

pub loop-i-preserved : goal.loop-i-preserved
loop-i-preserved c =
    let a = c.args in
    let i = c.loop-i.i in
    let here : ℕ → List ℕ = λ k. get_or a.least.now k 0 ∷ get_or a.greatest.now k 0 ∷ [] in
    let stored = row_numbers i a.least.now a.greatest.now in
    let place : a.at + 2 * i ≡ a.at + length stored = omega (arith, length_rows 2 here (λ k. refl) i) in (
      simp length-set c.loop-i.invariant.0,
      rw (c.loop-i.invariant.1, place, add-one (a.at + length stored), join_next i here) (sets_append a.list.now a.at stored (here i)),
    )
