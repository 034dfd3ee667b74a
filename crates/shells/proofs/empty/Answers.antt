-- `shells::empty` meets its contract: a fill of the first records, one after the other.
use mathlib.Core.Path.{◌≡◌, ap, sym, ◌∙◌}
use mathlib.Core.List.{List, ◌++◌}
use Prim.Native.Nat.{ℕ, zero, suc, ◌≤◌}
use native.Mathlib.Numerals.{add-one}
use native.Mathlib.Omega.{arith}
use lib.ListN.{length, set, drop, replicate}
use Rattle.laws.specs.Room.{laid}
use Rattle.laws.specs.Values.{list_to}
use Rattle.laws.proofs.Values.{list_same, length_list, laid_none, laid_more}
use Rattle.records.specs.declared.Shell.{Shell}
use Rattle.records.specs.Grown.{none}
use Rattle.shelllist.specs.Filled.{emptied}
use Rattle.std.proofs.lemmas.List.{length-take-le}
use Rattle.shells.proofs.empty.Goals as goal

-- record after record made empty
emptied_is : (n : ℕ) (records : List Shell) → n ≤ length records → emptied n records ≡ laid (list_to n (λ i. none)) records
emptied_is zero records l = sym (laid_none (λ i. none) records)
emptied_is (suc n) records l =
    ap (λ xs. set xs n none) (emptied_is n records (omega arith)) ∙ laid_more n (λ i. none) records (omega arith) ∙ ap (λ k. laid (list_to k (λ i. none)) records) (add-one n)

-- and all of them at once
filled_is : (n : ℕ) (records : List Shell) → n ≤ length records → replicate n none ++ drop n records ≡ emptied n records
unfolding laid
filled_is n records l =
    ap (λ xs. xs ++ drop n records) (sym (list_same n none)) ∙ ap (λ k. list_to n (λ i. none) ++ drop k records) (sym (length_list n (λ i. none)))
    ∙ sym (emptied_is n records l)

pub returns : goal.returns
returns c =
    let records = c.args.records.now in
    let n = c.args.count in
    ap (λ xs. xs ++ drop n records) (c.fill.ensures.after (λ y e. e) ∙ ap (λ k. replicate k c.blank.result) (length-take-le n records c.requires) ∙ ap (replicate n) c.blank.ensures)
    ∙ filled_is n records c.requires
