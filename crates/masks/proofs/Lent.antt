-- The flags of the samples lent: those of the kept ones, then those of the others.
use mathlib.Core.Path.{◌≡◌, ap, ap₂, sym, ◌∙◌}
use mathlib.Core.List.{List, ◌++◌, map}
use Prim.Native.Nat.{ℕ, ◌+◌, ◌<◌, ◌≤◌}
use native.Mathlib.Omega.{arith}
use lib.Dec.{leb}
use lib.ListN.{length, get_or}
use Rattle.laws.specs.Range.{one_if}
use Rattle.laws.proofs.Values.{list_cong, list_split}
use Rattle.grid.specs.Grid.{is_above_grey}
use Rattle.grid.specs.Work.{sample_of, lent_samples}
use Rattle.grid.proofs.Lent.{kept_first, others_after}
use Rattle.masks.specs.Flags.{flags_from}

module _ (kept samples : List ℕ) (grey : ℕ) where
  flag_same : {v w : ℕ} → v ≡ w → one_if (leb grey w) ≡ one_if (leb grey v)
  flag_same e = ap (λ v. one_if (leb grey v)) (sym e)

  -- none of them is kept
  pub flags_past : (start many from : ℕ) → start ≡ length kept + from → flags_from grey samples from many ≡ flags_from grey (lent_samples kept samples) start many
  unfolding flags_from is_above_grey
  flags_past start many from e = list_cong many _ _ (λ i l. flag_same (others_after kept samples (start + i) (from + i) (omega arith)))

  -- the first of them are kept, and others follow only where no more are
  pub flags_both : (start here rest : ℕ) → start + here ≤ length kept → (0 < rest → start + here ≡ length kept)
      → flags_from grey (map sample_of kept) start here ++ flags_from grey samples 0 rest ≡ flags_from grey (lent_samples kept samples) start (here + rest)
  unfolding flags_from is_above_grey
  flags_both start here rest l full =
      ap₂ ◌++◌ (list_cong here _ _ (λ i li. flag_same (kept_first kept samples (start + i) (omega arith))))
      (list_cong rest _ _ (λ i li. flag_same (others_after kept samples (start + (here + i)) (0 + i) (omega (arith, full (omega arith))))))
      ∙ sym (list_split here rest (λ i. one_if (leb grey (get_or (lent_samples kept samples) (start + i) 0))))
