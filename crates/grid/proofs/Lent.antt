-- The samples lent: so many, first the kept ones, then the others.
use mathlib.Core.Path.{◌≡◌, ap, sym, ◌∙◌}
use mathlib.Core.List.{List, map}
use Prim.Native.Nat.{ℕ, ◌+◌, ◌<◌}
use native.Mathlib.Omega.{arith}
use lib.ListN.{length, get_or, length-append, length-map, get_or-append}
use lib.Seq.{get_or-append-add}
use Rattle.grid.specs.Work.{sample_of, lent_samples}

module _ (kept samples : List ℕ) where
  pub length_lent : length (lent_samples kept samples) ≡ length kept + length samples
  length_lent = length-append (map sample_of kept) samples ∙ ap (λ n. n + length samples) (length-map kept sample_of)

  pub kept_first : (s : ℕ) → s < length kept → get_or (lent_samples kept samples) s 0 ≡ get_or (map sample_of kept) s 0
  kept_first s l = get_or-append (map sample_of kept) samples 0 s (omega (arith, length-map kept sample_of))

  pub others_after : (s i : ℕ) → s ≡ length kept + i → get_or (lent_samples kept samples) s 0 ≡ get_or samples i 0
  others_after s i e =
      let at : s ≡ length (map sample_of kept) + i = e ∙ ap (λ n. n + i) (sym (length-map kept sample_of)) in
      ap (λ s. get_or (lent_samples kept samples) s 0) at ∙ get_or-append-add (map sample_of kept) samples i 0
