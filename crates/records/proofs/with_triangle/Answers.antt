-- `records::with_triangle` meets its contract: the determinant is added, and the sum fits.
use mathlib.Core.Path.{◌≡◌, ap, sym, ◌∙◌, subst}
use lib.IntN.{ℤ, ◌+ℤ◌}
use mir.Syntax.{w64}
use mir.Val.{SFits, to_z, of_z}
use mir.Facts.{to_z-of_z}
use Rattle.records.specs.Grown.{with_triangle}
use borrow.Author.Rules.{rules}
use Rattle.records.proofs.with_triangle.Goals as goal

-- the summands as they were
as_were : (u v : ℤ) → to_z w64 (of_z w64 u) ≡ u → SFits w64 v → to_z w64 (of_z w64 u) +ℤ to_z w64 (of_z w64 v) ≡ u +ℤ v
as_were u v e f = ap (λ (z : ℤ). z +ℤ to_z w64 (of_z w64 v)) e ∙ ap (λ (z : ℤ). u +ℤ z) (to_z-of_z {w = w64} f)

pub returns : goal.returns
unfolding with_triangle
returns c =
    let u = c.args.s.volume in
    let d = c.sixfold.result in
    let e : to_z w64 (of_z w64 u) ≡ u = search rules in
    let sum = c.sum-volume.ensures ∙ as_were u d e c.sixfold.ensures.sfits ∙ ap (λ (z : ℤ). u +ℤ z) c.sixfold.ensures.value in
    rw (to_z-of_z {w = w64} (subst (SFits w64) (sym sum) c.requires.0.sum), sum)
