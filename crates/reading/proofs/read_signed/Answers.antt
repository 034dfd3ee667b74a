-- `reading::read_signed` meets its contract: a field, behind a minus sign or none.
use mathlib.Core.Path.{◌≡◌, ap, ◌∙◌}
use native.Mathlib.Omega.{arith}
use mir.Syntax.{w64}
use mir.Facts.{to_z-of_z, to_z_pos}
use Rattle.laws.proofs.Differences.{difference_fits}
use Rattle.laws.proofs.Sizes.{size_between}
use Rattle.reading.specs.Reading.{after, negated}
use Rattle.reading.proofs.Places.{reads_nothing, reads}
use Rattle.reading.proofs.SignedPlaces.{plainly, signed_end_at, plain_at, minus_at, negated_got}
use Rattle.reading.proofs.read_signed.Goals as goal

pub returns-then-from-input : goal.returns-then-from-input
returns-then-from-input c = reads_nothing (signed_end_at _ _ c.args.input.now _ c.if-from-input.true)

pub returns-in_err-value : goal.returns-in_err-value
unfolding after
returns-in_err-value c =
    rw c.from_residual.ensures (reads_nothing (plain_at _ _ c.args.input.now _ (omega arith) c.if-input-from-ne45.true ∙ ap (after plainly) c.in_err-value.ensures.same))

pub returns-then-input-from-ne45 : goal.returns-then-input-from-ne45
unfolding after
returns-then-input-from-ne45 c =
    let f = c.in_ok-value in
    rw (to_z_pos w64 {n = f.value} (omega (arith, f.ensures.within)))
    (reads _ _ (plain_at _ _ c.args.input.now _ (omega arith) c.if-input-from-ne45.true ∙ ap (after plainly) f.ensures.same) f.ensures.within f.ensures.inside)

pub returns-in_err-size : goal.returns-in_err-size
unfolding after
returns-in_err-size c =
    rw c.from_residual-in_err-size.ensures (reads_nothing (minus_at _ _ c.args.input.now _ (omega arith) c.if-input-from-ne45.false ∙ ap (after negated) c.in_err-size.ensures.same))

pub returns-then-size-eq0 : goal.returns-then-size-eq0
unfolding after negated
returns-then-size-eq0 c =
    let f = c.in_ok-size in
    let zero : f.size ≡ 0 = omega (arith, c.if-size-eq0.true) in
    reads_nothing (minus_at _ _ c.args.input.now _ (omega arith) c.if-input-from-ne45.false ∙ ap (after negated) f.ensures.same ∙ rw zero)

pub returns : goal.returns
unfolding after
returns c =
    let f = c.in_ok-size in
    rw (c.excess.ensures, to_z-of_z {w = w64} (difference_fits 0 f.size (omega arith) (omega (arith, f.ensures.within))))
    (reads _ _
    (minus_at _ _ c.args.input.now _ (omega arith) c.if-input-from-ne45.false ∙ ap (after negated) f.ensures.same ∙ negated_got f.size _ (λ zero. c.if-size-eq0.false (omega (arith, zero))))
    (size_between 0 f.size _ (omega arith) (omega (arith, f.ensures.within)))
    f.ensures.inside)
