-- `sameshells::same_words` meets its contract: the shells passed have the volumes that stand there.
use mathlib.Core.Path.{◌≡◌, ap, sym, ◌∙◌, subst}
use mathlib.Core.Bool.{false≢true}
use Prim.Native.Nat.{◌^◌, ◌<◌}
use native.Mathlib.Omega.{arith}
use lib.IntN.{nat_abs}
use mir.Syntax.{w64}
use mir.Val.{of_z}
use lib.ListN.{get_or}
use Rattle.records.specs.Grown.{none}
use Rattle.volumes.specs.Volumes.{volume_read}
use Rattle.sameshells.specs.Same.{shells_at}
use Rattle.sameshells.proofs.Compared.{again_begin, again_some, again_shell, read_fits, again_next, below_next, words_same, read_small}
use Rattle.sameshells.proofs.same_words.Goals as goal

pub loop-n-init : goal.loop-n-init
loop-n-init c = (again_begin c.args.input.now c.args.from c.args.shells c.requires.0, λ k l. absurd (omega arith))

pub unwrap-next-requires : goal.unwrap-next-requires
unwrap-next-requires c =
    let a = c.args in
    again_some a.input.now a.from a.shells c.loop-n.n c.loop-n.at c.loop-n.invariant.0 (omega arith) _ c.read_shell.ensures.line

pub returns-then-shell-volume_at : goal.returns-then-shell-volume_at
returns-then-shell-volume_at c =
    let a = c.args in
    let x = c.unwrap-next.result in
    let same = again_shell a.input.now a.from a.shells c.loop-n.n c.loop-n.at c.loop-n.invariant.0 (omega arith) x.0 x.1 (rw c.unwrap-next.ensures at c.read_shell.ensures.line) in
    record {
      yes = λ e. absurd (false≢true e);
      so = λ q. absurd (c.if-shell-volume_at.true (ap (of_z w64) (ap (λ z. z.volume) (sym same) ∙ q c.loop-n.n (omega arith) ∙ sym c.volume_at.ensures)));
    }

pub loop-n-preserved : goal.loop-n-preserved
loop-n-preserved c =
    let a = c.args in
    let x = c.unwrap-next.result in
    let line = rw c.unwrap-next.ensures at c.read_shell.ensures.line in
    let same = again_shell a.input.now a.from a.shells c.loop-n.n c.loop-n.at c.loop-n.invariant.0 (omega arith) x.0 x.1 line in
    let fits = read_fits x.0 _ _ line in
    let w = c.volume_at in
    let small = read_small a.parts.points a.parts.triangles a.work.now c.loop-n.n (c.requires.1.small c.loop-n.n (omega arith)) in
    let e = words_same x.0.volume w.result (omega (arith, fits.volume)) (subst (λ z. nat_abs z < 2 ^ 63) (sym w.ensures) small) c.if-shell-volume_at.false in (
      again_next a.input.now a.from a.shells c.loop-n.n c.loop-n.at c.loop-n.invariant.0 (omega arith) x.0 x.1 line,
      below_next c.loop-n.n (λ n. (get_or (shells_at a.input.now a.from a.shells) n none).volume ≡ volume_read a.parts.points a.parts.triangles a.work.now n) c.loop-n.invariant.1
          (ap (λ z. z.volume) same ∙ e ∙ w.ensures),
    )
