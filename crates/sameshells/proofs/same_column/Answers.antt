-- `sameshells::same_column` meets its contract: the shells passed have the field that stands there.
use mathlib.Core.Path.{◌≡◌, ap, sym, ◌∙◌}
use mathlib.Core.Bool.{false≢true}
use Prim.Native.Nat.{◌+◌}
use native.Mathlib.Omega.{arith}
use lib.ListN.{get_or}
use Rattle.records.specs.Grown.{none}
use Rattle.columns.specs.Columns.{field_of, kind_of}
use Rattle.sameshells.specs.Same.{shells_at}
use Rattle.sameshells.proofs.Compared.{again_begin, again_some, again_shell, again_next, below_next}
use Rattle.sameshells.proofs.same_column.Goals as goal

pub loop-n-init : goal.loop-n-init
loop-n-init c = (again_begin c.args.input.now c.args.from c.args.shells c.requires.0, λ k l. absurd (omega arith))

pub unwrap-next-requires : goal.unwrap-next-requires
unwrap-next-requires c =
    let a = c.args in
    again_some a.input.now a.from a.shells c.loop-n.n c.loop-n.at c.loop-n.invariant.0 (omega arith) _ c.read_shell.ensures.line

pub returns-then-of-work : goal.returns-then-of-work
returns-then-of-work c =
    let a = c.args in
    let x = c.unwrap-next.result in
    let same = again_shell a.input.now a.from a.shells c.loop-n.n c.loop-n.at c.loop-n.invariant.0 (omega arith) x.0 x.1 (rw c.unwrap-next.ensures at c.read_shell.ensures.line) in
    record {
      yes = λ e. absurd (false≢true e);
      so = λ q. absurd (c.if-of-work.true (c.of.ensures ∙ ap (field_of (kind_of a.field)) (sym same) ∙ q c.loop-n.n (omega arith)));
    }

pub loop-n-preserved : goal.loop-n-preserved
loop-n-preserved c =
    let a = c.args in
    let x = c.unwrap-next.result in
    let line = rw c.unwrap-next.ensures at c.read_shell.ensures.line in
    let same = again_shell a.input.now a.from a.shells c.loop-n.n c.loop-n.at c.loop-n.invariant.0 (omega arith) x.0 x.1 line in (
      again_next a.input.now a.from a.shells c.loop-n.n c.loop-n.at c.loop-n.invariant.0 (omega arith) x.0 x.1 line,
      below_next c.loop-n.n (λ n. field_of (kind_of a.field) (get_or (shells_at a.input.now a.from a.shells) n none) ≡ get_or a.work.now (a.column + n) 0) c.loop-n.invariant.1
          (ap (field_of (kind_of a.field)) same ∙ sym c.of.ensures ∙ c.if-of-work.false),
    )
