-- `readrecords::fill_records` meets its contract: each turn reads one line into its record.
use mathlib.Core.Path.{◌≡◌, ap, sym, ◌∙◌}
use mathlib.Core.List.{List}
use native.Mathlib.Omega.{arith}
use lib.ListN.{set}
use Rattle.records.specs.declared.Shell.{Shell}
use Rattle.sameshells.proofs.Compared.{again_begin, again_some, again_shell, again_next}
use Rattle.readrecords.proofs.Filled.{shell_said, read_to, read_none, read_more, read_all}
use Rattle.readrecords.proofs.fill_records.Goals as goal

pub loop-n-init : goal.loop-n-init
loop-n-init c =
    let a = c.args in record {
      again = λ some. again_begin a.input.now a.from a.shells (c.requires.0 some);
      so_far = read_none a.input.now a.from a.shells a.records.now;
    }

pub unwrap-next-requires : goal.unwrap-next-requires
unwrap-next-requires c =
    let a = c.args in
    again_some a.input.now a.from a.shells c.loop-n.n c.loop-n.at (c.loop-n.invariant.again c.loop-n-test.true) c.loop-n-test.true _ c.read_shell.ensures.line

pub loop-n-preserved : goal.loop-n-preserved
loop-n-preserved c =
    let a = c.args in
    let i = c.loop-n.invariant in
    let x = c.unwrap-next.result in
    let again = i.again c.loop-n-test.true in
    let line = rw c.unwrap-next.ensures at c.read_shell.ensures.line in
    let said = again_shell a.input.now a.from a.shells c.loop-n.n c.loop-n.at again c.loop-n-test.true x.0 x.1 line in
    record {
      again = λ more. again_next a.input.now a.from a.shells c.loop-n.n c.loop-n.at again c.loop-n-test.true x.0 x.1 line;
      so_far =
          ap (set c.loop-n.records c.loop-n.n) (sym said)
          ∙ (ap (λ (rs : List Shell). set rs c.loop-n.n (shell_said a.input.now a.from a.shells c.loop-n.n)) i.so_far ∙ read_more a.input.now a.from a.shells a.records.now c.loop-n.n (omega (arith, c.requires.1)));
    }

pub returns : goal.returns
returns c =
    let a = c.args in
    let e : c.loop-n.n ≡ a.shells = omega arith in
    c.loop-n.invariant.so_far ∙ (ap (read_to a.input.now a.from a.shells a.records.now) e ∙ read_all a.input.now a.from a.shells a.records.now c.requires.0)
