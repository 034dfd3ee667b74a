-- `shelllines::shells_length` meets its contract.
use mathlib.Core.Path.{sym, ap}
use native.Mathlib.Omega.{arith}
use lib.ListN.{length, get_or}
use Rattle.records.specs.Grown.{none}
use Rattle.shelllines.proofs.ShellTexts.{shells_none, shells_length}
use Rattle.shelllines.proofs.shells_length.Goals as goal

pub loop-n-init : goal.loop-n-init
loop-n-init c = record {
  so_far = sym (ap length (shells_none (λ k. get_or c.args.records.now k none)));
  small = omega arith;
}

pub loop-n-preserved : goal.loop-n-preserved
loop-n-preserved c = record {
  so_far = omega (arith, c.loop-n.invariant.so_far, c.shell_length-sum.ensures.0, shells_length (λ k. get_or c.args.records.now k none) c.loop-n.n);
  small = omega (arith, c.loop-n.invariant.small, c.shell_length-sum.ensures.1);
}
