-- `shelllines::write_shells` meets its contract.
use mathlib.Core.Path.{refl, sym, ap, ◌∙◌}
use Prim.Native.Nat.{ℕ, ◌+◌}
use native.Mathlib.Omega.{arith}
use lib.ListN.{length, get_or}
use lib.Seq.{sets}
use Rattle.records.specs.Grown.{none}
use Rattle.shelllines.proofs.ShellTexts.{shells_none, shells_length, shells_rise, shells_written}
use Rattle.shelllines.proofs.write_shells.Goals as goal

pub loop-n-init : goal.loop-n-init
loop-n-init c =
    let z = shells_none (λ k. get_or c.args.records.now k none) in
    record { long = refl; place = omega (arith, ap length z); written = sym (ap (sets c.args.room.now c.args.from) z) }

pub write_shell-at-requires : goal.write_shell-at-requires
write_shell-at-requires c =
    let r = λ (k : ℕ). get_or c.args.records.now k none in
    omega (arith, shells_length r c.loop-n.n, shells_rise r (c.loop-n.n + 1) c.args.shells (omega arith), c.loop-n.invariant.long, c.loop-n.invariant.place, c.requires.1)

pub loop-n-preserved : goal.loop-n-preserved
loop-n-preserved c =
    let r = λ (k : ℕ). get_or c.args.records.now k none in
    let i = c.loop-n.invariant in record {
      long = c.write_shell-at.auto.room ∙ i.long;
      place = omega (arith, i.place, c.write_shell-at.ensures.0, shells_length r c.loop-n.n);
      written = shells_written r c.args.room.now c.loop-n.room c.write_shell-at.new.room c.args.from c.loop-n.at c.loop-n.n i.written i.place c.write_shell-at.ensures.1;
    }
