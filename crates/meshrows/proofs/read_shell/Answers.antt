-- `meshrows::read_shell` meets its contract: `S`, four numbers, the volume, and the box.
use mathlib.Core.Path.{◌≡◌, sym, ◌∙◌}
use Prim.Native.Nat.{◌<◌}
use native.Mathlib.Omega.{arith}
use lib.ListN.{length, drop}
use Rattle.laws.proofs.Sizes.{held, read_back}
use Rattle.reading.specs.Reading.{got}
use Rattle.records.specs.declared.Shell.{Shell}
use Rattle.shelllines.specs.ShellLines.{letter_s, shell_text}
use Rattle.meshread.specs.Lines.{read_shell}
use Rattle.meshread.proofs.Lines.{shell_exact}
use Rattle.meshrows.proofs.Begun.{lettered_not, behind_line}
use Rattle.meshrows.proofs.ShellLines.{counts_not, volume_not, box_not, shell_got}
use Rattle.meshrows.proofs.read_shell.Goals as goal
use Rattle.meshrows.proofs.read_shell.Goals.{After-shell_of}

pub returns-then-not-begins-clause-line : goal.returns-then-not-begins-clause-line
unfolding read_shell
returns-then-not-begins-clause-line c = lettered_not letter_s _ c.args.input.now c.args.from (sym c.begins.ensures.starts ∙ c.if-not-begins.true)

pub returns-in_err-measured_at-clause-line : goal.returns-in_err-measured_at-clause-line
returns-in_err-measured_at-clause-line c =
    rw c.from_residual.ensures (counts_not c.args.input.now c.args.from (sym c.begins.ensures.starts ∙ c.if-not-begins.false) c.in_err-measured_at.ensures.line)

pub returns-in_err-volume-clause-line : goal.returns-in_err-volume-clause-line
returns-in_err-volume-clause-line c =
    rw c.from_residual-in_err-volume.ensures
    (volume_not c.args.input.now c.args.from (sym c.begins.ensures.starts ∙ c.if-not-begins.false) c.read_fields.new.room _ c.in_ok-measured_at.ensures.line c.in_err-volume.ensures.same)

pub returns-in_err-next-clause-line : goal.returns-in_err-next-clause-line
returns-in_err-next-clause-line c =
    rw c.from_residual-in_err-next.ensures
    (box_not c.args.input.now c.args.from (sym c.begins.ensures.starts ∙ c.if-not-begins.false) c.read_fields.new.room _ c.in_ok-measured_at.ensures.line _ _ c.in_ok-volume.ensures.same c.in_err-next.ensures.line)

shell_some : (shell : Shell) → 0 < length (shell_text shell)
unfolding shell_text
shell_some shell = omega arith

-- the whole line
module _ (c : After-shell_of) where
  whole : read_shell (drop c.args.from c.args.input.now) ≡ got c.shell_of.result (drop c.in_ok-next.next c.args.input.now)
  whole =
      let counts = c.read_fields.new.room in
      let sides = c.read_fields-2.new.room in
      let volume = c.in_ok-volume.volume in
      rw (c.shell_of.ensures, read_back volume (held volume (omega (arith, c.in_ok-volume.ensures.within))))
      (shell_got c.args.input.now c.args.from (sym c.begins.ensures.starts ∙ c.if-not-begins.false) counts _ c.in_ok-measured_at.ensures.line volume _ c.in_ok-volume.ensures.same sides _ c.in_ok-next.ensures.line)

pub returns-clause-line : goal.returns-clause-line
returns-clause-line c = whole (goal.at.returns-clause-line c).After-shell_of

pub returns-clause-place : goal.returns-clause-place
returns-clause-place c =
    behind_line shell_exact shell_some c.args.input.now c.args.from c.shell_of.result c.in_ok-next.next (whole (goal.at.returns-clause-place c).After-shell_of) c.in_ok-next.ensures.inside
