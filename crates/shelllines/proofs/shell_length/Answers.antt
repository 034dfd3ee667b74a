-- `shelllines::shell_length` meets its contract.
use mathlib.Core.Path.{◌≡◌, ap}
use native.Mathlib.Omega.{arith}
use lib.ListN.{length}
use mir.Syntax.{w64}
use mir.Val.{to_z, of_z}
use borrow.Author.Rules.{rules}
use Rattle.lines.specs.Decimal.{signed}
use Rattle.lines.specs.Line.{fields}
use Rattle.shelllines.proofs.ShellTexts.{shell_long}
use Rattle.shelllines.proofs.shell_length.Goals as goal

pub returns : goal.returns
returns c =
    let s = c.args.s in
    let counts = ap (λ ns. length (fields 0 ns)) c.counts_of-counts.ensures in
    let box = ap (λ ns. length (fields 0 ns)) c.box_of-sides.ensures in
    let kept : to_z w64 (of_z w64 s.volume) ≡ s.volume = search rules in (
      omega (arith, shell_long s, c.fields_length.ensures.length, counts, ap (λ z. length (signed z)) kept, c.signed_length.ensures.length, c.fields_length-2.ensures.length, box),
      omega (arith, c.fields_length.ensures.small, ap length c.counts_of-counts.ensures, c.signed_length.ensures.small, c.fields_length-2.ensures.small, ap length c.box_of-sides.ensures),
    )
