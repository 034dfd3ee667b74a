-- `masks::flag_lent` meets its contract: the samples are past the kept ones, or some of them are kept.
use mathlib.Core.Path.{◌≡◌, ap, ◌∙◌}
use mathlib.Core.List.{map}
use Prim.Native.Nat.{◌+◌, ◌-◌}
use native.Mathlib.Omega.{arith}
use lib.ListN.{length}
use lib.Seq.{sets}
use Rattle.laws.specs.Room.{laid}
use Rattle.laws.proofs.Writes.{sets_front, laid_sets}
use Rattle.grid.specs.Work.{sample_of, lent_samples}
use Rattle.masks.specs.Flags.{flags_from}
use Rattle.masks.proofs.Flags.{length_flags}
use Rattle.masks.proofs.Lent.{flags_past, flags_both}
use Rattle.masks.proofs.flag_lent.Goals as goal
use Rattle.masks.proofs.flag_lent.Goals.{Start}

pub returns-then-end-start : goal.returns-then-end-start
returns-then-end-start c =
    let a = c.args in
    let kept = c.args.kept.now in
    let samples = c.args.samples.now in
    let from = a.start - length kept in
    c.flag_samples.ensures
    ∙ sets_front a.flags.now _ (omega (arith, length_flags a.grey samples from a.many, c.requires.many_in_bounds_2))
    ∙ ap (λ flags. laid flags a.flags.now) (flags_past kept samples a.grey a.start a.many from (omega (arith, c.if-end-start.true)))

pub returns : goal.returns
returns c =
    let a = c.args in
    let kept = c.args.kept.now in
    let samples = c.args.samples.now in
    let here = c.min-here.result in
    let rest = a.many - here in
    let is = c.min-here.ensures in
    let all : here + rest ≡ a.many = omega (arith, is) in
    let first = flags_from a.grey (map sample_of kept) a.start here in
    let others = flags_from a.grey samples 0 rest in
    let behind : c.flag_samples-2.new.flags ≡ sets c.flag_kept.new.flags here others = c.flag_samples-2.ensures in
    behind
    ∙ ap (λ flags. sets flags here others) c.flag_kept.ensures
    ∙ laid_sets a.flags.now first others here (length_flags a.grey (map sample_of kept) a.start here) (omega (arith, length_flags a.grey samples 0 rest, all, c.requires.many_in_bounds_2))
    ∙ ap (λ flags. laid flags a.flags.now)
    (flags_both kept samples a.grey a.start here rest (omega (arith, is, c.if-end-start.false)) (λ some. omega (arith, is, c.if-end-start.false))
    ∙ ap (flags_from a.grey (lent_samples kept samples) a.start) all)
