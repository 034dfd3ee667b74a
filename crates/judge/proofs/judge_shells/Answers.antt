-- `judge::judge_shells` meets its contract: the shells are numbered, counted, and held against the lines.
use mathlib.Core.Path.{ap, sym, ◌∙◌, subst}
use mathlib.Core.Bool.{true≢false}
use lib.ListN.{replicate}
use Rattle.columns.specs.Room.{StandsIn}
use Rattle.judge.proofs.Shells.{lines_there, numberable, stands, other_count, other_records, own_records_lem}
use Rattle.judge.proofs.judge_shells.Goals as goal

pub number_shells-own-requires : goal.number_shells-own-requires
number_shells-own-requires c = numberable c.args.parts.points c.args.parts.triangles c.args.shells c.args.input.now c.args.from c.args.next c.args.work.now c.requires.0 c.requires.1

pub returns-then-own-shells : goal.returns-then-own-shells
returns-then-own-shells c f =
    let a = c.args in
    other_count a.parts.points a.parts.triangles a.shells a.input.now a.from a.next a.work.now f c.requires.1 c.number_shells-own.result c.number_shells-own.new.work c.number_shells-own.ensures
    c.refused_later.result c.refused_later.new.work (c.refused_later.ensures.zero ∙ ap (λ k. replicate k 0) c.number_shells-own.auto.work) c.refused_later.ensures.answer c.if-own-shells.true

pub same_shells-requires : goal.same_shells-requires
same_shells-requires c =
    let a = c.args in
    (lines_there a.parts.points a.parts.triangles a.shells a.input.now a.from a.next a.work.now c.requires.0, subst (λ k. StandsIn k a.parts.points a.parts.triangles c.number_shells-own.new.work) c.if-own-shells.false (stands a.parts.points a.parts.triangles a.shells a.input.now a.from a.next a.work.now c.requires.0 c.requires.1 c.number_shells-own.result c.number_shells-own.new.work c.number_shells-own.ensures))

pub returns-then-not-same_shells : goal.returns-then-not-same_shells
returns-then-not-same_shells c f =
    let a = c.args in
    let r = c.refused_later-then-not-same_shells in
    other_records a.parts.points a.parts.triangles a.shells a.input.now a.from a.next a.work.now f c.requires.1 c.number_shells-own.result c.number_shells-own.new.work c.number_shells-own.ensures
    r.result r.new.work (r.ensures.zero ∙ ap (λ k. replicate k 0) (c.same_shells.auto.work ∙ c.number_shells-own.auto.work)) r.ensures.answer c.if-own-shells.false
    (λ q. absurd (true≢false (sym (c.same_shells.ensures.same.so q) ∙ c.if-not-same_shells.true)))

pub returns : goal.returns
returns c f =
    let a = c.args in
    own_records_lem a.parts.points a.parts.triangles a.shells a.input.now a.from a.next a.work.now f c.requires.1 c.number_shells-own.result c.number_shells-own.new.work c.number_shells-own.ensures c.if-own-shells.false (c.same_shells.ensures.same.yes (c.if-not-same_shells.false)) c.same_shells.new.work c.same_shells.ensures.left
