-- `columns::fill` meets its contract: one number at every place of a part.
use mathlib.Core.Path.{◌≡◌, ap, sym, ◌∙◌}
use Prim.Native.Nat.{◌+◌, ◌-◌}
use native.Mathlib.Omega.{arith}
use lib.ListN.{length, replicate}
use Rattle.laws.specs.Part.{part_of}
use Rattle.laws.specs.Values.{list_to}
use Rattle.laws.proofs.Parts.{length_part, put_back}
use Rattle.laws.proofs.Values.{list_same, length_list}
use Rattle.columns.proofs.fill.Goals as goal

pub returns : goal.returns
returns c =
    let a = c.args in
    let room = a.work.now in
    let end : a.from + a.count - a.from ≡ a.count = omega arith in
    let long : length (part_of a.from (a.from + a.count - a.from) room) ≡ a.count = rw end (length_part room a.from a.count c.requires) in
    let same = c.fill.ensures.after (λ y e. e) ∙ ap (λ k. replicate k a.x) long ∙ sym (list_same a.count a.x) in
    rw (end, same) (put_back room (list_to a.count (λ n. a.x)) a.from a.count (length_list a.count (λ n. a.x)) c.requires)
