-- `rooms::copy` meets its contract: copied as far as the places that were passed.
use mathlib.Core.Path.{refl, sym, ◌∙◌}
use Prim.Native.Nat.{◌<◌}
use native.Mathlib.Omega.{arith}
use lib.ListN.{length, length-set}
use Rattle.laws.specs.Part.{part_of}
use Rattle.laws.proofs.Rooms.{laid_whole, front_none, front_more, front_all}
use Rattle.laws.proofs.Parts.{length_part, part_at}
use Rattle.rooms.proofs.copy.Goals as goal

pub loop-i-init : goal.loop-i-init
loop-i-init c = let a = c.args in (refl, front_none (part_of a.from (length a.written.now) a.read.now) a.written.now)

pub loop-i-preserved : goal.loop-i-preserved
loop-i-preserved c =
    let a = c.args in
    let n = length a.written.now in
    let small : c.loop-i.i < n = c.loop-i-test.true in (
      rw length-set c.loop-i.invariant.0,
      front_more (part_of a.from n a.read.now) a.written.now 0 c.loop-i.i c.loop-i.invariant.1 (sym (part_at a.read.now a.from n c.loop-i.i 0 small)) (omega (arith, length_part a.read.now a.from n c.requires)) small,
    )

pub returns : goal.returns
returns c =
    let a = c.args in
    let xs = part_of a.from (length a.written.now) a.read.now in
    let long = length_part a.read.now a.from (length a.written.now) c.requires in
    front_all xs a.written.now c.loop-i.i c.loop-i.invariant.1 (omega (arith, long)) ∙ laid_whole xs a.written.now long
