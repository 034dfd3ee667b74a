-- `pointnumbers::number` meets its contract. The invariant: the edges before the layer at z are numbered.
use mathlib.Core.Path.{◌≡◌, subst}
use Prim.Native.Nat.{◌*◌}
use native.Mathlib.Omega.{arith}
use Rattle.rows.specs.Rows.{layer_first}
use Rattle.rows.proofs.Stretches.{layer_first_lem}
use Rattle.pointnumbers.specs.Numbers.{NumberedTo}
use Rattle.pointnumbers.proofs.Numbering.{none_numbered, all_counted, all_numbered}
use Rattle.pointnumbers.proofs.number.Goals as goal

pub loop-z-init : goal.loop-z-init
loop-z-init c = let a = c.args in rw (layer_first_lem a.sides) (none_numbered a.sides a.masks.now a.work.now c.requires.work_len)

pub returns : goal.returns
returns c =
    let s = c.args.sides in
    let masks = c.args.masks.now in
    let last : c.loop-z.z ≡ s.nz = omega arith in
    let so = subst (λ z. NumberedTo s masks (3 * layer_first s z) c.loop-z.n c.loop-z.work) last c.loop-z.invariant in record { counted = all_counted s masks c.loop-z.n c.loop-z.work so; numbered = all_numbered s masks c.loop-z.n c.loop-z.work so }
