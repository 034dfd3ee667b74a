-- `gridtext::fill` meets its contract: copied if all rows are well formed.
use Prim.Native.Nat.{◌*◌}
use native.Mathlib.Omega.{arith}
use Rattle.gridtext.specs.Promise.{samples_filled}
use Rattle.gridtext.proofs.Samples.{filled}
use Rattle.gridtext.proofs.fill.Goals as goal

pub returns-in_err-read_rows-clause-room : goal.returns-in_err-read_rows-clause-room
unfolding samples_filled
returns-in_err-read_rows-clause-room c = rw c.in_err-read_rows.ensures

pub returns-clause-room : goal.returns-clause-room
returns-clause-room c =
    let a = c.args in
    filled _ (a.width * a.count) c.read_rows.new.room c.copy_from_slice.new.self a.samples.now c.in_ok-read_rows.ensures (omega (arith, c.read_rows.auto.room)) c.copy_from_slice.ensures.after
