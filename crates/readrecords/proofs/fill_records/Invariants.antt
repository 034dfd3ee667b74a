-- `readrecords::fill_records` meets its contract.
use mathlib.Core.Path.{◌≡◌}
use Prim.Native.Nat.{◌<◌}
use Rattle.sameshells.proofs.Compared.{Again}
use Rattle.readrecords.proofs.Filled.{read_to}
use Rattle.readrecords.proofs.fill_records.Given as goal

abbrev pub invariant-loop-n : goal.invariant-loop-n
invariant-loop-n l = record {
  again : l.n < l.shells → Again l.input l.from l.shells l.n l.at;
  so_far : l.records ≡ read_to l.input l.from l.shells l.fn.records l.n;
}
