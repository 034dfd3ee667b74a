-- `shelllines::write_shells` meets its contract.
use mathlib.Core.Path.{◌≡◌}
use Prim.Native.Nat.{◌+◌}
use lib.ListN.{length, get_or}
use lib.Seq.{sets}
use Rattle.records.specs.Grown.{none}
use Rattle.shelllines.specs.ShellLines.{shells_text}
use Rattle.shelllines.proofs.write_shells.Given as goal

abbrev pub invariant-loop-n : goal.invariant-loop-n
invariant-loop-n l = record {
  long : length l.room ≡ length l.fn.room;
  place : l.at ≡ l.from + length (shells_text l.n (λ k. get_or l.records k none));
  written : l.room ≡ sets l.fn.room l.from (shells_text l.n (λ k. get_or l.records k none));
}
