-- `shelllines::shells_length` meets its contract.
use mathlib.Core.Path.{◌≡◌}
use Prim.Native.Nat.{◌*◌, ◌≤◌}
use lib.ListN.{length, get_or}
use Rattle.records.specs.Grown.{none}
use Rattle.shelllines.specs.ShellLines.{shells_text, longest_shell}
use Rattle.shelllines.proofs.shells_length.Given as goal

abbrev pub invariant-loop-n : goal.invariant-loop-n
invariant-loop-n l = record {
  so_far : l.sum ≡ length (shells_text l.n (λ k. get_or l.records k none));
  small : l.sum ≤ longest_shell * l.n;
}
