-- `sums::add_triangles` meets its contract: each point's sums are those after the triangles passed.
use mathlib.Core.Path.{◌≡◌}
use Prim.Native.Nat.{ℕ}
use Rattle.sums.specs.Sums.{sum_after}
use Rattle.sums.specs.Rooms.{sum_at}
use Rattle.sums.proofs.add_triangles.Given as goal

abbrev pub invariant-loop-i : goal.invariant-loop-i
invariant-loop-i l =
    (x : ℕ) → sum_at l.areas l.vectors x ≡ sum_after l.points l.triangles x l.i (sum_at l.initial.areas l.initial.vectors x)
