-- `volumes::gather_volumes` meets its contract: the volumes from the triangles so far, then from all of them.
use mathlib.Core.Path.{◌≡◌}
use mathlib.Core.List.{List}
use Prim.Native.Nat.{ℕ}
use Rattle.columns.specs.Room.{ShellsStand}
use Rattle.volumes.proofs.Volumes.{volumes_after}
use Rattle.volumes.proofs.gather_volumes.Given as goal

pub record VolumesPut (shells v t : ℕ) (filled now : List ℕ) (k : ℕ) : Type 0 where
  pub stands : ShellsStand shells v t filled
  pub put : now ≡ volumes_after shells v t filled k

abbrev pub invariant-loop-k : goal.invariant-loop-k
invariant-loop-k l = VolumesPut l.shells l.parts.points l.parts.triangles l.initial.work l.work l.k
