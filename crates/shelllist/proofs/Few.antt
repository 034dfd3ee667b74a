-- There are no more shells than points: the lowest points rise from shell to shell, and each is a point. So the count that is answered is small.
use mathlib.Core.Path.{ap}
use mathlib.Core.List.{List}
use Prim.Native.Nat.{ℕ, zero, suc, ◌<◌, ◌≤◌, zero-le}
use native.Mathlib.Omega.{arith}
use lib.ListN.{length}
use Rattle.grid.specs.Limits.{most_points}
use Rattle.mesh.specs.Mesh.{triangles_of}
use Rattle.records.specs.declared.Shell.{Shell}
use Rattle.shellnumbers.specs.Numbering.{Numbering}
use Rattle.records.specs.Record.{record_of}
use Rattle.shellnumbers.specs.Lists.{left, Lists, refused, crowded, granted}
use Rattle.shelllist.specs.Promise.{Shells}
use Rattle.shellnumbers.proofs.Sound.{passed}
use Rattle.records.proofs.Lows.{by_lowest, lows_rise}

module _ (points triangles marks found : List ℕ) where
  low_at_least : (shells : ℕ) → Numbering (triangles_of triangles) (length marks) found shells → (n : ℕ) → n < shells → n ≤ (record_of points triangles marks found n).low
  low_at_least shells N zero l = zero-le
  low_at_least shells N (suc n) l = omega (arith, low_at_least shells N n (omega arith), lows_rise points triangles marks found shells N n (suc n) (omega arith) l)

  pub no_more_than_points : (shells : ℕ) → Numbering (triangles_of triangles) (length marks) found shells → shells ≤ length marks
  no_more_than_points zero N = zero-le
  no_more_than_points (suc n) N = omega (arith, low_at_least (suc n) N n (omega arith), (by_lowest points triangles marks found (suc n) N n (omega arith)).small)

module _ (points triangles marks numbers work : List ℕ) (room : List Shell) {number shells : ℕ} {found cleared : List ℕ} {records : List Shell} where
  pub few_shells : Shells points triangles marks numbers work room (left number shells found cleared) records → shells ≤ most_points
  few_shells s = go s.lists
    where
      go : Lists points triangles marks (length room) numbers work (left number shells found cleared) → shells ≤ most_points
      go (refused n e) = omega (arith, ap (λ o. o.shells) e)
      go (crowded z f n N m e) = omega (arith, ap (λ o. o.shells) e)
      go (granted z f n N m e) = omega (arith, ap (λ o. o.shells) e, no_more_than_points points triangles marks f n N, (passed points triangles marks (length numbers) (length work) z).mesh.few)
