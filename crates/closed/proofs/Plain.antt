-- Demand 3 as documents 01 and 02 have it, of whole cubes. Each theorem here is that of Here, for the mode of which cubes-owed and cubes-once show what is owed.
use mathlib.Core.Path.{◌≡◌}
use mathlib.Core.List.{List}
use mathlib.Core.Bool.{Bool}
use Prim.Native.Nat.{ℕ, ◌<◌, ◌≤◌}
use lib.ListN.{get_or}
use Rattle.grid.specs.Grid.{Size, axes}
use Rattle.grid.specs.Mode.{cubes}
use Rattle.mesh.specs.Mesh.{triangles_of}
use Rattle.records.specs.declared.Shell.{Shell}
use Rattle.shellnumbers.specs.Lists.{Outcome}
use Rattle.shelllist.specs.Promise.{Shells}
use Rattle.closed.specs.Runs.{runs, triangles_from, Even, Balanced, OneEachWay}
use Rattle.closed.specs.Left.{Mesh, Here}
use Rattle.closed.specs.Shell.{SidesStay, Unmarked, triangles_in, Closed, Paired}
use Rattle.closed.specs.Listed.{record_at, in_shell}
use Rattle.closed.proofs.Cubes.{cubes_owed}
use Rattle.closed.proofs.CubesOnce.{cubes_once}
use Rattle.closed.proofs.Here.{here_balanced, here_unmarked, here_shell_closed, here_listed_closed, here_at_most_once, here_triangles, here_one_each_way, here_shell_paired, here_listed_paired}

-- a mesh that was extracted here from a grid of size n, smoothed here or not
module _ {n : Size} {m : Mesh} {edges : List ℕ} (here : Here cubes n m edges) where
  -- where two points don't lie on one outer face of the grid, triangles run from the first to the second as often as back
  pub balanced_here : Balanced axes n edges (triangles_of m.triangles)
  balanced_here = here_balanced cubes_owed here

  -- so does every side of a point whose mark is 0
  pub unmarked_here : (p q : ℕ) → get_or m.marks p 0 ≡ 0 → Even (triangles_of m.triangles) p q
  unmarked_here = here_unmarked cubes_owed here

  -- a set of points that no triangle side leads out of or into, none of them marked, is closed
  pub shell_closed_here : (inside : ℕ → Bool) → SidesStay inside (triangles_of m.triangles) → Unmarked inside m
      → Closed (triangles_in inside (triangles_of m.triangles))
  shell_closed_here = here_shell_closed cubes_owed here

  -- a shell of a granted list with no point on an outer face is closed
  pub listed_closed_here : (numbers work : List ℕ) (room : List Shell) (o : Outcome) (after : List Shell)
      → Shells m.points m.triangles m.marks numbers work room o after → o.number ≡ 0 → (i : ℕ) → i < o.shells → (record_at after i).touches ≡ 0
      → Closed (triangles_in (in_shell o.numbers i) (triangles_of m.triangles))
  listed_closed_here = here_listed_closed cubes_owed here

  -- Document 02, request (ii): between any two points, on outer faces or off them, at most one triangle runs from the first to the second
  pub at_most_once_here : (p q : ℕ) → runs (triangles_of m.triangles) p q ≤ 1
  at_most_once_here = here_at_most_once cubes_once here

  -- the sides that run from p to q and the triangles that do are as many
  pub triangles_here : (p q : ℕ) → runs (triangles_of m.triangles) p q ≡ triangles_from (triangles_of m.triangles) p q
  triangles_here = here_triangles cubes_once here

  -- off the outer faces, two points joined by a triangle side are joined by exactly one triangle each way
  pub one_each_way_here : OneEachWay axes n edges (triangles_of m.triangles)
  one_each_way_here = here_one_each_way cubes_once here

  -- so are any two points of a set that no triangle side leads out of or into, none of them marked
  pub shell_paired_here : (inside : ℕ → Bool) → SidesStay inside (triangles_of m.triangles) → Unmarked inside m
      → Paired (triangles_in inside (triangles_of m.triangles))
  shell_paired_here = here_shell_paired cubes_once here

  -- and of a shell of a granted list with no point on an outer face
  pub listed_paired_here : (numbers work : List ℕ) (room : List Shell) (o : Outcome) (after : List Shell)
      → Shells m.points m.triangles m.marks numbers work room o after → o.number ≡ 0 → (i : ℕ) → i < o.shells → (record_at after i).touches ≡ 0
      → Paired (triangles_in (in_shell o.numbers i) (triangles_of m.triangles))
  listed_paired_here = here_listed_paired cubes_once here
