-- Of a mesh that was extracted here, smoothed here or not: it balances, a shell of it with no marked point is closed, and so is each shell of a granted
-- list whose record says that it touches no outer face. And no two triangles run the same way between two points, so off the outer faces, and in such a shell, two points that are
-- joined are joined by one triangle each way.
use mathlib.Core.Path.{◌≡◌}
use mathlib.Core.List.{List}
use mathlib.Core.Bool.{Bool}
use Prim.Native.Nat.{ℕ, ◌<◌, ◌≤◌}
use lib.ListN.{get_or}
use Rattle.grid.specs.Grid.{Size}
use Rattle.grid.specs.Mode.{Mode}
use Rattle.mesh.specs.Mesh.{triangles_of}
use Rattle.records.specs.declared.Shell.{Shell}
use Rattle.shellnumbers.specs.Lists.{Outcome}
use Rattle.shelllist.specs.Promise.{Shells}
use Rattle.closed.specs.Runs.{runs, triangles_from, Even, Balanced, OneEachWay}
use Rattle.closed.specs.Pattern.{Owed, OwedOnce}
use Rattle.closed.specs.Left.{Mesh, Here, extracted_here, smoothed_here}
use Rattle.closed.specs.Shell.{SidesStay, Unmarked, triangles_in, Closed, Paired}
use Rattle.closed.specs.Listed.{record_at, in_shell}
use Rattle.closed.proofs.Promised.{extract_balanced, extract_unmarked, extract_at_most_once, extract_triangles}
use Rattle.closed.proofs.Once.{joined_once}
use Rattle.closed.proofs.Shell.{closes, pairs}
use Rattle.closed.proofs.Listed.{sides_stay, no_mark}

-- smoothing leaves triangles and marks as they are, so what holds of what was extracted holds of what was smoothed
pub here_balanced : {mode : Mode} → Owed mode → {n : Size} {m : Mesh} {edges : List ℕ} → Here mode n m edges → Balanced mode.kind n edges (triangles_of m.triangles)
here_balanced {mode} owed {n} (extracted_here grey samples before after e none) = extract_balanced mode owed n.nx n.ny n.nz grey samples before after e none
here_balanced owed (smoothed_here h k w second work after left s) = here_balanced owed h

-- a point whose mark is 0, and any other
pub here_unmarked : {mode : Mode} → Owed mode → {n : Size} {m : Mesh} {edges : List ℕ} → Here mode n m edges → (p q : ℕ) → get_or m.marks p 0 ≡ 0 → Even (triangles_of m.triangles) p q
here_unmarked {mode} owed {n} (extracted_here grey samples before after e none) = extract_unmarked mode owed n.nx n.ny n.nz grey samples before after e none
here_unmarked owed (smoothed_here h k w second work after left s) = here_unmarked owed h

-- between any two points at most one triangle runs from the first to the second
pub here_at_most_once : {mode : Mode} → OwedOnce mode → {n : Size} {m : Mesh} {edges : List ℕ} → Here mode n m edges → (p q : ℕ) → runs (triangles_of m.triangles) p q ≤ 1
here_at_most_once {mode} once {n} (extracted_here grey samples before after e none) = extract_at_most_once mode once n.nx n.ny n.nz grey samples before after e none
here_at_most_once once (smoothed_here h k w second work after left s) = here_at_most_once once h

-- the sides from p to q and the triangles that run from p to q are as many
pub here_triangles : {mode : Mode} → OwedOnce mode → {n : Size} {m : Mesh} {edges : List ℕ} → Here mode n m edges → (p q : ℕ)
    → runs (triangles_of m.triangles) p q ≡ triangles_from (triangles_of m.triangles) p q
here_triangles {mode} once {n} (extracted_here grey samples before after e none) = extract_triangles mode once n.nx n.ny n.nz grey samples before after e none
here_triangles once (smoothed_here h k w second work after left s) = here_triangles once h

module _ {mode : Mode} (owed : Owed mode) {n : Size} {m : Mesh} {edges : List ℕ} (here : Here mode n m edges) where
  -- a set of points that no side leads out of or into, none of them marked
  pub here_shell_closed : (inside : ℕ → Bool) → SidesStay inside (triangles_of m.triangles) → Unmarked inside m
      → Closed (triangles_in inside (triangles_of m.triangles))
  here_shell_closed inside stay unmarked =
      closes inside (triangles_of m.triangles) stay (λ p q h. here_unmarked owed here p q (unmarked p h))

  -- a shell of a granted list whose record says that it touches nothing
  pub here_listed_closed : (numbers work : List ℕ) (room : List Shell) (o : Outcome) (after : List Shell)
      → Shells m.points m.triangles m.marks numbers work room o after → o.number ≡ 0 → (i : ℕ) → i < o.shells → (record_at after i).touches ≡ 0
      → Closed (triangles_in (in_shell o.numbers i) (triangles_of m.triangles))
  here_listed_closed numbers work room o after shells none i small touches =
      here_shell_closed (in_shell o.numbers i)
      (sides_stay m numbers work room o after shells none i)
      (no_mark m numbers work room o after shells none i small touches)

module _ {mode : Mode} (once : OwedOnce mode) {n : Size} {m : Mesh} {edges : List ℕ} (here : Here mode n m edges) where
  -- two points that lie on no common outer face
  pub here_one_each_way : OneEachWay mode.kind n edges (triangles_of m.triangles)
  here_one_each_way p q hp hq apart =
      joined_once (triangles_of m.triangles) p q (here_balanced once.owed here p q hp hq apart) (here_at_most_once once here p q)

  -- a closed shell is joined once, too
  pub here_shell_paired : (inside : ℕ → Bool) → SidesStay inside (triangles_of m.triangles) → Unmarked inside m
      → Paired (triangles_in inside (triangles_of m.triangles))
  here_shell_paired inside stay unmarked =
      pairs inside (triangles_of m.triangles) stay (here_shell_closed once.owed here inside stay unmarked) (here_at_most_once once here)

  pub here_listed_paired : (numbers work : List ℕ) (room : List Shell) (o : Outcome) (after : List Shell)
      → Shells m.points m.triangles m.marks numbers work room o after → o.number ≡ 0 → (i : ℕ) → i < o.shells → (record_at after i).touches ≡ 0
      → Paired (triangles_in (in_shell o.numbers i) (triangles_of m.triangles))
  here_listed_paired numbers work room o after shells none i small touches =
      here_shell_paired (in_shell o.numbers i)
      (sides_stay m numbers work room o after shells none i)
      (no_mark m numbers work room o after shells none i small touches)
