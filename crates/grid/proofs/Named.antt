-- What a grid edge is called: its number where no names are lent; and by the names that the work room has of the crossed edges, the triangles are the mesh.
use mathlib.Core.Path.{◌≡◌, refl, sym, ◌∙◌}
use mathlib.Core.List.{List, [], ◌∷◌, map}
use mathlib.Core.Bool.{Bool}
use Prim.Native.Nat.{ℕ}
use native.Mathlib.Omega.{arith}
use lib.ListN.{length, get_or}
use Rattle.laws.specs.Mesh.{flat}
use Rattle.laws.proofs.Lists.{map_cong}
use Rattle.laws.proofs.Sides.{flat_renamed}
use Rattle.grid.specs.Grid.{Size}
use Rattle.grid.specs.Point.{number}
use Rattle.grid.specs.Mode.{Mode, SidesCut}
use Rattle.grid.specs.Mesh.{edge_mesh, mesh}
use Rattle.grid.specs.Work.{Numbered, name_of}
use Rattle.grid.proofs.Sound.{CrossedInGrid, corners_in_grid}

pub name_own : (names : List ℕ) (e : ℕ) → length names ≡ 0 → name_of names e ≡ e
unfolding name_of
name_own [] e h = refl
name_own (name ∷ names) e h = absurd (omega arith)

pub name_listed : (names : List ℕ) (e : ℕ) → (length names ≡ 0 → ⊥) → name_of names e ≡ get_or names e 0
unfolding name_of
name_listed [] e h = absurd (h refl)
name_listed (name ∷ names) e h = refl

pub mesh_named : (m : Mode) → SidesCut m → (n : Size) (above : ℕ → Bool) (work : List ℕ) → Numbered m.kind n above work
    → map (name_of work) (flat (edge_mesh m n above)) ≡ flat (mesh m n above)
unfolding mesh
mesh_named m owed n above work given =
    map_cong (CrossedInGrid m n above) (name_of work) (number m.kind n above)
    (λ e c. name_listed work e (λ z. omega (arith, given.whole, c.small)) ∙ given.ranks e c.small c.cut)
    (flat (edge_mesh m n above))
    (corners_in_grid m n above owed)
    ∙ sym (flat_renamed (number m.kind n above) (edge_mesh m n above))
