-- Points in sets: each place of a list names a parent, and the root of a set is its own parent.
use Rattle.std.specs.Prelude.{◌≡◌, List, Bool, ℕ, zero, suc, ◌<◌, ◌≤◌, eqb, length, get_or}
use Rattle.laws.specs.Range.{count_to}
use Rattle.laws.specs.Mesh.{Triangle}
use Rattle.mesh.specs.Mesh.{triangle_count, triangle_at, triangles_of}
use Rattle.sets.specs.Led.{Led}

abbrev pub parent : List ℕ → ℕ → ℕ
parent room p = get_or room p 0

-- no parent is higher
abbrev pub Falling : List ℕ → Type 0
Falling room = (p : ℕ) → parent room p ≤ p

-- n steps from child to parent
unfoldable pub up : ℕ → List ℕ → ℕ → ℕ
up zero room p = p
up (suc n) room p = up n room (parent room p)

-- where they end: p steps are enough, since each goes down or ends
unfoldable pub root : List ℕ → ℕ → ℕ
root room p = up p room p

unfoldable pub is_root : List ℕ → ℕ → Bool
is_root room p = eqb (parent room p) p

-- the rank of a point's root among the roots
abbrev pub rank_of : List ℕ → ℕ → ℕ
rank_of room p = count_to (root room p) (is_root room)

-- the same sets, whatever the paths
pub record SameSets (before after : List ℕ) : Type 0 where
  pub falls : Falling after
  pub long : length after ≡ length before
  pub roots : (p : ℕ) → root after p ≡ root before p

-- only points that sides lead between are in one set
abbrev pub Sound : List Triangle → List ℕ → Type 0
Sound ts room = (p q : ℕ) → p < length room → q < length room → root room p ≡ root room q → Led ts p q

-- a and b are in one set, nothing is parted, and nothing else is joined
pub record Joined (a b : ℕ) (before after : List ℕ) : Type 0 where
  pub falls : Falling after
  pub long : length after ≡ length before
  pub keeps : (p q : ℕ) → root before p ≡ root before q → root after p ≡ root after q
  pub joins : root after a ≡ root after b
  pub sound : (ts : List Triangle) → Led ts a b → Sound ts before → Sound ts after

-- the corners of triangle k are in one set
abbrev pub Together : List ℕ → List ℕ → ℕ → Type 0
Together triangles room k =
    let t = triangle_at triangles k in
    (root room t.one ≡ root room t.two) × (root room t.two ≡ root room t.three)

-- the corners of every triangle are in one set, and nothing else is joined: two points are in one set exactly when sides lead from one to the other
pub record United (triangles : List ℕ) (before after : List ℕ) : Type 0 where
  pub falls : Falling after
  pub long : length after ≡ length before
  pub together : (k : ℕ) → k < triangle_count triangles → Together triangles after k
  pub sound : Sound (triangles_of triangles) after
