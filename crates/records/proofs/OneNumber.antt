-- A triangle's corners have one shell number, so the triangle names points of one shell.
use mathlib.Core.Path.{◌≡◌, refl, sym}
use mathlib.Core.List.{List}
use mathlib.Core.Bool.{Bool, true, false, ◌||◌}
use Prim.Native.Nat.{ℕ, ◌<◌}
use lib.Dec.{eqb}
use Rattle.mesh.specs.Mesh.{triangle_count, triangle_at, triangles_of}
use Rattle.mesh.specs.Check.{triangles_fit}
use Rattle.shellnumbers.specs.Numbering.{number_of, Numbering}
use Rattle.records.specs.Record.{names_under}
use Rattle.mesh.proofs.Passed.{corners}
use Rattle.sets.proofs.Leading.{led_first, led_second, led_on}

-- three tests that agree
or_same : (a b c n : ℕ) → b ≡ a → c ≡ a → (eqb a n || (eqb b n || eqb c n)) ≡ eqb a n
or_same a b c n eb ec = rw (eb, ec) (go (eqb a n))
  where
    go : (t : Bool) → (t || (t || t)) ≡ t
    go true = refl
    go false = refl

pub one_number : (triangles found : List ℕ) (v shells : ℕ) → triangles_fit triangles v ≡ true → Numbering (triangles_of triangles) v found shells → (n k : ℕ) → k < triangle_count triangles
    → names_under found n (triangle_at triangles k) ≡ eqb (number_of found (triangle_at triangles k).one) n
unfolding names_under
one_number triangles found v shells fit N n k l =
    let t = triangle_at triangles k in
    let c = corners triangles v k fit l in
    or_same (number_of found t.one) (number_of found t.two) (number_of found t.three) n
    (sym (N.same t.one t.two c.first c.second (led_first triangles k l)))
    (sym (N.same t.one t.three c.first c.third (led_on (triangles_of triangles) (led_first triangles k l) (led_second triangles k l))))
