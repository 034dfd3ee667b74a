-- From every point alone to the corners of every triangle in one set.
use mathlib.Core.Path.{◌≡◌, sym, ◌∙◌, subst}
use mathlib.Core.List.{List}
use Prim.Native.Nat.{ℕ, ◌+◌, ◌<◌, ◌≤◌}
use native.Mathlib.Decide.{dec_lt}
use native.Mathlib.Omega.{arith}
use lib.ListN.{length, get_or-eq_default}
use Rattle.laws.specs.Values.{list_to}
use Rattle.laws.specs.Mesh.{Triangle}
use Rattle.laws.proofs.Values.{length_list, list_at}
use Rattle.mesh.specs.Mesh.{triangle_count, triangle_at, triangles_of}
use Rattle.sets.specs.Led.{Led, here}
use Rattle.sets.specs.Sets.{parent, Falling, root, Sound, Joined, Together}
use Rattle.sets.proofs.Roots.{root_fixed}
use Rattle.sets.proofs.Leading.{led_first, led_second}

-- every point alone
module _ (n : ℕ) where
  abbrev alone : List ℕ
  alone = list_to n (λ p. p)

  alone_falls : Falling alone
  alone_falls p = go (dec_lt p n)
    where
      go : Dec (p < n) → parent alone p ≤ p
      go (yes l) = omega (arith, list_at n p (λ q. q) 0 l)
      go (no ge) = omega (arith, get_or-eq_default alone 0 {n = p} (omega (arith, length_list n (λ q. q))))

  alone_root : (p : ℕ) → p < n → root alone p ≡ p
  alone_root p l = root_fixed alone alone_falls p (list_at n p (λ q. q) 0 l)

  alone_sound : (ts : List Triangle) → Sound ts alone
  alone_sound ts p q lp lq e =
      let long = length_list n (λ (r : ℕ). r) in
      subst (Led ts p) (sym (alone_root p (omega (arith, long))) ∙ e ∙ alone_root q (omega (arith, long))) here

-- the corners of the first k triangles in one set, and nothing joined that sides do not lead between
pub record Uniting (triangles old room : List ℕ) (k : ℕ) : Type 0 where
  pub falls : Falling room
  pub long : length room ≡ length old
  pub together : (i : ℕ) → i < k → Together triangles room i
  pub sound : Sound (triangles_of triangles) room

pub uniting_none : (triangles old room : List ℕ) → room ≡ list_to (length old) (λ p. p) → Uniting triangles old room 0
uniting_none triangles old room e =
    subst (λ r. Uniting triangles old r 0) (sym e)
    (record { falls = alone_falls (length old); long = length_list (length old) (λ p. p); together = λ i l. absurd (omega arith); sound = alone_sound (length old) (triangles_of triangles) })

pub uniting_more : (triangles old room mid after : List ℕ) (k : ℕ) → k < triangle_count triangles → Uniting triangles old room k
    → Joined (triangle_at triangles k).one (triangle_at triangles k).two room mid → Joined (triangle_at triangles k).two (triangle_at triangles k).three mid after
    → Uniting triangles old after (k + 1)
uniting_more triangles old room mid after k l u a b =
    record {
      falls = b.falls;
      long = b.long ∙ a.long ∙ u.long;
      together = together;
      sound = b.sound (triangles_of triangles) (led_second triangles k l) (a.sound (triangles_of triangles) (led_first triangles k l) u.sound);
    }
  where
    keeps : (p q : ℕ) → root room p ≡ root room q → root after p ≡ root after q
    keeps p q e = b.keeps p q (a.keeps p q e)

    together : (i : ℕ) → i < k + 1 → Together triangles after i
    together i li = go (dec_lt i k)
      where
        go : Dec (i < k) → Together triangles after i
        go (yes l') = let s = u.together i l' in (keeps _ _ s.0, keeps _ _ s.1)
        go (no ge) =
            let q : k ≡ i = omega arith in
            subst (Together triangles after) q (b.keeps _ _ a.joins, b.joins)
