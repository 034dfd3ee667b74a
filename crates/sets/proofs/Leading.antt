-- Sides that lead: on, back, and between the corners of a triangle.
use mathlib.Core.Path.{◌≡◌, refl, ap, sym, ◌∙◌}
use mathlib.Core.List.{List, [], ◌∷◌}
use mathlib.Core.Bool.{Bool, true, false, ◌||◌, or_comm, or-true, false≢true}
use mathlib.Core.Logic.{⊎_elim}
use Prim.Native.Nat.{ℕ, zero, suc, ◌<◌}
use native.Mathlib.Decide.{dec_lt}
use native.Mathlib.Omega.{arith}
use borrow.Author.Tests.{eq-eqb}
use Rattle.laws.specs.Range.{join_to}
use Rattle.laws.specs.Order.{is_in}
use Rattle.laws.specs.Mesh.{Triangle, Arrow, arrow, sides, same_arrow}
use Rattle.laws.proofs.Tests.{either}
use Rattle.laws.proofs.Some.{in_append}
use Rattle.laws.proofs.Sides.{sides_append, same_arrow_lem}
use Rattle.mesh.specs.Mesh.{triangle_count, triangle_at, triangles_of}
use Rattle.mesh.specs.Neighbours.{share_side}
use Rattle.sets.specs.Led.{Led, here, along}

pub led_on : (ts : List Triangle) {p q r : ℕ} → Led ts p q → Led ts q r → Led ts p r
led_on ts here w = w
led_on ts (along s v) w = along s (led_on ts v w)

share_back : (ts : List Triangle) (p q : ℕ) → share_side ts p q ≡ true → share_side ts q p ≡ true
unfolding share_side
share_back ts p q h = or_comm (is_in same_arrow (arrow q p) (sides ts)) (is_in same_arrow (arrow p q) (sides ts)) ∙ h

pub led_back : (ts : List Triangle) {p q : ℕ} → Led ts p q → Led ts q p
led_back ts here = here
led_back ts (along {p} {q} s w) = led_on ts (led_back ts w) (along (share_back ts p q s) here)

-- a side of triangle t
abbrev is_side : Arrow → Triangle → Bool
is_side a t = is_in same_arrow a (sides (t ∷ []))

arrow_same : (a : Arrow) → same_arrow a a ≡ true
unfolding same_arrow
arrow_same a = rw (eq-eqb a.from a.from refl, eq-eqb a.to a.to refl)

-- the sides of the triangles f 0, f 1, .. f (n - 1)
module _ (f : ℕ → Triangle) where
  abbrev mesh_to : ℕ → List Triangle
  mesh_to n = join_to n (λ k. f k ∷ [])

  step_in_lem : (n : ℕ) (a : Arrow) → is_in same_arrow a (sides (mesh_to (suc n))) ≡ (is_in same_arrow a (sides (mesh_to n)) || is_side a (f n))
  unfolding join_to
  step_in_lem n a = ap (is_in same_arrow a) (sides_append (mesh_to n) (f n ∷ [])) ∙ in_append same_arrow a (sides (mesh_to n)) (sides (f n ∷ []))

  side_in : (n k : ℕ) (a : Arrow) → k < n → is_side a (f k) ≡ true → is_in same_arrow a (sides (mesh_to n)) ≡ true
  side_in zero k a l h = absurd (omega arith)
  side_in (suc n) k a l h = step_in_lem n a ∙ go (dec_lt k n) (λ l'. side_in n k a l' h)
    where
      go : Dec (k < n) → (k < n → is_in same_arrow a (sides (mesh_to n)) ≡ true) → (is_in same_arrow a (sides (mesh_to n)) || is_side a (f n)) ≡ true
      go (yes l') below = rw (below l')
      go (no ge) below =
          let q : k ≡ n = omega arith in
          ap (λ b. is_in same_arrow a (sides (mesh_to n)) || b) (rw q at h) ∙ or-true (is_in same_arrow a (sides (mesh_to n)))

  -- what is the same at both ends of each triangle's sides is the same at both ends of any side
  module _ (c : ℕ → ℕ) (a : Arrow) where
    one_side : (t : Triangle) → c t.one ≡ c t.two → c t.two ≡ c t.three → is_side a t ≡ true → c a.from ≡ c a.to
    unfolding sides is_in
    one_side t e g h =
        ⊎_elim
        (λ s. ends (arrow t.one t.two) s e)
        (λ r. ⊎_elim
        (λ s. ends (arrow t.two t.three) s g)
        (λ r. ⊎_elim
        (λ s. ends (arrow t.three t.one) s (sym (e ∙ g)))
        (λ r. absurd (false≢true r))
        (either (same_arrow a (arrow t.three t.one)) false r))
        (either (same_arrow a (arrow t.two t.three)) (same_arrow a (arrow t.three t.one) || false) r))
        (either (same_arrow a (arrow t.one t.two)) (same_arrow a (arrow t.two t.three) || (same_arrow a (arrow t.three t.one) || false)) h)
      where
        ends : (b : Arrow) → same_arrow a b ≡ true → c b.from ≡ c b.to → c a.from ≡ c a.to
        ends b s h = let q : a ≡ b = same_arrow_lem a b s in ap (λ x. c x.from) q ∙ h ∙ sym (ap (λ x. c x.to) q)

    any_side : (n : ℕ) → ((k : ℕ) → k < n → (c (f k).one ≡ c (f k).two) × (c (f k).two ≡ c (f k).three)) → is_in same_arrow a (sides (mesh_to n)) ≡ true
        → c a.from ≡ c a.to
    unfolding join_to sides is_in
    any_side zero same h = absurd (false≢true h)
    any_side (suc n) same h =
        ⊎_elim
        (λ s. any_side n (λ k l. same k (omega arith)) s)
        (λ s. one_side (f n) (same n (omega arith)).0 (same n (omega arith)).1 s)
        (either (is_in same_arrow a (sides (mesh_to n))) (is_side a (f n)) (sym (step_in_lem n a) ∙ h))

module _ (triangles : List ℕ) where
  -- what is the same at all corners of each triangle is the same wherever sides lead
  module _ (c : ℕ → ℕ) (same : (k : ℕ) → k < triangle_count triangles → (c (triangle_at triangles k).one ≡ c (triangle_at triangles k).two) × (c (triangle_at triangles k).two ≡ c (triangle_at triangles k).three)) where
    shared_same : (p q : ℕ) → share_side (triangles_of triangles) p q ≡ true → c p ≡ c q
    unfolding share_side triangles_of
    shared_same p q h =
        ⊎_elim
        (λ s. any_side (triangle_at triangles) c (arrow p q) (triangle_count triangles) same s)
        (λ s. sym (any_side (triangle_at triangles) c (arrow q p) (triangle_count triangles) same s))
        (either (is_in same_arrow (arrow p q) (sides (triangles_of triangles))) (is_in same_arrow (arrow q p) (sides (triangles_of triangles))) h)

    pub led_same : {p q : ℕ} → Led (triangles_of triangles) p q → c p ≡ c q
    led_same here = refl
    led_same (along {p} {q} s w) = shared_same p q s ∙ led_same w

  -- sides lead from corner to corner
  module _ (k : ℕ) (small : k < triangle_count triangles) where
    abbrev t : Triangle
    t = triangle_at triangles k

    by_side : (a : Arrow) → is_side a t ≡ true → Led (triangles_of triangles) a.from a.to
    unfolding share_side triangles_of
    by_side a h = along {p = a.from} {q = a.to} (rw (side_in (triangle_at triangles) (triangle_count triangles) k a small h)) here

    pub led_first : Led (triangles_of triangles) t.one t.two
    unfolding sides is_in
    led_first = by_side (arrow t.one t.two) (rw (arrow_same (arrow t.one t.two)))

    pub led_second : Led (triangles_of triangles) t.two t.three
    unfolding sides is_in
    led_second =
        by_side (arrow t.two t.three) (rw (arrow_same (arrow t.two t.three)) (or-true (same_arrow (arrow t.two t.three) (arrow t.one t.two))))
