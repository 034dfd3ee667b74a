-- What the two rooms hold of each point after a store.
use mathlib.Core.Bool.{Bool, true, false, cond}
use mathlib.Core.List.{List}
use mathlib.Core.Path.{◌≡◌, refl, sym, ◌∙◌}
use Prim.Native.Nat.{ℕ, ◌+◌, ◌*◌, ◌<◌}
use native.Mathlib.Omega.{arith}
use lib.Dec.{eqb}
use lib.Ieee.{Float, nan}
use lib.ListN.{length, get_or, set, length-set}
use lib.Seq.{get_or-set_same, get_or-set_other}
use borrow.Author.Tests.{eqb-true, eqb-false}
use Rattle.measures.specs.declared.vectors.Vector.{Vector}
use Rattle.measures.specs.Vectors.{vector_at, put_vector}
use Rattle.sums.specs.Sums.{Sum, at_point}
use Rattle.sums.specs.Rooms.{sum_at}

-- three numbers put at three places, one after the other, and read
same_three : (room : List Float) (at : ℕ) (v : Vector) → at + 2 < length room → vector_at (put_vector room at v) at ≡ v
unfolding vector_at put_vector
same_three room at v h =
    let one = set room at v.x in
    let two = set one (at + 1) v.y in
    let l1 : length one ≡ length room = length-set room at v.x in
    let l2 : length two ≡ length one = length-set one (at + 1) v.y in
    let x : get_or (set two (at + 2) v.z) at nan ≡ v.x =
    get_or-set_other two (at + 2) at v.z nan (λ e. absurd (omega arith))
    ∙ get_or-set_other one (at + 1) at v.y nan (λ e. absurd (omega arith))
    ∙ get_or-set_same room at v.x nan (omega arith) in
    let y : get_or (set two (at + 2) v.z) (at + 1) nan ≡ v.y =
    get_or-set_other two (at + 2) (at + 1) v.z nan (λ e. absurd (omega arith))
    ∙ get_or-set_same one (at + 1) v.y nan (omega arith) in
    let z : get_or (set two (at + 2) v.z) (at + 2) nan ≡ v.z = get_or-set_same two (at + 2) v.z nan (omega arith) in
    rw (x, y, z)

-- and at three other places
other_at : (room : List Float) (at k : ℕ) (v : Vector) → (k ≡ at → ⊥) → (k ≡ at + 1 → ⊥) → (k ≡ at + 2 → ⊥) → get_or (put_vector room at v) k nan ≡ get_or room k nan
unfolding put_vector
other_at room at k v a b c =
    get_or-set_other (set (set room at v.x) (at + 1) v.y) (at + 2) k v.z nan c
    ∙ get_or-set_other (set room at v.x) (at + 1) k v.y nan b
    ∙ get_or-set_other room at k v.x nan a

pub vector_same : (room : List Float) (p : ℕ) (v : Vector) → 3 * p + 2 < length room → vector_at (put_vector room (3 * p) v) (3 * p) ≡ v
vector_same room p v h = same_three room (3 * p) v h

pub vector_other : (room : List Float) (p k : ℕ) (v : Vector) → (p ≡ k → ⊥) → vector_at (put_vector room (3 * p) v) (3 * k) ≡ vector_at room (3 * k)
unfolding vector_at
vector_other room p k v h =
    let x = other_at room (3 * p) (3 * k) v (λ e. h (omega arith)) (λ e. absurd (omega arith)) (λ e. absurd (omega arith)) in
    let y = other_at room (3 * p) (3 * k + 1) v (λ e. absurd (omega arith)) (λ e. h (omega arith)) (λ e. absurd (omega arith)) in
    let z = other_at room (3 * p) (3 * k + 2) v (λ e. absurd (omega arith)) (λ e. absurd (omega arith)) (λ e. h (omega arith)) in
    cc

-- both rooms changed at one point, by what is done to its sums
module _ (areas vectors : List Float) (p : ℕ) (more : Sum → Sum) (small : p < length areas) (fits : length vectors ≡ 3 * length areas) (x : ℕ) where
  abbrev new : Sum
  new = more (sum_at areas vectors p)

  stored_by : (b : Bool) → eqb p x ≡ b
      → sum_at (set areas p new.area) (put_vector vectors (3 * p) new.vector) x ≡ cond b (more (sum_at areas vectors x)) (sum_at areas vectors x)
  unfolding sum_at
  stored_by true e =
      let same : p ≡ x = eqb-true p x e in
      let n : get_or (set areas p new.area) p nan ≡ new.area = get_or-set_same areas p new.area nan small in
      let w : vector_at (put_vector vectors (3 * p) new.vector) (3 * p) ≡ new.vector = vector_same vectors p new.vector (omega arith) in
      rw (sym same) (rw (n, w))
  stored_by false e =
      let n : get_or (set areas p new.area) x nan ≡ get_or areas x nan = get_or-set_other areas p x new.area nan (λ q. eqb-false p x e (sym q)) in
      let w = vector_other vectors p x new.vector (eqb-false p x e) in
      rw (n, w)

  pub stored : sum_at (set areas p new.area) (put_vector vectors (3 * p) new.vector) x ≡ at_point p x more (sum_at areas vectors x)
  unfolding at_point
  stored = stored_by (eqb p x) refl
