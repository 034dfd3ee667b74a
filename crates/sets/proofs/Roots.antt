-- Roots: where steps from child to parent end, and what stays of them when one parent changes.
use mathlib.Core.Path.{◌≡◌, refl, ap, sym, ◌∙◌}
use mathlib.Core.List.{List}
use Prim.Native.Nat.{ℕ, zero, suc, ◌<◌, ◌≤◌}
use native.Mathlib.Decide.{dec_lt, ℕ_discrete}
use native.Mathlib.Omega.{arith}
use lib.ListN.{length, set, length-set}
use lib.Seq.{get_or-set_same, get_or-set_other}
use Rattle.sets.specs.Sets.{parent, Falling, up, root, SameSets}

module _ (room : List ℕ) where
  up_fixed : (n p : ℕ) → parent room p ≡ p → up n room p ≡ p
  unfolding up
  up_fixed zero p h = refl
  up_fixed (suc n) p h = ap (up n room) h ∙ up_fixed n p h

  up_after : (n p : ℕ) → up n room (parent room p) ≡ parent room (up n room p)
  unfolding up
  up_after zero p = refl
  up_after (suc n) p = up_after n (parent room p)

  module _ (falls : Falling room) where
    up_root : (n p : ℕ) → p ≤ n → parent room (up n room p) ≡ up n room p
    unfolding up
    up_root zero p h = omega (arith, falls p)
    up_root (suc n) p h = go (dec_lt (parent room p) p) (λ l. up_root n (parent room p) (omega arith))
      where
        go : Dec (parent room p < p) → (parent room p < p → parent room (up n room (parent room p)) ≡ up n room (parent room p))
            → parent room (up n room (parent room p)) ≡ up n room (parent room p)
        go (yes l) later = later l
        go (no ge) later =
            let e : parent room p ≡ p = omega (arith, falls p) in
            let s : up n room (parent room p) ≡ p = ap (up n room) e ∙ up_fixed n p e in
            ap (parent room) s ∙ e ∙ sym s

    up_enough : (n p : ℕ) → p ≤ n → up n room p ≡ root room p
    unfolding up root
    up_enough zero p h = let e : p ≡ 0 = omega arith in rw e
    up_enough (suc n) p h = go (dec_lt n p) (λ l. up_enough n p l)
      where
        go : Dec (n < p) → (p ≤ n → up n room p ≡ up p room p) → up n room (parent room p) ≡ up p room p
        go (yes l) later = let e : p ≡ suc n = omega arith in rw e
        go (no ge) later = up_after n p ∙ up_root n p (omega arith) ∙ later (omega arith)

    pub root_top : (p : ℕ) → parent room (root room p) ≡ root room p
    unfolding root
    root_top p = up_root p p (omega arith)

    pub root_parent : (p : ℕ) → root room (parent room p) ≡ root room p
    root_parent p = sym (up_enough p (parent room p) (falls p)) ∙ up_after p p ∙ up_root p p (omega arith) ∙ up_enough p p (omega arith)

    pub root_fixed : (p : ℕ) → parent room p ≡ p → root room p ≡ p
    unfolding root
    root_fixed p h = up_fixed p p h

    pub root_twice : (p : ℕ) → root room (root room p) ≡ root room p
    root_twice p = root_fixed (root room p) (root_top p)

    up_le : (n p : ℕ) → up n room p ≤ p
    unfolding up
    up_le zero p = omega arith
    up_le (suc n) p = omega (arith, up_le n (parent room p), falls p)

    pub root_le : (p : ℕ) → root room p ≤ p
    unfolding root
    root_le p = up_le p p

    -- what is the same for child and parent, and a root's own number at a root, is the root
    module _ (c : ℕ → ℕ) (same : (p : ℕ) → c (parent room p) ≡ c p) (tops : (p : ℕ) → parent room p ≡ p → c p ≡ p) where
      up_same : (n p : ℕ) → c (up n room p) ≡ c p
      unfolding up
      up_same zero p = refl
      up_same (suc n) p = up_same n (parent room p) ∙ same p

      pub root_only : (p : ℕ) → root room p ≡ c p
      unfolding root
      root_only p = sym (tops (root room p) (root_top p)) ∙ up_same p p

-- one parent changed
module _ (room : List ℕ) (falls : Falling room) (i x : ℕ) (small : i < length room) (low : x ≤ i) where
  abbrev after : List ℕ
  after = set room i x

  pub parent_there : parent after i ≡ x
  parent_there = get_or-set_same room i x 0 small

  pub parent_else : (p : ℕ) → (p ≡ i → ⊥) → parent after p ≡ parent room p
  parent_else p n = get_or-set_other room i p x 0 n

  pub set_falls : Falling after
  set_falls p = go (ℕ_discrete p i)
    where
      go : Dec (p ≡ i) → parent after p ≤ p
      go (yes e) = rw e (omega (arith, parent_there))
      go (no n) = omega (arith, parent_else p n, falls p)

  -- a point under another of its own set, a root only under itself
  pub set_same : root room x ≡ root room i → (x ≡ i → parent room i ≡ i) → SameSets room after
  set_same one top = record { falls = set_falls; long = length-set room i x; roots = root_only after set_falls (root room) same tops }
    where
      same : (p : ℕ) → root room (parent after p) ≡ root room p
      same p = go (ℕ_discrete p i)
        where
          go : Dec (p ≡ i) → root room (parent after p) ≡ root room p
          go (yes e) = rw e (ap (root room) parent_there ∙ one)
          go (no n) = ap (root room) (parent_else p n) ∙ root_parent room falls p

      tops : (p : ℕ) → parent after p ≡ p → root room p ≡ p
      tops p h = go (ℕ_discrete p i)
        where
          go : Dec (p ≡ i) → root room p ≡ p
          go (yes e) = root_fixed room falls p (rw e (top (sym parent_there ∙ rw e at h)))
          go (no n) = root_fixed room falls p (sym (parent_else p n) ∙ h)

-- a point put under its parent's parent
pub halved : (room : List ℕ) → Falling room → (p : ℕ) → p < length room → SameSets room (set room p (parent room (parent room p)))
halved room falls p small =
    set_same
    room
    falls
    p
    (parent room (parent room p))
    small
    (omega (arith, falls p, falls (parent room p)))
    (root_parent room falls (parent room p) ∙ root_parent room falls p)
    (λ e. omega (arith, falls p, falls (parent room p)))

pub same_then : (a b c : List ℕ) → SameSets a b → SameSets b c → SameSets a c
same_then a b c s t = record { falls = t.falls; long = t.long ∙ s.long; roots = λ p. t.roots p ∙ s.roots p }
