-- One root put under another: the two sets are one, nothing is parted, and nothing else is joined.
use mathlib.Core.Path.{◌≡◌, ap, sym, ◌∙◌}
use mathlib.Core.List.{List}
use mathlib.Core.Bool.{cond}
use Prim.Native.Nat.{ℕ, ◌<◌, ◌≤◌}
use native.Mathlib.Decide.{ℕ_discrete}
use native.Mathlib.Omega.{arith}
use lib.Dec.{eqb}
use lib.ListN.{length, set, length-set}
use borrow.Author.Tests.{eq-eqb, ne_eqb}
use Rattle.laws.specs.Mesh.{Triangle}
use Rattle.sets.specs.Led.{Led}
use Rattle.sets.specs.Sets.{parent, Falling, root, SameSets, Sound, Joined}
use Rattle.sets.proofs.Leading.{led_back, led_on}
use Rattle.sets.proofs.Roots.{root_parent, root_fixed, root_only, root_top, root_le, parent_there, parent_else, set_falls}

-- a root's new root
abbrev under : ℕ → ℕ → ℕ → ℕ
under lo hi x = cond (eqb x hi) lo x

module _ (lo hi x : ℕ) where
  under_there : x ≡ hi → under lo hi x ≡ lo
  under_there e = rw (eq-eqb x hi e)

  under_else : (x ≡ hi → ⊥) → under lo hi x ≡ x
  under_else n = rw (ne_eqb x hi n)

under_low : (lo hi : ℕ) → under lo hi lo ≡ lo
under_low lo hi = go (ℕ_discrete lo hi)
  where
    go : Dec (lo ≡ hi) → under lo hi lo ≡ lo
    go (yes e) = under_there lo hi lo e
    go (no n) = under_else lo hi lo n

-- the roots that become one
data Became (lo hi x y : ℕ) : Type 0 where
  same : x ≡ y → Became lo hi x y
  there : x ≡ lo → y ≡ hi → Became lo hi x y
  back : x ≡ hi → y ≡ lo → Became lo hi x y

became : (lo hi x y : ℕ) → under lo hi x ≡ under lo hi y → Became lo hi x y
became lo hi x y h = go (ℕ_discrete x hi) (ℕ_discrete y hi)
  where
    go : Dec (x ≡ hi) → Dec (y ≡ hi) → Became lo hi x y
    go (yes a) (yes b) = same (a ∙ sym b)
    go (yes a) (no b) = back a (sym (under_else lo hi y b) ∙ sym h ∙ under_there lo hi x a)
    go (no a) (yes b) = there (sym (under_else lo hi x a) ∙ h ∙ under_there lo hi y b) b
    go (no a) (no b) = same (sym (under_else lo hi x a) ∙ h ∙ under_else lo hi y b)

module _ (room : List ℕ) (falls : Falling room) (lo hi : ℕ) (small : hi < length room) (low : lo ≤ hi)
    (lo-top : parent room lo ≡ lo) (hi-top : parent room hi ≡ hi) where
  abbrev after : List ℕ
  after = set room hi lo

  pub link_falls : Falling after
  link_falls = set_falls room falls hi lo small low

  pub link_root : (p : ℕ) → root after p ≡ under lo hi (root room p)
  link_root = root_only after link_falls (λ p. under lo hi (root room p)) same tops
    where
      same : (p : ℕ) → under lo hi (root room (parent after p)) ≡ under lo hi (root room p)
      same p = go (ℕ_discrete p hi)
        where
          go : Dec (p ≡ hi) → under lo hi (root room (parent after p)) ≡ under lo hi (root room p)
          go (yes e) =
              rw e
              (ap (λ q. under lo hi (root room q)) (parent_there room falls hi lo small low)
              ∙ ap (under lo hi) (root_fixed room falls lo lo-top)
              ∙ under_low lo hi
              ∙ sym (under_there lo hi (root room hi) (root_fixed room falls hi hi-top)))
          go (no n) = ap (λ q. under lo hi (root room q)) (parent_else room falls hi lo small low p n) ∙ ap (under lo hi) (root_parent room falls p)

      tops : (p : ℕ) → parent after p ≡ p → under lo hi (root room p) ≡ p
      tops p h = go (ℕ_discrete p hi)
        where
          go : Dec (p ≡ hi) → under lo hi (root room p) ≡ p
          go (yes e) =
              under_there lo hi (root room p) (ap (root room) e ∙ root_fixed room falls hi hi-top)
              ∙ sym (parent_there room falls hi lo small low)
              ∙ ap (parent after) (sym e)
              ∙ h
          go (no n) =
              let f = root_fixed room falls p (sym (parent_else room falls hi lo small low p n) ∙ h) in
              ap (under lo hi) f ∙ under_else lo hi p n

-- the same, told of two points whose roots these are, in a list with the same sets
module _ (old room : List ℕ) (s : SameSets old room) (a b : ℕ) (a_small : a < length old) (b_small : b < length old) where
  module _ (lo hi : ℕ) (small : hi < length room) (low : lo ≤ hi) (falls : Falling room) (lo-top : parent room lo ≡ lo) (hi-top : parent room hi ≡ hi) where
    abbrev here : ℕ → ℕ
    here p = under lo hi (root old p)

    roots : (p : ℕ) → root (set room hi lo) p ≡ here p
    roots p = link_root room falls lo hi small low lo-top hi-top p ∙ ap (under lo hi) (s.roots p)

    linked : (here a ≡ here b) → ((ts : List Triangle) → Led ts a b → Sound ts old → Sound ts (set room hi lo)) → Joined a b old (set room hi lo)
    linked one sound =
        record {
          falls = link_falls room falls lo hi small low lo-top hi-top;
          long = length-set room hi lo ∙ s.long;
          keeps = λ p q e. roots p ∙ ap (under lo hi) e ∙ sym (roots q);
          joins = roots a ∙ one ∙ sym (roots b);
          sound = sound;
        }

    -- a's root is the lower, or b's
    pub link_low : root old a ≡ lo → root old b ≡ hi → Joined a b old (set room hi lo)
    link_low ra rb = linked (ap (under lo hi) ra ∙ under_low lo hi ∙ sym (under_there lo hi (root old b) rb)) sound
      where
        sound : (ts : List Triangle) → Led ts a b → Sound ts old → Sound ts (set room hi lo)
        sound ts side old-sound p q lp lq e = go (became lo hi (root old p) (root old q) (sym (roots p) ∙ e ∙ roots q))
          where
            fit : length (set room hi lo) ≡ length old
            fit = length-set room hi lo ∙ s.long

            go : Became lo hi (root old p) (root old q) → Led ts p q
            go (same h) = old-sound p q (omega (arith, fit)) (omega (arith, fit)) h
            go (there x y) =
                led_on ts (old-sound p a (omega (arith, fit)) a_small (x ∙ sym ra)) (led_on ts side (old-sound b q b_small (omega (arith, fit)) (rb ∙ sym y)))
            go (back x y) =
                led_on ts (old-sound p b (omega (arith, fit)) b_small (x ∙ sym rb)) (led_on ts (led_back ts side) (old-sound a q a_small (omega (arith, fit)) (ra ∙ sym y)))

-- joined either way round
pub joined_back : (a b : ℕ) (old room : List ℕ) → Joined a b old room → Joined b a old room
joined_back a b old room j =
    record {
      falls = j.falls;
      long = j.long;
      keeps = j.keeps;
      joins = sym j.joins;
      sound = λ ts side s. j.sound ts (led_back ts side) s;
    }

-- the lower root's point first
pub link : (old room : List ℕ) → Falling old → SameSets old room → (a b : ℕ) → a < length old → b < length old → (lo hi : ℕ) → lo ≡ root old a → hi ≡ root old b
    → lo ≤ hi → Joined a b old (set room hi lo)
link old room old-falls s a b a_small b_small lo hi ea eb low =
    link_low
    old
    room
    s
    a
    b
    a_small
    b_small
    lo
    hi
    (omega (arith, s.long, root_le old old-falls b))
    low
    s.falls
    (top lo a ea)
    (top hi b eb)
    (sym ea)
    (sym eb)
  where
    top : (x p : ℕ) → x ≡ root old p → parent room x ≡ x
    top x p e =
        let r : x ≡ root room p = e ∙ sym (s.roots p) in
        ap (parent room) r ∙ root_top room s.falls p ∙ sym r
