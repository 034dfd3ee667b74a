-- A set of points that no side leads out of or into, and from which triangles run evenly, has closed triangles; and joined once, where no two of all triangles run the same way.
use mathlib.Core.Path.{◌≡◌, refl, ap, sym, ◌∙◌}
use mathlib.Core.List.{List, [], ◌∷◌}
use mathlib.Core.Bool.{Bool, true, false, cond, ◌&&◌, and-false, true≢false, false≢true}
use Prim.Native.Nat.{ℕ, ◌+◌, ◌≤◌}
use native.Mathlib.Omega.{arith}
use lib.Dec.{eqb}
use borrow.Author.Tests.{ne_eqb}
use Rattle.laws.specs.Range.{one_if}
use Rattle.laws.specs.Sum.{sum_of, All}
use Rattle.laws.specs.Mesh.{Triangle, sides, total}
use Rattle.laws.proofs.Sums.{all_any, sum_kept, sum_alike, sum_nothing, sum_le}
use Rattle.laws.proofs.Sides.{total_sides}
use Rattle.closed.specs.Runs.{runs, Even}
use Rattle.closed.specs.Shell.{SidesStay, triangles_in, Closed, Paired}
use Rattle.closed.proofs.Once.{joined_once}

module _ (inside : ℕ → Bool) (w : ℕ → ℕ → ℕ) where
  -- a weight that is nothing where both ends have the value b
  abbrev Nothing : Bool → Type 0
  Nothing b = (i j : ℕ) → inside i ≡ b → inside j ≡ b → w i j ≡ 0

  -- the sides of one triangle, all of whose corners are inside or none
  abbrev three_sides : Triangle → ℕ
  three_sides t = w t.one t.two + w t.two t.three + w t.three t.one

  three_nothing : (t : Triangle) (b : Bool) → Nothing b → inside t.one ≡ b → inside t.one ≡ inside t.two → inside t.two ≡ inside t.three
      → three_sides t ≡ 0
  three_nothing t b none one two three =
      let second : inside t.two ≡ b = sym two ∙ one in
      let third : inside t.three ≡ b = sym three ∙ second in
      omega (arith, none t.one t.two one second, none t.two t.three second third, none t.three t.one third one)

  -- no side of a triangle leads out
  abbrev Together : Triangle → Type 0
  Together t = (inside t.one ≡ inside t.two) × (inside t.two ≡ inside t.three)

  together : (ts : List Triangle) → SidesStay inside ts → All Together ts
  unfolding sides
  together [] stay = tt
  together (t ∷ ts) stay = ((stay.0, stay.1.0), together ts stay.1.1.1)

  -- what the set's triangles weigh, by a test of each triangle
  abbrev three_if : Triangle → ℕ
  three_if t = cond (inside t.one) (three_sides t) 0

  by_test : (ts : List Triangle) → total w (sides (triangles_in inside ts)) ≡ sum_of three_if ts
  by_test ts = total_sides w (triangles_in inside ts) ∙ sum_kept (λ t. inside t.one) three_sides ts

  -- outside nothing weighs: the set's triangles weigh what all do
  all_inside : Nothing false → (ts : List Triangle) → SidesStay inside ts → total w (sides (triangles_in inside ts)) ≡ total w (sides ts)
  all_inside none ts stay = by_test ts ∙ sum_alike Together three_if three_sides (λ t s. go t s (inside t.one) refl) ts (together ts stay) ∙ sym (total_sides w ts)
    where
      go : (t : Triangle) → Together t → (b : Bool) → inside t.one ≡ b → cond b (three_sides t) 0 ≡ three_sides t
      go t s true e = refl
      go t s false e = sym (three_nothing t false none e s.0 s.1)

  -- inside nothing weighs: the set's triangles weigh nothing
  none_inside : Nothing true → (ts : List Triangle) → SidesStay inside ts → total w (sides (triangles_in inside ts)) ≡ 0
  none_inside none ts stay = by_test ts ∙ sum_nothing Together three_if (λ t s. go t s (inside t.one) refl) ts (together ts stay)
    where
      go : (t : Triangle) → Together t → (b : Bool) → inside t.one ≡ b → cond b (three_sides t) 0 ≡ 0
      go t s true e = three_nothing t true none e s.0 s.1
      go t s false e = refl

  -- fewer triangles weigh no more
  fewer_weigh : (ts : List Triangle) → total w (sides (triangles_in inside ts)) ≤ total w (sides ts)
  fewer_weigh ts =
      omega (
        arith,
        by_test ts,
        total_sides w ts,
        sum_le (λ t. Unit {0}) three_if three_sides (λ t u. go (inside t.one) (three_sides t)) ts (all_any (λ t. Unit {0}) (λ t. tt) ts),
      )
    where
      go : (b : Bool) (v : ℕ) → cond b v 0 ≤ v
      go true v = omega arith
      go false v = omega arith

module _ (inside : ℕ → Bool) (ts : List Triangle) (stay : SidesStay inside ts) where
  -- an end on the other side of the set's rim than p is not p
  elsewhere : (b c : Bool) (i p : ℕ) → inside p ≡ b → inside i ≡ c → (b ≡ c → ⊥) → eqb i p ≡ false
  elsewhere b c i p hp hi differ = ne_eqb i p (λ e. differ (sym hp ∙ ap inside (sym e) ∙ hi))

  from_elsewhere : (b c : Bool) (p q : ℕ) → inside p ≡ b → (b ≡ c → ⊥) → Nothing inside (λ i j. one_if (eqb i p && eqb j q)) c
  from_elsewhere b c p q h differ i j hi hj = rw (elsewhere b c i p h hi differ)

  to_elsewhere : (b c : Bool) (p q : ℕ) → inside p ≡ b → (b ≡ c → ⊥) → Nothing inside (λ i j. one_if (eqb i q && eqb j p)) c
  to_elsewhere b c p q h differ i j hi hj = rw (elsewhere b c j p h hj differ) (ap one_if (and-false (eqb i q)))

  -- where the triangles of all run evenly from each point inside, those of the set are closed
  pub closes : ((p q : ℕ) → inside p ≡ true → Even ts p q) → Closed (triangles_in inside ts)
  unfolding runs
  closes even p q = go (inside p) refl
    where
      there : ℕ → ℕ → ℕ
      there i j = one_if (eqb i p && eqb j q)

      back : ℕ → ℕ → ℕ
      back i j = one_if (eqb i q && eqb j p)

      go : (b : Bool) → inside p ≡ b → runs (triangles_in inside ts) p q ≡ runs (triangles_in inside ts) q p
      go true h =
          all_inside inside there (from_elsewhere true false p q h true≢false) ts stay
          ∙ even p q h
          ∙ sym (all_inside inside back (to_elsewhere true false p q h true≢false) ts stay)
      go false h =
          none_inside inside there (from_elsewhere false true p q h false≢true) ts stay
          ∙ sym (none_inside inside back (to_elsewhere false true p q h false≢true) ts stay)

  pub pairs : Closed (triangles_in inside ts) → ((p q : ℕ) → runs ts p q ≤ 1) → Paired (triangles_in inside ts)
  pairs closed most p q = joined_once (triangles_in inside ts) p q (closed p q) fewer
    where
      fewer : runs (triangles_in inside ts) p q ≤ 1
      fewer = unfold runs in omega (arith, fewer_weigh inside (λ i j. one_if (eqb i p && eqb j q)) ts, most p q)
