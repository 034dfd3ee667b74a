-- A point's list has its neighbours, each once: whatever they are worth, both lists are worth the same.
use mathlib.Core.Path.{◌≡◌, refl, ap, ap₂, sym, ◌∙◌}
use mathlib.Core.List.{List, [], ◌∷◌, ◌++◌}
use mathlib.Core.Bool.{Bool, true, false, cond, ◌&&◌, ◌||◌, xor, not}
use Prim.Native.Nat.{ℕ, zero, suc, ◌+◌, ◌<◌}
use native.Mathlib.Omega.{arith}
use lib.Dec.{eqb}
use lib.ListN.{length, get_or}
use borrow.Author.Tests.{eqb-true}
use Rattle.laws.specs.Range.{sum_to, join_to, some_to}
use Rattle.laws.specs.Sum.{sum_of}
use Rattle.laws.specs.Order.{is_in}
use Rattle.laws.specs.Bits.{all_rows}
use Rattle.laws.specs.Mesh.{Triangle, arrow, sides, same_arrow}
use Rattle.laws.proofs.Tests.{row_at, eqb_same}
use Rattle.laws.proofs.Sums.{sum_append, sum_ones}
use Rattle.laws.proofs.Ranges.{sum_cong, sum_add, sum_picks, sum_quiet, some_cong}
use Rattle.laws.proofs.Some.{some_or, some_in, in_append, in_join, sum_keep}
use Rattle.laws.proofs.Sides.{sides_join}
use Rattle.mesh.specs.Mesh.{triangle_count, triangle_at, triangles_of}
use Rattle.mesh.specs.Neighbours.{share_side, neighbours}
use Rattle.neighbours.specs.Lists.{two_if, others, bucket_to, bucket, met_to, different_to, list_of, ListsFit}
use Rattle.neighbours.proofs.Listing.{bucket_below}

-- what the different ones of n numbers below v are worth: each that was met, once
different_sum : (g f : ℕ → ℕ) (v n : ℕ) → ((k : ℕ) → k < n → f k < v) → sum_of g (different_to f n) ≡ sum_to v (λ q. cond (met_to f n q) (g q) 0)
unfolding different_to met_to join_to some_to sum_of sum_to
different_sum g f v zero h = sym (sum_quiet 0 v (λ q. 0) (omega arith) (λ i a b. refl))
different_sum g f v (suc n) h = go (met_to f n (f n)) refl (different_sum g f v n (λ k l. h k (omega arith)))
  where
    -- one that was not met before
    more : (q : ℕ) (b : Bool) → eqb (f n) q ≡ b → met_to f n (f n) ≡ false → cond (b || met_to f n q) (g q) 0 ≡ cond (met_to f n q) (g q) 0 + cond b (g (f n)) 0
    more q true e m = let is : f n ≡ q = eqb-true (f n) q e in rw (← is, m) (omega arith)
    more q false e m = omega arith

    again : (q : ℕ) (b : Bool) → eqb (f n) q ≡ b → met_to f n (f n) ≡ true → cond (b || met_to f n q) (g q) 0 ≡ cond (met_to f n q) (g q) 0
    again q true e m = let is : f n ≡ q = eqb-true (f n) q e in rw (← is, m)
    again q false e m = refl

    go : (b : Bool) → met_to f n (f n) ≡ b → sum_of g (different_to f n) ≡ sum_to v (λ q. cond (met_to f n q) (g q) 0)
        → sum_of g (different_to f n ++ cond b [] (f n ∷ [])) ≡ sum_to v (λ q. cond (eqb (f n) q || met_to f n q) (g q) 0)
    go true m before =
        sum_append g (different_to f n) []
        ∙ omega (arith, before)
        ∙ sym (sum_cong v (λ q. cond (eqb (f n) q || met_to f n q) (g q) 0) (λ q. cond (met_to f n q) (g q) 0) (λ q l. again q (eqb (f n) q) refl m))
    go false m before =
        sum_append g (different_to f n) (f n ∷ [])
        ∙ omega (arith, before, sum_picks v (f n) (g (f n)) (h n (omega arith)))
        ∙ sym (sum_cong v (λ q. cond (eqb (f n) q || met_to f n q) (g q) 0) (λ q. cond (met_to f n q) (g q) 0 + cond (eqb (f n) q) (g (f n)) 0) (λ q l. more q (eqb (f n) q) refl m)
        ∙ sum_add v (λ q. cond (met_to f n q) (g q) 0) (λ q. cond (eqb (f n) q) (g (f n)) 0))

-- Which points are met: those that share a side.

eqb_turned : (a b : ℕ) → eqb a b ≡ eqb b a
eqb_turned a b = eqb_same a b b a sym sym

-- is q in a list of numbers
abbrev same : ℕ → ℕ → Bool
same q x = eqb x q

in_two : (q : ℕ) (b : Bool) (x y : ℕ) → is_in same q (two_if b x y) ≡ (b && (eqb x q || (eqb y q || false)))
unfolding is_in
in_two q true x y = refl
in_two q false x y = refl

-- of a triangle whose corners are p or not, and q or not: do they put q into the bucket of p, and does a side join p and q
abbrev puts : Bool → Bool → Bool → Bool → Bool → Bool → Bool
puts p1 p2 p3 q1 q2 q3 =
    (p1 && (q2 || (q3 || false))) || ((p2 && (q3 || (q1 || false))) || (p3 && (q1 || (q2 || false))))

abbrev joins : Bool → Bool → Bool → Bool → Bool → Bool → Bool
joins p1 p2 p3 q1 q2 q3 =
    ((p1 && q2) || ((p2 && q3) || ((p3 && q1) || false))) || ((q1 && p2) || ((q2 && p3) || ((q3 && p1) || false)))

abbrev corner : List Bool → ℕ → Bool
corner bs i = get_or bs i false

abbrev agree : List Bool → Bool
agree bs =
    not (xor (puts (corner bs 0) (corner bs 1) (corner bs 2) (corner bs 3) (corner bs 4) (corner bs 5))
    (joins (corner bs 0) (corner bs 1) (corner bs 2) (corner bs 3) (corner bs 4) (corner bs 5)))

every_row : all_rows 6 agree ≡ true
unfolding all_rows xor
every_row = refl

not_apart : (a b : Bool) → not (xor a b) ≡ true → a ≡ b
unfolding xor
not_apart true true h = refl
not_apart true false h = sym h
not_apart false true h = h
not_apart false false h = refl

puts_joins : (p1 p2 p3 q1 q2 q3 : Bool) → puts p1 p2 p3 q1 q2 q3 ≡ joins p1 p2 p3 q1 q2 q3
puts_joins p1 p2 p3 q1 q2 q3 =
    not_apart (puts p1 p2 p3 q1 q2 q3) (joins p1 p2 p3 q1 q2 q3) (row_at 6 agree every_row (p1 ∷ p2 ∷ p3 ∷ q1 ∷ q2 ∷ q3 ∷ []) refl)

module _ (p q : ℕ) where
  -- does a triangle's side join p and q, either way
  abbrev joined : Triangle → Bool
  joined t = is_in same_arrow (arrow p q) (sides (t ∷ [])) || is_in same_arrow (arrow q p) (sides (t ∷ []))

  others_join : (t : Triangle) → is_in same q (others t p) ≡ joined t
  unfolding others is_in sides same_arrow
  others_join t =
      in_append same q x (y ++ z)
      ∙ ap (λ b. is_in same q x || b) (in_append same q y z)
      ∙ rw (in_two q (eqb t.one p) t.two t.three, in_two q (eqb t.two p) t.three t.one, in_two q (eqb t.three p) t.one t.two)
      (puts_joins (eqb t.one p) (eqb t.two p) (eqb t.three p) (eqb t.one q) (eqb t.two q) (eqb t.three q)
      ∙ rw (eqb_turned t.one p, eqb_turned t.two p, eqb_turned t.three p, eqb_turned t.one q, eqb_turned t.two q, eqb_turned t.three q))
    where
      x : List ℕ
      x = two_if (eqb t.one p) t.two t.three

      y : List ℕ
      y = two_if (eqb t.two p) t.three t.one

      z : List ℕ
      z = two_if (eqb t.three p) t.one t.two

  -- an arrow among the sides of all triangles
  among : (ts : List ℕ) (from to : ℕ) → is_in same_arrow (arrow from to) (sides (triangles_of ts)) ≡ some_to (triangle_count ts) (λ i. is_in same_arrow (arrow from to) (sides (triangle_at ts i ∷ [])))
  unfolding triangles_of
  among ts from to =
      ap (is_in same_arrow (arrow from to)) (sides_join (triangle_count ts) (λ i. triangle_at ts i ∷ []))
      ∙ in_join same_arrow (arrow from to) (triangle_count ts) (λ i. sides (triangle_at ts i ∷ []))

  met_shares : (ts : List ℕ) → met_to (λ k. get_or (bucket ts p) k 0) (length (bucket ts p)) q ≡ share_side (triangles_of ts) p q
  unfolding met_to share_side bucket_to
  met_shares ts =
      some_in same q 0 (bucket ts p)
      ∙ in_join same q (triangle_count ts) (λ i. others (triangle_at ts i) p)
      ∙ some_cong (triangle_count ts) (λ i. is_in same q (others (triangle_at ts i) p)) (λ i. joined (triangle_at ts i)) (λ i l. others_join (triangle_at ts i))
      ∙ sym (some_or (triangle_count ts) (λ i. is_in same_arrow (arrow p q) (sides (triangle_at ts i ∷ []))) (λ i. is_in same_arrow (arrow q p) (sides (triangle_at ts i ∷ []))))
      ∙ sym (ap₂ ◌||◌ (among ts p q) (among ts q p))

-- whatever points are worth, a point's list and its neighbours are worth the same
pub list_sum : (ts : List ℕ) (v at size : ℕ) → ListsFit ts v at size → (g : ℕ → ℕ) (p : ℕ) → sum_of g (list_of ts p) ≡ sum_of g (neighbours v (triangles_of ts) p)
unfolding list_of neighbours
list_sum ts v at size ok g p =
    different_sum g (λ k. get_or (bucket ts p) k 0) v (length (bucket ts p)) (bucket_below ts v at size ok p)
    ∙ sum_cong v (λ q. cond (met_to (λ k. get_or (bucket ts p) k 0) (length (bucket ts p)) q) (g q) 0) (λ q. cond (share_side (triangles_of ts) p q) (g q) 0)
    (λ q l. ap (λ b. cond b (g q) 0) (met_shares p q ts))
    ∙ sym (sum_keep g v (share_side (triangles_of ts) p))

-- and so they are of one length
pub list_length : (ts : List ℕ) (v at size : ℕ) → ListsFit ts v at size → (p : ℕ) → length (list_of ts p) ≡ length (neighbours v (triangles_of ts) p)
list_length ts v at size ok p =
    sym (sum_ones (list_of ts p)) ∙ list_sum ts v at size ok (λ q. 1) p ∙ sum_ones (neighbours v (triangles_of ts) p)
