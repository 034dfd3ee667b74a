-- Points: their numbers are one-to-one and fill 0 to V - 1, their coordinates are within the limit, their marks are 0 or 1.
use mathlib.Core.Path.{◌≡◌, refl, ap, sym, ◌∙◌}
use mathlib.Core.List.{List}
use mathlib.Core.Bool.{Bool, true, false, ◌&&◌, xor, false≢true}
use Prim.Native.Nat.{ℕ, ◌+◌, ◌*◌, ◌/◌, ◌%◌, ◌<◌, ◌≤◌}
use native.Mathlib.Nat.{mul-le-mul_left}
use native.Mathlib.Omega.{arith}
use lib.Dec.{leb}
use lib.ListN.{length, get_or}
use borrow.Author.Tests.{leb-true, leb-false, ltb-true}
use Rattle.laws.specs.Sum.{All}
use Rattle.laws.proofs.Nearest.{nearest_most}
use Rattle.laws.proofs.Tests.{both}
use Rattle.laws.proofs.Binary.{bit_le}
use Rattle.laws.proofs.Keep.{Ranked, length_keep, rank_lt, at_rank, kept_at}
use Rattle.grid.specs.Limits.{most_side, unit, most_coordinate}
use Rattle.grid.specs.Grid.{Size, Kind, coordinate, side, along, other_end, fits_along, is_there, is_above_grey, edge_count, crossed_from, crossed, some_face, on_face, mark}
use Rattle.grid.specs.Point.{apart, offset, point_edges, number, place_from, place}

module _ (k : Kind) (n : Size) (above : ℕ → Bool) where
  -- the point on a crossed edge is one of the points, and is on that edge
  pub number_small : (e : ℕ) → e < edge_count k n → crossed k n above e ≡ true → number k n above e < length (point_edges k n above)
  unfolding number point_edges
  number_small e h c = rw (length_keep (edge_count k n) (crossed k n above)) (rank_lt (edge_count k n) e (crossed k n above) h c)

  pub edge_of_number : (e : ℕ) → e < edge_count k n → crossed k n above e ≡ true → get_or (point_edges k n above) (number k n above e) 0 ≡ e
  unfolding number point_edges
  edge_of_number e h c = at_rank (edge_count k n) e (crossed k n above) h c

  pub number_one_to_one : (e f : ℕ) → e < edge_count k n → f < edge_count k n → crossed k n above e ≡ true → crossed k n above f ≡ true
      → number k n above e ≡ number k n above f → e ≡ f
  number_one_to_one e f h l c d q =
      sym (edge_of_number e h c) ∙ ap (λ p. get_or (point_edges k n above) p 0) q ∙ edge_of_number f l d

  -- and each point is the point of a crossed edge, by its number
  pub point_of_edge : (p : ℕ) → p < length (point_edges k n above) → Ranked (edge_count k n) p (crossed k n above) (get_or (point_edges k n above) p 0)
  unfolding point_edges
  point_of_edge p h = kept_at (edge_count k n) p (crossed k n above) (rw (length_keep (edge_count k n) (crossed k n above)) at h)

  pub mark_small : (e : ℕ) → mark k n e ≤ 1
  unfolding mark
  mark_small e = bit_le (some_face (λ axis last. on_face k n axis last e))

-- between two samples of which one is above and one is not, the grey value is no further from the first than the second is
between : (v0 v1 grey : ℕ) → xor (leb grey v0) (leb grey v1) ≡ true → (apart grey v0 ≤ apart v1 v0) × (0 < apart v1 v0)
unfolding xor
between v0 v1 grey c = go (leb grey v0) refl (leb grey v1) refl c
  where
    go : (a : Bool) → leb grey v0 ≡ a → (b : Bool) → leb grey v1 ≡ b → xor a b ≡ true → (apart grey v0 ≤ apart v1 v0) × (0 < apart v1 v0)
    go true h true l c = absurd (false≢true c)
    go true h false l c = let p = leb-true grey v0 h in let q = leb-false grey v1 l in (omega arith, omega arith)
    go false h true l c = let p = leb-false grey v0 h in let q = leb-true grey v1 l in (omega arith, omega arith)
    go false h false l c = absurd (false≢true c)

pub offset_small : (v0 v1 grey : ℕ) → xor (leb grey v0) (leb grey v1) ≡ true → offset v0 v1 grey ≤ unit
unfolding offset
offset_small v0 v1 grey c =
    let b = between v0 v1 grey c in
    nearest_most (unit * apart grey v0) (apart v1 v0) unit b.1 (mul-le-mul_left unit b.0)

module _ (k : Kind) (n : Size) (grey : ℕ) (samples : List ℕ) (most : (axis : ℕ) → side n axis ≤ most_side) where
  place_along : (s d axis : ℕ) → offset (get_or samples s 0) (get_or samples (other_end n s d) 0) grey ≤ unit → fits_along n s d axis ≡ true
      → place_from k n grey samples s d axis ≤ most_coordinate
  unfolding place_from fits_along
  place_along s d axis o f = omega (arith, ltb-true (coordinate n axis s + along d axis) (side n axis) f, most axis, mul-le-mul_left (along d axis) o)

  place_from_lem : (s d : ℕ) → crossed_from k n (is_above_grey grey samples) s d ≡ true
      → (place_from k n grey samples s d 0 ≤ most_coordinate) × (place_from k n grey samples s d 1 ≤ most_coordinate) × (place_from k n grey samples s d 2 ≤ most_coordinate)
  unfolding crossed_from is_there is_above_grey
  place_from_lem s d c =
      let t = both (is_there n s d) (xor (leb grey (get_or samples s 0)) (leb grey (get_or samples (other_end n s d) 0))) c in
      let x = both (fits_along n s d 0) (fits_along n s d 1 && fits_along n s d 2) t.0 in
      let y = both (fits_along n s d 1) (fits_along n s d 2) x.1 in
      let o = offset_small (get_or samples s 0) (get_or samples (other_end n s d) 0) grey t.1 in
      (place_along s d 0 o x.0, place_along s d 1 o y.0, place_along s d 2 o y.1)

  -- a crossed edge's point is within the limit on coordinates
  pub place_small : (e : ℕ) → crossed k n (is_above_grey grey samples) e ≡ true → All (λ c. c ≤ most_coordinate) (place k n grey samples e)
  unfolding crossed place
  place_small e c =
      let p = place_from_lem (e / k.many) (k.direction (e % k.many)) c in
      (p.0, (p.1, (p.2, tt)))
