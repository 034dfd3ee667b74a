-- Once the work room lists the neighbours, a round over its lists is a round by definition.
use mathlib.Core.Path.{◌≡◌, ap, ◌∙◌}
use mathlib.Core.List.{List, [], ◌∷◌}
use Prim.Native.Nat.{ℕ, ◌+◌, ◌<◌, ◌≤◌}
use native.Mathlib.Omega.{arith}
use lib.ListN.{length, get_or}
use Rattle.laws.specs.Range.{sum_to}
use Rattle.laws.specs.Sum.{sum_of}
use Rattle.laws.proofs.Keep.{length_keep}
use Rattle.laws.proofs.Ranges.{sum_cong, join_cong, count_le}
use Rattle.laws.proofs.Some.{sum_places}
use Rattle.mesh.specs.Mesh.{triangles_of}
use Rattle.mesh.specs.Neighbours.{neighbours, share_side}
use Rattle.neighbours.specs.Lists.{list_of, start_of, Listed, ListsFit}
use Rattle.neighbours.proofs.Listing.{list_below, start_next, starts_most}
use Rattle.neighbours.proofs.Summed.{list_sum, list_length}
use Rattle.rounds.specs.Round.{coordinate_of, moved_from, round}
use Rattle.rounds.specs.Steps.{Held, SameTo, held_sum, held_start, held_count, held_point, held_round}

module _ (ts : List ℕ) (v at size : ℕ) (ok : ListsFit ts v at size) (work : List ℕ) (h : Listed ts v at work) where
  last : (p : ℕ) → p < v → get_or work (at + p + 1) 0 ≡ start_of ts p + length (list_of ts p)
  last p l =
      let e : at + p + 1 ≡ at + (p + 1) = omega arith in
      ap (λ i. get_or work i 0) e ∙ h.starts (p + 1) (omega arith) ∙ start_next ts v at size ok p

  count : (p : ℕ) → p < v → held_count at work p ≡ length (list_of ts p)
  count p l = omega (arith, last p l, h.starts p (omega arith))

  list_few : (p : ℕ) → length (list_of ts p) ≤ v
  unfolding neighbours
  list_few p =
      omega (arith, list_length ts v at size ok p, length_keep v (share_side (triangles_of ts) p), count_le v (share_side (triangles_of ts) p))

  entry : (p k : ℕ) → p < v → k < length (list_of ts p) → get_or work (held_start at work p + k) 0 ≡ get_or (list_of ts p) k 0
  entry p k l m = ap (λ i. get_or work (i + k) 0) (h.starts p (omega arith)) ∙ h.entries p k l m

  pub lists_held : Held at work v
  lists_held =
      record {
        few = ok.points;
        ordered = λ p l. omega (arith, last p l, h.starts p (omega arith));
        ended = λ p l. omega (arith, last p l, start_next ts v at size ok p, starts_most ts v at size ok (p + 1) (omega arith));
        counted = λ p l. rw (count p l) (list_few p);
        named = λ p k l m.
            let few : k < length (list_of ts p) = rw (count p l) at m in
            rw (entry p k l few) (list_below ts v at size ok p k few);
      }

  sum_held : (old : List ℕ) (p a : ℕ) → p < v
      → held_sum old work (held_start at work p) (held_count at work p) a ≡ sum_of (λ q. coordinate_of old q a) (neighbours v (triangles_of ts) p)
  unfolding held_sum
  sum_held old p a l =
      ap (λ n. sum_to n (λ k. coordinate_of old (get_or work (held_start at work p + k) 0) a)) (count p l)
      ∙ sum_cong (length (list_of ts p)) (λ k. coordinate_of old (get_or work (held_start at work p + k) 0) a) (λ k. coordinate_of old (get_or (list_of ts p) k 0) a)
      (λ k m. ap (λ q. coordinate_of old q a) (entry p k l m))
      ∙ sum_places (λ q. coordinate_of old q a) 0 (list_of ts p)
      ∙ list_sum ts v at size ok (λ q. coordinate_of old q a) p

  count_held : (p : ℕ) → p < v → held_count at work p ≡ length (neighbours v (triangles_of ts) p)
  count_held p l = count p l ∙ list_length ts v at size ok p

  pub round_held : (marks : List ℕ) → length marks ≡ v → (w : ℕ) (old : List ℕ) → held_round at work marks w old ≡ round (triangles_of ts) marks w old
  unfolding held_round round held_point
  round_held marks long w old =
      join_cong (length marks) (λ p. held_point at work (get_or marks p 0) w old p)
      (λ p. let new = moved_from (get_or marks p 0) w old p (neighbours (length marks) (triangles_of ts) p) in new 0 ∷ new 1 ∷ new 2 ∷ [])
      (λ p l. let m : p < v = omega arith in rw (sum_held old p 0 m, sum_held old p 1 m, sum_held old p 2 m, count_held p m, long))

  -- lists that a round left as they were
  pub listed_kept : (after : List ℕ) (end : ℕ) → at + v < end → SameTo end work after → Listed ts v at after
  listed_kept after end room same =
      record {
        starts = λ p l. same (at + p) (omega arith) ∙ h.starts p l;
        entries = λ p k l m. same (start_of ts p + k) (omega (arith, start_next ts v at size ok p, starts_most ts v at size ok (p + 1) (omega arith))) ∙ h.entries p k l m;
      }
