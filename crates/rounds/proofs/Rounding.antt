-- A round point by point: the new places behind the room's lists, which stay.
use mathlib.Core.Path.{◌≡◌, refl, ap, ap₂, sym, ◌∙◌}
use mathlib.Core.List.{List}
use Prim.Native.Nat.{ℕ, ◌+◌, ◌*◌, ◌-◌, ◌<◌, ◌≤◌}
use native.Mathlib.Omega.{arith}
use lib.ListN.{length, get_or}
use lib.Seq.{sets}
use Rattle.laws.specs.Range.{sum_to, join_to}
use Rattle.laws.specs.Part.{part_of}
use Rattle.laws.proofs.Ranges.{sum_cong, join_next}
use Rattle.laws.proofs.Rows.{length_rows}
use Rattle.laws.proofs.Writes.{sets_append, sets_before}
use Rattle.laws.proofs.Parts.{part_written}
use Rattle.rounds.specs.Round.{coordinate_of}
use Rattle.rounds.specs.Steps.{Held, SameTo, held_sum, held_start, held_count, held_point, held_round}

-- a room whose front stays up to behind the starts has the same lists
module _ (at v end : ℕ) (work after : List ℕ) (room : at + v < end) (same : SameTo end work after) (held : Held at work v) where
  start_same : (p : ℕ) → p < v → held_start at after p ≡ held_start at work p
  start_same p l = same (at + p) (omega arith)

  last_same : (p : ℕ) → p < v → get_or after (at + p + 1) 0 ≡ get_or work (at + p + 1) 0
  last_same p l = same (at + p + 1) (omega arith)

  count_same : (p : ℕ) → p < v → held_count at after p ≡ held_count at work p
  count_same p l = ap₂ ◌-◌ (last_same p l) (start_same p l)

  entry_same : (p k : ℕ) → p < v → k < held_count at work p → get_or after (held_start at work p + k) 0 ≡ get_or work (held_start at work p + k) 0
  entry_same p k l m = same (held_start at work p + k) (omega (arith, held.ended p l, held.ordered p l))

  pub held_kept : Held at after v
  held_kept =
      record {
        few = held.few;
        ordered = λ p l. rw (start_same p l, last_same p l) (held.ordered p l);
        ended = λ p l. rw (last_same p l) (held.ended p l);
        counted = λ p l. rw (count_same p l) (held.counted p l);
        named = λ p k l m.
            let few : k < held_count at work p = rw (count_same p l) at m in
            rw (start_same p l, entry_same p k l few) (held.named p k l few);
      }

  pub point_same : (mark w : ℕ) (old : List ℕ) (p : ℕ) → p < v → held_point at after mark w old p ≡ held_point at work mark w old p
  unfolding held_point held_sum
  point_same mark w old p l = rw (count_same p l, start_same p l, sum_same 0, sum_same 1, sum_same 2)
    where
      sum_same : (a : ℕ) → sum_to (held_count at work p) (λ k. coordinate_of old (get_or after (held_start at work p + k) 0) a)
          ≡ sum_to (held_count at work p) (λ k. coordinate_of old (get_or work (held_start at work p + k) 0) a)
      sum_same a =
          sum_cong (held_count at work p) (λ k. coordinate_of old (get_or after (held_start at work p + k) 0) a) (λ k. coordinate_of old (get_or work (held_start at work p + k) 0) a)
          (λ k m. ap (λ q. coordinate_of old q a) (entry_same p k l m))

module _ (marks : List ℕ) (w at second : ℕ) (old work₀ : List ℕ) where
  abbrev point : ℕ → List ℕ
  point p = held_point at work₀ (get_or marks p 0) w old p

  length_point : (p : ℕ) → length (point p) ≡ 3
  unfolding held_point
  length_point p = refl

  -- the new places of the first p points are written
  abbrev pub PlacedTo : ℕ → List ℕ → Type 0
  PlacedTo p work = work ≡ sets work₀ second (join_to p point)

  pub placed_first : PlacedTo 0 work₀
  unfolding join_to
  placed_first = refl

  length_to : (p : ℕ) → length (join_to p point) ≡ 3 * p
  length_to p = omega (arith, length_rows 3 point length_point p)

  module _ (room : at + length marks < second) (fits : second + 3 * length marks ≤ length work₀) (held : Held at work₀ (length marks)) where
    pub placed_same : (p : ℕ) (work : List ℕ) → PlacedTo p work → SameTo second work₀ work
    placed_same p work h i l = rw h (sets_before work₀ second (join_to p point) i 0 l)

    pub placed_held : (p : ℕ) (work : List ℕ) → PlacedTo p work → Held at work (length marks)
    placed_held p work h = held_kept at (length marks) second work₀ work room (placed_same p work h) held

    pub placed_next : (p : ℕ) (work after : List ℕ) → p < length marks → PlacedTo p work
        → after ≡ sets work (second + 3 * p) (held_point at work (get_or marks p 0) w old p) → PlacedTo (p + 1) after
    placed_next p work after l h is =
        is
        ∙ ap (sets work (second + 3 * p)) (point_same at (length marks) second work₀ work room (placed_same p work h) held (get_or marks p 0) w old p l)
        ∙ ap₂ (λ xs n. sets xs (second + n) (point p)) h (sym (length_to p))
        ∙ sets_append work₀ second (join_to p point) (point p)
        ∙ ap (sets work₀ second) (sym (join_next p point))

    -- all points placed: the new places, which are copied over the old ones
    pub placed_last : (work : List ℕ) (long : ℕ) → PlacedTo (length marks) work → long ≡ 3 * length marks → part_of second long work ≡ held_round at work₀ marks w old
    unfolding held_round
    placed_last work long h e =
        rw (h, e ∙ sym (length_to (length marks))) (part_written work₀ second (join_to (length marks) point) (omega (arith, length_to (length marks))))
