-- A round as the code has it, whose work room lists each point's neighbours: starts from `at` on, and from the starts on the points.
use Rattle.std.specs.Prelude.{◌≡◌, List, [], ◌∷◌, ℕ, ◌+◌, ◌*◌, ◌-◌, ◌<◌, ◌≤◌, length, get_or}
use Rattle.laws.specs.Range.{sum_to, join_to}
use Rattle.grid.specs.Limits.{most_points, most_coordinate}
use Rattle.rounds.specs.Round.{moved_if, coordinate_of}

-- no coordinate is over the limit
abbrev pub SmallPlaces : List ℕ → Type 0
SmallPlaces points = (i : ℕ) → get_or points i 0 ≤ most_coordinate

-- the sum of coordinate a over the points that stand in the room from a place on, n of them
unfoldable pub held_sum : List ℕ → List ℕ → ℕ → ℕ → ℕ → ℕ
held_sum old work from n a = sum_to n (λ k. coordinate_of old (get_or work (from + k) 0) a)

module _ (at : ℕ) (work : List ℕ) where
  -- where the list of p starts, and how many points it has
  abbrev pub held_start : ℕ → ℕ
  held_start p = get_or work (at + p) 0

  abbrev pub held_count : ℕ → ℕ
  held_count p = get_or work (at + p + 1) 0 - get_or work (at + p) 0

  -- a point after a round
  unfoldable pub held_point : ℕ → ℕ → List ℕ → ℕ → List ℕ
  held_point mark w old p =
      let new : ℕ → ℕ = λ a. moved_if mark w (held_count p) (coordinate_of old p a) (held_sum old work (held_start p) (held_count p) a) in
      new 0 ∷ new 1 ∷ new 2 ∷ []

  unfoldable pub held_round : List ℕ → ℕ → List ℕ → List ℕ
  held_round marks w old = join_to (length marks) (λ p. held_point (get_or marks p 0) w old p)

  -- every list of a point below v lies before the starts and names points below v
  pub record Held (v : ℕ) : Type 0 where
    pub few : v ≤ most_points
    pub ordered : (p : ℕ) → p < v → held_start p ≤ get_or work (at + p + 1) 0
    pub ended : (p : ℕ) → p < v → get_or work (at + p + 1) 0 ≤ at
    pub counted : (p : ℕ) → p < v → held_count p ≤ v
    pub named : (p k : ℕ) → p < v → k < held_count p → get_or work (held_start p + k) 0 < v

-- the n numbers from a place on name points of a list
abbrev pub NamesTo : ℕ → ℕ → List ℕ → List ℕ → Type 0
NamesTo n from old work = (k : ℕ) → k < n → 3 * get_or work (from + k) 0 + 2 < length old

-- the room up to a place stays
abbrev pub SameTo : ℕ → List ℕ → List ℕ → Type 0
SameTo end work after = (i : ℕ) → i < end → get_or after i 0 ≡ get_or work i 0
