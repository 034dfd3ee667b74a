-- What the call promises.
use Rattle.std.specs.Prelude.{◌≡◌, List, ℕ}
use Rattle.smooth.specs.Smooth.{smoothed}

-- smoothing: the number, and what the second point list and the work room hold after, given what they held
abbrev pub Smooths : List ℕ → List ℕ → List ℕ → ℕ → ℕ → List ℕ → List ℕ → ℕ → List ℕ → List ℕ → Type 0
Smooths points triangles marks k w second work number after left =
    record { number = number; second = after; work = left } ≡ smoothed points triangles marks k w second work
