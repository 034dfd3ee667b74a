-- The numbers of the shells, as a description (document 01, "Shells", and demand 3).
use Rattle.std.specs.Prelude.{◌≡◌, List, ℕ, ◌<◌, ◌≤◌, length, get_or}
use Rattle.laws.specs.Mesh.{Triangle}
use Rattle.sets.specs.Led.{Led}

-- the shell number of a point, in a list of them
abbrev pub number_of : List ℕ → ℕ → ℕ
number_of numbers p = get_or numbers p 0

-- p is the lowest of the points below v that have its number
abbrev pub Lowest : ℕ → List ℕ → ℕ → Type 0
Lowest v numbers p = (q : ℕ) → q < v → number_of numbers q ≡ number_of numbers p → p ≤ q

-- some point below v has the number n
pub record Used (v : ℕ) (numbers : List ℕ) (n : ℕ) : Type 0 where
  pub point : ℕ
  pub small : point < v
  pub number : number_of numbers point ≡ n

-- these are the shell numbers of v points, and there are so many shells
pub record Numbering (ts : List Triangle) (v : ℕ) (numbers : List ℕ) (shells : ℕ) : Type 0 where
  -- every point has one
  pub long : length numbers ≡ v
  -- two points stand under the same shell exactly when sides lead from one to the other
  pub led : (p q : ℕ) → p < v → q < v → number_of numbers p ≡ number_of numbers q → Led ts p q
  pub same : (p q : ℕ) → p < v → q < v → Led ts p q → number_of numbers p ≡ number_of numbers q
  -- numbered from 0, and none left out
  pub small : (p : ℕ) → p < v → number_of numbers p < shells
  pub used : (n : ℕ) → n < shells → Used v numbers n
  -- in rising order of lowest point
  pub rising : (p q : ℕ) → p < v → q < v → Lowest v numbers p → Lowest v numbers q → p < q → number_of numbers p < number_of numbers q
