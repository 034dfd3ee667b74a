-- Demand 3, of a granted shell list: "two points stand under the same shell exactly when triangle sides lead from one to the other. Every shell is listed
-- once, by its lowest point, and every triangle is counted in exactly one."
use Rattle.std.specs.Prelude.{◌≡◌, List, Bool, ◌&&◌, ℕ, ◌<◌, ◌≤◌, eqb, length, get_or}
use Rattle.laws.specs.Range.{sum_to, count_to}
use Rattle.laws.specs.Mesh.{Triangle}
use Rattle.mesh.specs.Mesh.{triangle_count, triangle_at, triangles_of}
use Rattle.records.specs.declared.Shell.{Shell}
use Rattle.sets.specs.Led.{Led}
use Rattle.shellnumbers.specs.Numbering.{number_of}
use Rattle.records.specs.Grown.{none}
use Rattle.closed.specs.Left.{Mesh}

-- record n of a list of records; an empty record past the last
abbrev pub record_at : List Shell → ℕ → Shell
record_at records n = get_or records n none

-- the points of shell n, by the list of shell numbers
abbrev pub in_shell : List ℕ → ℕ → ℕ → Bool
in_shell numbers n p = eqb (number_of numbers p) n

-- do all three corners of a triangle stand under shell n
abbrev pub corners_in : List ℕ → ℕ → Triangle → Bool
corners_in numbers n t = in_shell numbers n t.one && (in_shell numbers n t.two && in_shell numbers n t.three)

-- of a mesh, the list of its points' shell numbers, so many shells, and the lent list of records as it was left
pub record Right (m : Mesh) (numbers : List ℕ) (shells : ℕ) (records : List Shell) : Type 0 where
  -- two points stand under the same shell exactly when triangle sides lead from one to the other
  pub led : (p q : ℕ) → p < length m.marks → q < length m.marks → number_of numbers p ≡ number_of numbers q → Led (triangles_of m.triangles) p q
  pub same : (p q : ℕ) → p < length m.marks → q < length m.marks → Led (triangles_of m.triangles) p q → number_of numbers p ≡ number_of numbers q
  -- every shell is listed: each point's number is that of a shell, and each shell has its record in the list
  pub listed : (p : ℕ) → p < length m.marks → number_of numbers p < shells
  pub held : shells ≤ length records
  -- by its lowest point: the one that its record names is a point of its own, and none is lower
  pub own : (n : ℕ) → n < shells → ((record_at records n).low < length m.marks) × (number_of numbers (record_at records n).low ≡ n)
  pub lowest : (n p : ℕ) → n < shells → p < length m.marks → number_of numbers p ≡ n → (record_at records n).low ≤ p
  -- once: the lowest points rise
  pub once : (i n : ℕ) → i < n → n < shells → (record_at records i).low < (record_at records n).low
  -- every triangle is counted in exactly one: its corners stand under one shell, record n counts the triangles of shell n, and together they are all
  pub one_shell : (k : ℕ) → k < triangle_count m.triangles → let t = triangle_at m.triangles k in
      (number_of numbers t.one ≡ number_of numbers t.two) × (number_of numbers t.two ≡ number_of numbers t.three)
  pub counted : (n : ℕ) → n < shells
      → (record_at records n).triangles ≡ count_to (triangle_count m.triangles) (λ k. corners_in numbers n (triangle_at m.triangles k))
  pub all_counted : sum_to shells (λ n. (record_at records n).triangles) ≡ triangle_count m.triangles
