-- What a list of shell numbers leaves behind, and what may be left (document 01, "Shells" and "Numbers that refuse").
use Rattle.std.specs.Prelude.{◌≡◌, List, Bool, cond, not, ◌&&◌, ℕ, ◌*◌, ◌<◌, ◌≤◌, eqb, length, replicate}
use Rattle.mesh.specs.Check.{mesh_number}
use Rattle.mesh.specs.Mesh.{triangles_of}
use Rattle.shellnumbers.specs.Numbering.{Numbering}

-- the number and the count that are answered, and the rooms of numbers after the call
pub record Outcome : Type 0 where
  pub number : ℕ
  pub shells : ℕ
  pub numbers : List ℕ
  pub work : List ℕ

abbrev pub left : ℕ → ℕ → List ℕ → List ℕ → Outcome
left number shells numbers work = record { number = number; shells = shells; numbers = numbers; work = work }

-- 3: the list of shell numbers is V long and the work room 2V
unfoldable pub shell_rooms_fit : ℕ → ℕ → ℕ → Bool
shell_rooms_fit v numbers work = eqb numbers v && eqb work (2 * v)

-- the first of 6, 7, 8, 9, 3 that holds, or 0
unfoldable pub refusal : List ℕ → List ℕ → List ℕ → ℕ → ℕ → ℕ
refusal points triangles marks numbers work =
    let mesh = mesh_number points triangles marks in
    cond (not (eqb mesh 0)) mesh (cond (not (shell_rooms_fit (length marks) numbers work)) 3 0)

module _ (points triangles marks : List ℕ) where
  -- the refusal that these rooms meet
  abbrev pub early : List ℕ → List ℕ → ℕ
  early numbers work = refusal points triangles marks (length numbers) (length work)

  -- what may be left in the rooms of numbers, where so many records are lent
  pub data Lists (records : ℕ) (numbers work : List ℕ) (o : Outcome) : Type 0 where
    -- 6, 7, 8, 9 and 3 leave all rooms
    refused : (early numbers work ≡ 0 → ⊥)
        → o ≡ left (early numbers work) 0 numbers work → Lists records numbers work o
    -- 11: there are more shells than records; the work room is made zero
    crowded : early numbers work ≡ 0 → (found : List ℕ) (shells : ℕ)
        → Numbering (triangles_of triangles) (length marks) found shells → records < shells
        → o ≡ left 11 0 numbers (replicate (length work) 0) → Lists records numbers work o
    -- granted: the shell numbers of all points; the work room is made zero
    granted : early numbers work ≡ 0 → (found : List ℕ) (shells : ℕ)
        → Numbering (triangles_of triangles) (length marks) found shells → shells ≤ records
        → o ≡ left 0 shells found (replicate (length work) 0) → Lists records numbers work o
