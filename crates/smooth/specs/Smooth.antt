-- What a call of smoothing leaves behind (document 01, "Smoothing" and "Numbers that refuse").
use Rattle.std.specs.Prelude.{List, Bool, cond, not, ◌&&◌, ℕ, ◌+◌, ◌*◌, eqb, leb, length, replicate}
use Rattle.grid.specs.Limits.{most_rounds, most_weight}
use Rattle.mesh.specs.Mesh.{triangle_count, triangles_of}
use Rattle.mesh.specs.Check.{mesh_number}
use Rattle.rounds.specs.Round.{rounds}

-- the number that is answered, and the whole content of the second point list and of the work room
pub record Outcome : Type 0 where
  pub number : ℕ
  pub second : List ℕ
  pub work : List ℕ

-- the second point list has 3V numbers, the work room 6T + 5V + 1
unfoldable pub smooth_rooms_fit : ℕ → ℕ → ℕ → ℕ → Bool
smooth_rooms_fit v t second work = eqb second (3 * v) && eqb work (6 * t + 5 * v + 1)

module _ (points triangles marks : List ℕ) (k w : ℕ) (second work : List ℕ) where
  -- 6, 7, 8, 9 of the mesh, then 10, then 3; else 0
  unfoldable pub smooth_number : ℕ
  smooth_number =
      let mesh = mesh_number points triangles marks in
      cond (not (eqb mesh 0)) mesh
      (cond (not (leb k most_rounds && leb w most_weight)) 10
      (cond (not (smooth_rooms_fit (length marks) (triangle_count triangles) (length second) (length work))) 3 0))

  -- granted: k rounds from the points, and the work room zero; a refusal leaves both rooms as they were
  unfoldable pub smoothed : Outcome
  smoothed =
      cond (eqb smooth_number 0)
      (record { number = 0; second = rounds (triangles_of triangles) marks w k points; work = replicate (length work) 0 })
      (record { number = smooth_number; second = second; work = work })
