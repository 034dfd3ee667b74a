-- What is written for a cube, and lists that are written one after the other.
use mathlib.Core.Path.{◌≡◌, refl, ap, sym, ◌∙◌}
use mathlib.Core.List.{List, [], ◌∷◌, ◌++◌}
use Prim.Native.Nat.{ℕ, ◌+◌, ◌*◌, ◌<◌, ◌≤◌}
use native.Mathlib.Omega.{arith}
use lib.ListN.{length, get_or, length-map, length-append}
use lib.Seq.{sets, length-sets}
use Rattle.laws.specs.Mesh.{flat}
use Rattle.laws.proofs.Writes.{sets_append}
use Rattle.laws.proofs.Lists.{all_get, map_at}
use Rattle.laws.proofs.Sides.{length_corners}
use Rattle.cube.specs.Answer.{case_length, count, triangles, table}
use Rattle.cube.specs.Cube.{cases, cube_edge_count}
use Rattle.cube.proofs.Cases.{CrossedEdge}
use Rattle.grid.specs.Work.{Nameable}
use Rattle.cuberows.proofs.Cases.{count_most}
use Rattle.triangles.specs.Names.{corner_name, cube_names}
use Rattle.triangles.specs.Walk.{CornerFits, Written}
use Rattle.triangles.proofs.Table.{corner_in_table, corners_crossed}

-- a cube
module _ (offsets names : List ℕ) (edge k : ℕ) where
  pub length_cube : length (cube_names offsets names edge k) ≡ 3 * count k
  unfolding cube_names count
  length_cube = length-map (flat (triangles k)) (corner_name offsets names edge) ∙ length_corners (triangles k)

  pub cube_quiet : count k ≡ 0 → cube_names offsets names edge k ≡ []
  cube_quiet q = none (cube_names offsets names edge k) (omega (arith, length_cube))
    where
      none : (xs : List ℕ) → length xs ≡ 0 → xs ≡ []
      none [] e = refl
      none (x ∷ xs) e = absurd (omega arith)

  -- the edge that is read from the table for one of its corners, and what is then written
  module _ (rows : List ℕ) (right : rows ≡ table) (j place : ℕ) (h : k < cases) (l : j < 3 * count k) (at : place ≡ case_length * k + j) where
    edge_read : get_or rows place 0 ≡ get_or (flat (triangles k)) j 0
    edge_read = rw (right, at) (corner_in_table k j h l)

    pub corner_fits : ((e : ℕ) → e < cube_edge_count → Nameable names (edge + get_or offsets e 0)) → CornerFits rows offsets names place edge
    unfolding count
    corner_fits named =
        let small : get_or rows place 0 < cube_edge_count =
        rw edge_read (all_get (CrossedEdge k) (flat (triangles k)) j 0 (corners_crossed k h) (omega (arith, length_corners (triangles k)))).small in
        record { inside = omega (arith, count_most k h); small = small; named = named (get_or rows place 0) small }

    pub corner_is : {name : ℕ} → name ≡ corner_name offsets names edge (get_or rows place 0) → name ≡ get_or (cube_names offsets names edge k) j 0
    unfolding cube_names count
    corner_is e = rw (e, edge_read) (sym (map_at (corner_name offsets names edge) (flat (triangles k)) j 0 0 (omega (arith, length_corners (triangles k)))))

-- lists written one after the other: none yet, and one more
pub written_none : (room : List ℕ) (at : ℕ) → Written room room at [] at
written_none room at = record { room = refl; end = omega arith }

pub written_on : {entry mid exit : List ℕ} {at to next : ℕ} (xs ys : List ℕ) → Written entry mid at xs to → Written mid exit to ys next → Written entry exit at (xs ++ ys) next
written_on {entry} {mid} {exit} {at} {to} {next} xs ys w v =
    record { room = v.room ∙ rw (w.room, w.end) (sets_append entry at xs ys); end = rw length-append (omega (arith, w.end, v.end)) }

-- one list, of so many numbers
pub written_one : {entry exit : List ℕ} {at many : ℕ} {xs ys : List ℕ} → exit ≡ sets entry at xs → xs ≡ ys → many ≡ length ys → Written entry exit at ys (at + many)
written_one {entry} {exit} {at} room same long = record { room = room ∙ ap (sets entry at) same; end = ap (λ n. at + n) long }

pub written_length : {entry exit : List ℕ} {at next : ℕ} {list : List ℕ} → Written entry exit at list next → length exit ≡ length entry
written_length {entry} {exit} {at} {next} {list} w = ap length w.room ∙ length-sets entry at list

-- and the room that is left for the next
pub written_room : {entry mid : List ℕ} {at to : ℕ} (xs : List ℕ) (more most : ℕ) → Written entry mid at xs to → length xs + more ≤ most → at + most ≤ length entry → to + more ≤ length mid
written_room xs more most w h r = omega (arith, w.end, written_length w)
