-- The shell numbers in their part of the room, from the sets that stood there: the room is cut before them, with the triangles in front.
use mathlib.Core.Path.{◌≡◌, ap, ◌∙◌}
use mathlib.Core.List.{List, ◌++◌}
use Prim.Native.Nat.{ℕ, ◌+◌, ◌*◌, ◌-◌, ◌≤◌}
use native.Mathlib.Omega.{arith}
use lib.ListN.{length, take, drop}
use Rattle.std.proofs.lemmas.List.{take_rest, drop-take}
use Rattle.laws.specs.Range.{count_to}
use Rattle.laws.specs.Values.{list_to}
use Rattle.laws.proofs.Values.{length_list}
use Rattle.laws.specs.Part.{part_of}
use Rattle.laws.proofs.Parts.{length_part, put_back}
use Rattle.mesh.specs.Mesh.{triangles_of}
use Rattle.sets.specs.Sets.{is_root, rank_of, United}
use Rattle.shellnumbers.specs.Numbering.{Numbering}
use Rattle.shellnumbers.proofs.Numbered.{numbered}
use Rattle.columns.specs.Room.{triangles_at, numbers_at}
use Rattle.roommesh.specs.Numbered.{Numberable, ShellsNumbered}

module _ (v t : ℕ) (old : List ℕ) (fit : Numberable v t old) where
  abbrev base : ℕ
  base = numbers_at v t

  abbrev front : List ℕ
  front = take base old

  abbrev triangles : List ℕ
  triangles = part_of (triangles_at v) (3 * t) old

  inside : base + v ≤ length old
  inside = omega (arith, fit.whole)

  -- the rest of the front, from the triangles on
  triangles_there : take (length front - triangles_at v) (drop (triangles_at v) front) ≡ triangles
  triangles_there = take_rest front (triangles_at v) ∙ drop-take (triangles_at v) (3 * t) old

  -- ranks in the place of the sets
  pub shells_numbered : (sets ranks : List ℕ) (shells : ℕ) → United (take (length front - triangles_at v) (drop (triangles_at v) front)) (part_of base v old) sets
      → ranks ≡ list_to (length sets) (rank_of sets) → shells ≡ count_to v (is_root sets) → ShellsNumbered v t old shells (front ++ (ranks ++ drop v (drop base old)))
  shells_numbered sets ranks shells u e k =
      let long : length sets ≡ v = u.long ∙ length_part old base v inside in
      let many : Numbering (triangles_of triangles) v (list_to v (rank_of sets)) (count_to v (is_root sets)) =
      numbered triangles (part_of base v old) sets (rw triangles_there at u) v (omega (arith, long)) in
      record {
        numbers = ranks;
        numbered = rw (e, long, k) many;
        stays = put_back old ranks base v (ap length e ∙ length_list (length sets) (rank_of sets) ∙ long) inside;
      }
