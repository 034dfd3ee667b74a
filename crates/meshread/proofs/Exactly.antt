-- The reader takes exactly what the writer writes for a mesh that passes; and what the two calls make of each other.
use mathlib.Core.Path.{◌≡◌, ap, sym, ◌∙◌, subst}
use mathlib.Core.List.{List}
use Prim.Native.Nat.{ℕ, ◌≤◌}
use native.Mathlib.Omega.{arith}
use lib.ListN.{length, take}
use borrow.Author.Tests.{eq-eqb, le-leb}
use Rattle.laws.proofs.Values.{length_list}
use Rattle.grid.specs.Limits.{most_points}
use Rattle.mesh.proofs.Passed.{passed}
use Rattle.records.specs.Record.{record_of}
use Rattle.writing.specs.Writing.{Outcome as Left, outcome, written}
use Rattle.writing.proofs.Fields.{written_read}
use Rattle.shelllist.proofs.Few.{no_more_than_points}
use Rattle.meshtext.specs.MeshText.{lists_fit, mesh_written}
use Rattle.meshread.specs.Mesh.{Mesh}
use Rattle.meshread.specs.Promise.{Rooms, Outcome, lengths_of, room_number, granted, Reads}
use Rattle.meshread.specs.Own.{text_of, counts_in, Own, mesh_left}
use Rattle.meshread.proofs.Written.{written_is_read}
use Rattle.meshread.proofs.Read.{Back, read_is_written}

-- the input is the text of such a mesh, for which there is room
pub record Mine (input : List ℕ) (r : Rooms) : Type 0 where
  pub mesh : Mesh
  pub back : Back input r mesh

-- a call is granted exactly then
pub taken_exactly : (input : List ℕ) (r : Rooms) (o : Outcome) → Reads input r o → (o.number ≡ 0 → Mine input r) × (Mine input r → o.number ≡ 0)
unfolding granted
taken_exactly input r o reads = (λ z. record { mesh = mesh_left o; back = read_is_written input r o reads z }, granted_then)
  where
    granted_then : Mine input r → o.number ≡ 0
    granted_then b = ap (λ x. x.number) (written_is_read b.mesh b.back.own r b.back.holds o (subst (λ i. Reads i r o) (sym b.back.text) reads))

-- what the writer leaves in a room, of a mesh and its records
abbrev pub writes : Mesh → List ℕ → Left
writes m room = mesh_written m.points m.edges m.marks m.triangles m.records (length m.records) room

-- the writer takes such a mesh: it refuses none of its lengths
writes_text : (m : Mesh) → Own m → (room : List ℕ) → writes m room ≡ written (text_of m) room
unfolding mesh_written lists_fit text_of
writes_text m own room =
    let p = passed m.points m.triangles m.marks own.passes in
    let few : length m.records ≤ length m.marks =
    omega (arith, ap length own.records, length_list own.shells (record_of m.points m.triangles m.marks own.found), no_more_than_points m.points m.triangles m.marks own.found own.shells own.numbered) in
    rw (p.lengths_fit_lem, eq-eqb (length m.edges) (length m.marks) own.edged, le-leb (length m.records) (length m.records) (omega arith), le-leb (length m.records) most_points (omega (arith, few, p.few)))

-- written, then read: the same mesh
pub write_then_read : (m : Mesh) → Own m → (room left : List ℕ) (long : ℕ) → outcome 0 long left ≡ writes m room
    → (r : Rooms) → room_number (counts_in m) (lengths_of r) ≡ 0 → (o : Outcome) → Reads (take long left) r o → o ≡ granted m r
write_then_read m own room left long e r holds o reads =
    let t = written_read (text_of m) room left 0 long (λ z. absurd (omega arith)) (e ∙ writes_text m own room) in
    written_is_read m own r holds o (subst (λ i. Reads i r o) t.1 reads)

-- read, then written: the same bytes
pub read_then_write : (input : List ℕ) (r : Rooms) (o : Outcome) → Reads input r o → o.number ≡ 0 → (room : List ℕ) → writes (mesh_left o) room ≡ written input room
read_then_write input r o reads z room =
    let b = read_is_written input r o reads z in
    writes_text (mesh_left o) b.own room ∙ ap (λ t. written t room) b.text
