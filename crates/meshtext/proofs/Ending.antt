-- The ways that the writing of a mesh ends, from what the parts of it say.
use mathlib.Core.Path.{◌≡◌, refl, ap, ◌∙◌}
use mathlib.Core.List.{List}
use mathlib.Core.Bool.{Bool, true, false, cond}
use Prim.Native.Nat.{ℕ, ◌+◌, ◌/◌, ◌≤◌, ◌<◌}
use native.Mathlib.Omega.{arith}
use lib.Dec.{eqb, leb, ltb}
use lib.ListN.{length, get_or, length-append}
use lib.Seq.{sets, length-sets}
use borrow.Author.Tests.{eqb-true, leb-true, ltb-true, ltb-false}
use Rattle.laws.proofs.Tests.{both}
use Rattle.laws.proofs.Writes.{sets_append}
use Rattle.grid.specs.Limits.{most_points}
use Rattle.mesh.specs.Check.{lengths_fit}
use Rattle.records.specs.declared.Shell.{Shell}
use Rattle.records.specs.Grown.{none}
use Rattle.writing.specs.Writing.{outcome}
use Rattle.writing.proofs.Fields.{written_front, written_not}
use Rattle.shelllines.specs.ShellLines.{shells_text}
use Rattle.meshtext.specs.MeshText.{mesh_counts, front_text, mesh_text, lists_fit, Holds, mesh_written}
use Rattle.meshtext.specs.Front.{FrontFits, front_written}

module _ (points edges marks triangles : List ℕ) (records : List Shell) (shells : ℕ) (room : List ℕ) where
  abbrev fits : Bool
  fits = lists_fit (length points) (length edges) (length marks) (length triangles) (length records) shells

  abbrev text : List ℕ
  text = mesh_text points edges marks triangles shells (λ n. get_or records n none)

  abbrev front : List ℕ
  front = front_text (mesh_counts marks triangles shells) points edges marks triangles

  abbrev tail : List ℕ
  tail = shells_text shells (λ n. get_or records n none)

  -- what the call promises of its number and length, and of the room
  abbrev pub Promised : ℕ → ℕ → List ℕ → Type 0
  Promised number long left =
      Holds (length marks) (length triangles / 3) shells (length room) number
      × (outcome number long left ≡ mesh_written points edges marks triangles records shells room)

  pub lists_refused : fits ≡ false → Promised 6 0 room
  unfolding mesh_written
  lists_refused h = rw h (λ l t. absurd (omega (arith, t)), refl)

  module _ (fit : fits ≡ true) where
    -- its parts, in their order
    parts : (lengths_fit (length points) (length triangles) (length marks) ≡ true) × (eqb (length edges) (length marks) ≡ true) × (leb shells (length records) ≡ true) × (leb shells most_points ≡ true)
    unfolding lists_fit
    parts =
        let a = both (lengths_fit (length points) (length triangles) (length marks)) _ fit in
        let b = both (eqb (length edges) (length marks)) _ a.1 in
        let c = both (leb shells (length records)) (leb shells most_points) b.1 in
        (a.0, b.0, c.0, c.1)

    pub front_fits : FrontFits points edges marks triangles
    front_fits = record { lengths = parts.0; edged = eqb-true (length edges) (length marks) parts.1 }

    pub records_fit : (shells ≤ length records) × (shells ≤ most_points)
    records_fit = (leb-true shells (length records) parts.2, leb-true shells most_points parts.3)

    -- the lines before those of the shells, and how long the shells' are
    module _ (number at : ℕ) (left : List ℕ) (more : ℕ) (long : more ≡ length tail) (said : outcome number at left ≡ front_written front more room) where
      -- the room was too short, or they stand in it
      data Ended : Type 0 where
        short : length room < length text → number ≡ 3 → at ≡ 0 → left ≡ room → Ended
        stands : length text ≤ length room → number ≡ 0 → at ≡ length front → left ≡ sets room 0 front → Ended

      whole : length text ≡ length front + length tail
      unfolding mesh_text
      whole = length-append front tail

      ended : Ended
      unfolding front_written
      ended = go (ltb (length room) (length front + more)) refl said
        where
          go : (b : Bool) → ltb (length room) (length front + more) ≡ b → outcome number at left ≡ cond b (outcome 3 0 room) (outcome 0 (length front) (sets room 0 front)) → Ended
          go true h e = short (omega (arith, ltb-true (length room) (length front + more) h, whole, long)) (ap (λ o. o.number) e) (ap (λ o. o.length) e) (ap (λ o. o.room) e)
          go false h e = stands (omega (arith, ltb-false (length room) (length front + more) h, whole, long)) (ap (λ o. o.number) e) (ap (λ o. o.length) e) (ap (λ o. o.room) e)

      pub room_refused : Holds (length marks) (length triangles / 3) shells (length room) number → (number ≡ 0 → ⊥) → Promised number 0 left
      unfolding mesh_written
      room_refused holds given = go ended
        where
          go : Ended → Promised number 0 left
          go (short l e p f) = (holds, rw (fit, e, f) (written_not text room l))
          go (stands l e p f) = absurd (given e)

      pub tail_fits : number ≡ 0 → at + length tail ≤ length left
      tail_fits granted = go ended
        where
          go : Ended → at + length tail ≤ length left
          go (short l e p f) = absurd (omega (arith, e, granted))
          go (stands l e p f) = rw (p, f) (omega (arith, l, whole, length-sets room 0 front))

      pub mesh_written_lem : number ≡ 0 → (n : ℕ) (end : List ℕ) → n ≡ at + length tail → end ≡ sets left at tail → Promised 0 n end
      unfolding mesh_written mesh_text
      mesh_written_lem granted n end q s = go ended
        where
          from_front : sets (sets room 0 front) (length front) tail ≡ sets room 0 text
          from_front = let start : length front ≡ 0 + length front = omega arith in ap (λ k. sets (sets room 0 front) k tail) start ∙ sets_append room 0 front tail

          go : Ended → Promised 0 n end
          go (short l e p f) = absurd (omega (arith, e, granted))
          go (stands l e p f) = (
            λ l t. absurd (omega (arith, t)),
            rw fit (written_front text room end n l (q ∙ rw (p, whole)) (s ∙ rw (p, f) from_front)),
          )
