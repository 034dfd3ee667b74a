-- The volumes of the shells from the triangles so far: each triangle changes its own shell's, none is beyond the bound, and all triangles make the volumes of the records.
use mathlib.Core.Path.{◌≡◌, refl, ap, sym, ◌∙◌}
use mathlib.Core.List.{List}
use mathlib.Core.Bool.{Bool}
use Prim.Native.Nat.{ℕ, ◌+◌, ◌*◌, ◌<◌, ◌≤◌}
use native.Mathlib.Omega.{arith}
use lib.Dec.{eqb}
use lib.IntN.{ℤ, nat_abs, ◌+ℤ◌}
use borrow.Author.Tests.{eq-eqb, ne_eqb}
use Rattle.laws.specs.Range.{keep_to, join_to}
use Rattle.laws.specs.Signed.{sum_of_ℤ}
use Rattle.laws.proofs.Differences.{sum_append_ℤ}
use Rattle.laws.proofs.Keep.{length_keep}
use Rattle.laws.proofs.Ranges.{count_le, keep_cong}
use Rattle.mesh.specs.Mesh.{triangle_count, triangle_at}
use Rattle.shellnumbers.specs.Numbering.{number_of}
use Rattle.records.specs.Record.{determinant, sixfold, names_under, triangles_under, record_from}
use Rattle.records.specs.Grown.{most_volume}
use Rattle.records.proofs.OneNumber.{one_number}
use Rattle.records.proofs.Within.{sum_within}
use Rattle.columns.specs.Room.{points_in, triangles_in, numbers_in, ShellsStand, triangle_number, record_in}
use Rattle.columns.proofs.Gathering.{keep_more, keep_same}
use Rattle.columns.proofs.Rooms.{SameShells, shells_still_stand, many_triangles, few_shells, triangle_small}
use Rattle.volumes.specs.Volumes.{volume_in, stored_volume, words_in, with_words, all_words, volume_read}
use Rattle.volumes.specs.Turns.{gain_of, loss_of, changed, VolumeTurn}
use Rattle.laws.proofs.Raised.{raised_small, raised_more, read_back}
use Rattle.volumes.proofs.Words.{words_leave, words_again, words_cong, words_read, words_change}

-- what the determinants of the first k triangles are together, of those that have number n by their first corner
abbrev pub sums_of : List ℕ → List ℕ → List ℕ → ℕ → ℕ → ℤ
sums_of points triangles numbers k n = sum_of_ℤ (λ i. sixfold points (triangle_at triangles i)) (keep_to k (λ i. eqb (number_of numbers (triangle_at triangles i).one) n))

-- the room with the volumes from the first k triangles
abbrev pub volumes_after : ℕ → ℕ → ℕ → List ℕ → ℕ → List ℕ
volumes_after shells v t room k = all_words v t shells (λ n. stored_volume (sums_of (points_in v room) (triangles_in v t room) (numbers_in v t room) k n)) room

module _ (points triangles numbers : List ℕ) (k : ℕ) where
  abbrev own : ℕ
  own = number_of numbers (triangle_at triangles k).one

  -- one triangle more, in its own shell and in any other
  sum_here : sums_of points triangles numbers (k + 1) own ≡ sums_of points triangles numbers k own +ℤ sixfold points (triangle_at triangles k)
  sum_here =
      let has : ℕ → Bool = λ i. eqb (number_of numbers (triangle_at triangles i).one) own in
      ap (sum_of_ℤ (λ i. sixfold points (triangle_at triangles i))) (keep_more k has (eq-eqb own own refl))
      ∙ sum_append_ℤ (λ i. sixfold points (triangle_at triangles i)) (keep_to k has) k

  sum_else : (n : ℕ) → (n ≡ own → ⊥) → sums_of points triangles numbers (k + 1) n ≡ sums_of points triangles numbers k n
  sum_else n ne =
      ap (sum_of_ℤ (λ i. sixfold points (triangle_at triangles i))) (keep_same k (λ i. eqb (number_of numbers (triangle_at triangles i).one) n) (ne_eqb own n (λ e. ne (sym e))))

module _ (shells v t : ℕ) (room : List ℕ) (S : ShellsStand shells v t room) where
  abbrev sums : ℕ → ℕ → ℤ
  sums = sums_of (points_in v room) (triangles_in v t room) (numbers_in v t room)

  few : shells ≤ v
  few = few_shells shells v t room S

  -- no volume is beyond the bound
  within : (k n : ℕ) → k ≤ t → nat_abs (sums k n) ≤ most_volume
  within k n l =
      let has : ℕ → Bool = λ i. eqb (triangle_number v t room i) n in
      omega (arith, sum_within (points_in v room) (triangles_in v t room) S.near (keep_to k has), length_keep k has, count_le k has, S.few)

  -- ---- a turn: what triangle k makes of its shell's stored volume
  module _ (k : ℕ) (small : k < t) where
    abbrev n : ℕ
    n = triangle_number v t room k

    leave : SameShells v t room (volumes_after shells v t room k)
    leave = words_leave v t shells room S.whole few (λ i. stored_volume (sums k i))

    more : stored_volume (sums (k + 1) n) + loss_of (points_in v room) (triangle_at (triangles_in v t room) k)
        ≡ stored_volume (sums k n) + gain_of (points_in v room) (triangle_at (triangles_in v t room) k)
    unfolding stored_volume sixfold determinant
    more =
        let e = sum_here (points_in v room) (triangles_in v t room) (numbers_in v t room) k in
        let gain = gain_of (points_in v room) (triangle_at (triangles_in v t room) k) in
        let loss = loss_of (points_in v room) (triangle_at (triangles_in v t room) k) in
        rw e (raised_more most_volume (sums k n) gain loss (within k n (omega arith)) (rw e at (within (k + 1) n (omega arith))))

    stored_small : stored_volume (sums k n) ≤ 2 * most_volume
    unfolding stored_volume
    stored_small = raised_small most_volume (sums k n) (within k n (omega arith))

    stored : words_in v t (volumes_after shells v t room k) n ≡ stored_volume (sums k n)
    stored = words_read v t shells room S.whole few n (triangle_small shells v t room S k small) (λ i. stored_volume (sums k i))

    pub volume_turn : VolumeTurn v t (volumes_after shells v t room k) k
    volume_turn =
        record {
          whole = leave.long ∙ S.whole;
          near = rw leave.points S.near;
          corners = rw leave.triangles S.corners;
          small = small;
          numbered = rw (leave.triangles, leave.numbers) (omega (arith, triangle_small shells v t room S k small, few));
          fits = rw (leave.points, leave.triangles, leave.numbers, stored) (record { most = stored_small; least = omega (arith, more) });
        }

    pub volume_put : {now after : List ℕ} → now ≡ volumes_after shells v t room k
        → after ≡ with_words v t (triangle_number v t now k) (changed (points_in v now) (triangle_at (triangles_in v t now) k) (words_in v t now (triangle_number v t now k))) now
        → after ≡ volumes_after shells v t room (k + 1)
    volume_put is-now is-after =
        let e : changed (points_in v room) (triangle_at (triangles_in v t room) k) (stored_volume (sums k n)) ≡ stored_volume (sums (k + 1) n) = omega (arith, more) in
        rw (is-after, is-now, leave.points, leave.triangles, leave.numbers, stored, e)
        (words_change v t shells room S.whole few n (triangle_small shells v t room S k small) (λ i. stored_volume (sums k i)) (λ i. stored_volume (sums (k + 1) i))
        (λ i d. ap stored_volume (sum_else (points_in v room) (triangles_in v t room) (numbers_in v t room) k i d)))

  -- ---- the words that stand there at first, and those of all triangles
  module _ (filled : List ℕ) (e : filled ≡ all_words v t shells (λ n. most_volume) room) where
    same : SameShells v t room filled
    same = rw e (words_leave v t shells room S.whole few (λ n. most_volume))

    pub begun : ShellsStand shells v t filled
    begun = shells_still_stand shells v t room filled same S

    again : (f : ℕ → ℕ) → all_words v t shells f filled ≡ all_words v t shells f room
    again f = rw e (words_again v t shells room S.whole few (λ n. most_volume) f)

    none : (points triangles numbers : List ℕ) (n : ℕ) → stored_volume (sums_of points triangles numbers 0 n) ≡ most_volume
    unfolding stored_volume sum_of_ℤ keep_to join_to
    none points triangles numbers n = refl

    pub volumes_begun : filled ≡ volumes_after shells v t filled 0
    volumes_begun =
        e
        ∙ sym (again (λ n. most_volume))
        ∙ words_cong v t shells filled (λ n. most_volume) (λ n. stored_volume (sums_of (points_in v filled) (triangles_in v t filled) (numbers_in v t filled) 0 n))
        (λ n l. sym (none (points_in v filled) (triangles_in v t filled) (numbers_in v t filled) n))

    pub volumes_ended : (k : ℕ) → volumes_after shells v t filled k ≡ volumes_after shells v t room k
    volumes_ended k =
        again (λ n. stored_volume (sums_of (points_in v filled) (triangles_in v t filled) (numbers_in v t filled) k n))
        ∙ words_cong v t shells room (λ n. stored_volume (sums_of (points_in v filled) (triangles_in v t filled) (numbers_in v t filled) k n)) (λ n. stored_volume (sums k n))
        (λ n l. rw (same.points, same.triangles, same.numbers))

  -- ---- all triangles
  sums_all : (n : ℕ) → sums t n ≡ volume_in v t room n
  unfolding triangles_under
  sums_all n =
      let ts = triangles_in v t room in
      let by_first : ℕ → Bool = λ k. eqb (triangle_number v t room k) n in
      let named : ℕ → Bool = λ k. names_under (numbers_in v t room) n (triangle_at ts k) in
      ap (λ m. sums m n) (sym (many_triangles v t room S.whole))
      ∙ ap (sum_of_ℤ (λ k. sixfold (points_in v room) (triangle_at ts k)))
      (keep_cong (triangle_count ts) by_first named (λ k l. sym (one_number ts (numbers_in v t room) v shells S.corners S.numbered n k l)))

  pub volumes_all : volumes_after shells v t room t ≡ all_words v t shells (λ n. stored_volume (volume_in v t room n)) room
  volumes_all =
      words_cong v t shells room (λ n. stored_volume (sums t n)) (λ n. stored_volume (volume_in v t room n)) (λ n l. ap stored_volume (sums_all n))

  -- what is read back: a number that fits, and the volume
  pub volume_small : (n : ℕ) → nat_abs (volume_in v t room n) ≤ most_volume
  volume_small n = rw (sums_all n) at (within t n (omega arith))

  module _ (n : ℕ) (small : n < shells) where
    abbrev after : List ℕ
    after = all_words v t shells (λ i. stored_volume (volume_in v t room i)) room

    words_stored : words_in v t after n ≡ stored_volume (volume_in v t room n)
    words_stored = words_read v t shells room S.whole few n small (λ i. stored_volume (volume_in v t room i))

    pub words_fit : words_in v t after n ≤ 2 * most_volume
    unfolding stored_volume
    words_fit = rw words_stored (raised_small most_volume (volume_in v t room n) (volume_small n))

    pub volume_back : volume_read v t after n ≡ volume_in v t room n
    unfolding stored_volume
    volume_back = rw words_stored (read_back most_volume (volume_in v t room n) (volume_small n))

-- these are the volumes of the records
pub volume_is : (v t : ℕ) (room : List ℕ) (n : ℕ) → volume_in v t room n ≡ (record_in v t room n).volume
unfolding record_from
volume_is v t room n = refl
