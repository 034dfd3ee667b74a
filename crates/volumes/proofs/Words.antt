-- Two words a shell in the work room: read, one number changed, written again, and that they leave the mesh and the shell numbers.
use mathlib.Core.Path.{◌≡◌, ap, ap₂, sym, ◌∙◌}
use mathlib.Core.List.{List}
use Prim.Native.Nat.{ℕ, ◌+◌, ◌*◌, ◌<◌, ◌≤◌}
use native.Mathlib.Omega.{arith}
use lib.ListN.{length, get_or, set}
use lib.Seq.{sets, length-sets}
use Rattle.laws.specs.Values.{list_to}
use Rattle.laws.proofs.Values.{length_list, list_cong}
use Rattle.laws.proofs.Writes.{sets_before, set_before, sets_comm}
use Rattle.laws.proofs.Parts.{part_before, part_behind, sets_again}
use Rattle.columns.specs.Room.{marks_at, triangles_at, numbers_at, column_at, work_length}
use Rattle.columns.proofs.Rooms.{SameShells}
use Rattle.laws.proofs.Runs.{run_at, run_change}
use Rattle.volumes.specs.Volumes.{high_word, low_word, words_in, with_words, all_words}

-- equal numbers
pub words_cong : (v t shells : ℕ) (room : List ℕ) (f g : ℕ → ℕ) → ((n : ℕ) → n < shells → f n ≡ g n) → all_words v t shells f room ≡ all_words v t shells g room
words_cong v t shells room f g same =
    ap₂ (λ hs ls. sets (sets room (marks_at v) hs) (column_at v t) ls)
    (list_cong shells (λ n. high_word (f n)) (λ n. high_word (g n)) (λ n l. ap high_word (same n l)))
    (list_cong shells (λ n. low_word (f n)) (λ n. low_word (g n)) (λ n l. ap low_word (same n l)))

module _ (v t shells : ℕ) (room : List ℕ) (whole : length room ≡ work_length v t) (few : shells ≤ v) where
  -- the room with its high words
  abbrev highs : (ℕ → ℕ) → List ℕ
  highs f = sets room (marks_at v) (list_to shells (λ n. high_word (f n)))

  pub words_leave : (f : ℕ → ℕ) → SameShells v t room (all_words v t shells f room)
  words_leave f =
      let hs = list_to shells (λ n. high_word (f n)) in
      let ls = list_to shells (λ n. low_word (f n)) in
      let high = length_list shells (λ n. high_word (f n)) in
      let low = length_list shells (λ n. low_word (f n)) in
      let wide = length-sets room (marks_at v) hs in
      record {
        long = length-sets (highs f) (column_at v t) ls ∙ wide;
        points =
            part_before (highs f) (column_at v t) ls (omega (arith, low, wide)) 0 (3 * v) (omega arith)
            ∙ part_before room (marks_at v) hs (omega (arith, high)) 0 (3 * v) (omega arith);
        triangles =
            part_before (highs f) (column_at v t) ls (omega (arith, low, wide)) (triangles_at v) (3 * t) (omega arith)
            ∙ part_behind room (marks_at v) hs (omega (arith, high)) (triangles_at v) (3 * t) (omega (arith, high));
        numbers =
            part_before (highs f) (column_at v t) ls (omega (arith, low, wide)) (numbers_at v t) v (omega arith)
            ∙ part_behind room (marks_at v) hs (omega (arith, high)) (numbers_at v t) v (omega (arith, high));
      }

  pub words_again : (f g : ℕ → ℕ) → all_words v t shells g (all_words v t shells f room) ≡ all_words v t shells g room
  words_again f g =
      let hs = list_to shells (λ n. high_word (f n)) in
      let ls = list_to shells (λ n. low_word (f n)) in
      let hs' = list_to shells (λ n. high_word (g n)) in
      let ls' = list_to shells (λ n. low_word (g n)) in
      let high = length_list shells (λ n. high_word (f n)) in
      let low = length_list shells (λ n. low_word (f n)) in
      let high' = length_list shells (λ n. high_word (g n)) in
      let low' = length_list shells (λ n. low_word (g n)) in
      ap (λ r. sets r (column_at v t) ls') (sets_comm (highs f) (marks_at v) (column_at v t) hs' ls (omega (arith, high')) ∙ ap (λ r. sets r (column_at v t) ls) (sets_again room (marks_at v) hs (omega (arith, high)) hs' (high' ∙ sym high)))
      ∙ sets_again (highs g) (column_at v t) ls (omega (arith, low, length-sets room (marks_at v) hs')) ls' (low' ∙ sym low)

  module _ (n : ℕ) (small : n < shells) where
    pub words_read : (f : ℕ → ℕ) → words_in v t (all_words v t shells f room) n ≡ f n
    words_read f =
        let ls = list_to shells (λ i. low_word (f i)) in
        let high : get_or (all_words v t shells f room) (marks_at v + n) 0 ≡ high_word (f n)
        = sets_before (highs f) (column_at v t) ls (marks_at v + n) 0 (omega arith) ∙ run_at room (marks_at v) shells n (λ i. high_word (f i)) 0 (omega arith) small in
        let low : get_or (all_words v t shells f room) (column_at v t + n) 0 ≡ low_word (f n)
        = run_at (highs f) (column_at v t) shells n (λ i. low_word (f i)) 0 (omega (arith, length-sets room (marks_at v) (list_to shells (λ i. high_word (f i))))) small in
        omega arith

    -- one number changed, there and nowhere else
    pub words_change : (f g : ℕ → ℕ) → ((i : ℕ) → (i ≡ n → ⊥) → g i ≡ f i) → with_words v t n (g n) (all_words v t shells f room) ≡ all_words v t shells g room
    words_change f g others =
        let ls = list_to shells (λ i. low_word (f i)) in
        ap (λ r. set r (column_at v t + n) (low_word (g n)))
        (set_before (highs f) (marks_at v + n) (column_at v t) ls (high_word (g n)) (omega arith)
        ∙ ap (λ r. sets r (column_at v t) ls) (run_change room (marks_at v) shells n (λ i. high_word (f i)) (λ i. high_word (g i)) small (λ i d. ap high_word (others i d))))
        ∙ run_change (highs g) (column_at v t) shells n (λ i. low_word (f i)) (λ i. low_word (g i)) small (λ i d. ap low_word (others i d))
