-- Steps of the numbering: an edge more, the edges of a sample, and a run of edges that are not crossed.
use mathlib.Core.Path.{◌≡◌, refl, ap, sym, ◌∙◌}
use mathlib.Core.List.{List}
use mathlib.Core.Bool.{Bool, true, false, true≢false}
use Prim.Native.Nat.{ℕ, ◌+◌, ◌-◌, ◌<◌, ◌≤◌}
use native.Mathlib.Decide.{dec_lt}
use native.Mathlib.Omega.{arith}
use lib.ListN.{length, get_or, set, length-set}
use lib.Seq.{get_or-set_same, get_or-set_other}
use Rattle.laws.specs.Range.{one_if, count_to, sum_to}
use Rattle.laws.proofs.Keep.{count_next, length_keep}
use Rattle.laws.proofs.Ranges.{count_split, count_le, count_none}
use Rattle.grid.specs.Grid.{axes, edge_count}
use Rattle.grid.specs.Point.{number, point_edges}
use Rattle.grid.specs.Work.{Numbered}
use Rattle.rows.specs.declared.Sides.{Sides}
use Rattle.rows.specs.declared.Cuts.{Cuts}
use Rattle.rows.specs.Rows.{size_of, words_above, cut, next_number}
use Rattle.pointnumbers.specs.Numbers.{SampleNumbered, NumberedTo}
use Rattle.rows.proofs.Busy.{Tested}

module _ (sides : Sides) (masks : List ℕ) where
  abbrev rank : ℕ → ℕ
  rank = number axes (size_of sides) (words_above sides masks)

  rank_next : (e : ℕ) → rank (e + 1) ≡ next_number (cut sides masks e) (rank e)
  unfolding number
  rank_next e = count_next e (cut sides masks)

  rank_none : (e len : ℕ) → ((i : ℕ) → i < len → cut sides masks (e + i) ≡ false) → rank (e + len) ≡ rank e
  unfolding number
  rank_none e len none = omega (arith, count_split e len (cut sides masks), count_none len (λ i. cut sides masks (e + i)) none)

  -- no more points than edges
  pub numbers_few : (e n : ℕ) (work : List ℕ) → NumberedTo sides masks e n work → n ≤ e
  unfolding number
  numbers_few e n work so = omega (arith, so.counted, count_le e (cut sides masks))

  -- an edge, at which a number is written whether it is crossed or not, and a run of edges that are not
  edge_passed : (e n : ℕ) (work : List ℕ) → NumberedTo sides masks e n work → e < edge_count axes (size_of sides) → (b : Bool) → cut sides masks e ≡ b
      → NumberedTo sides masks (e + 1) (next_number b n) (set work e n)
  edge_passed e n work so h b is = record {
    whole = length-set work e n ∙ so.whole;
    counted = omega (arith, rank_next e, ap one_if is, so.counted);
    ranks = λ i l t. at i l t (dec_lt i e);
  }
    where
      at : (i : ℕ) → i < e + 1 → cut sides masks i ≡ true → Dec (i < e) → get_or (set work e n) i 0 ≡ rank i
      at i l t (yes below) = get_or-set_other work e i n 0 (λ q. omega arith) ∙ so.ranks i below t
      at i l t (no not_below) =
          let q : i ≡ e = omega arith in
          rw q (get_or-set_same work e n 0 (omega (arith, so.whole)) ∙ so.counted)

  pub none_passed : (e n : ℕ) (work : List ℕ) → NumberedTo sides masks e n work → (len : ℕ) → ((i : ℕ) → i < len → cut sides masks (e + i) ≡ false)
      → NumberedTo sides masks (e + len) n work
  none_passed e n work so len none = record {
    whole = so.whole;
    counted = so.counted ∙ sym (rank_none e len none);
    ranks = λ i l t. at i l t (dec_lt i e);
  }
    where
      at : (i : ℕ) → i < e + len → cut sides masks i ≡ true → Dec (i < e) → get_or work i 0 ≡ rank i
      at i l t (yes below) = so.ranks i below t
      at i l t (no not_below) =
          let q : e + (i - e) ≡ i = omega arith in
          absurd (true≢false (sym t ∙ ap (cut sides masks) (sym q) ∙ none (i - e) (omega arith)))

  -- the three edges that leave a sample
  pub sample_passed : (e n next : ℕ) (work after : List ℕ) (cuts : Cuts) → NumberedTo sides masks e n work → e + 2 < edge_count axes (size_of sides)
      → Tested sides masks e cuts → SampleNumbered cuts e n next work after
      → NumberedTo sides masks (e + 3) next after
  sample_passed e n next work after cuts so h by step =
      let past_x = edge_passed e n work so (omega arith) _ by.along_x in
      let past_y = edge_passed (e + 1) _ _ past_x (omega arith) _ by.along_y in
      let two : e + 1 + 1 ≡ e + 2 = omega arith in
      let past_z = edge_passed (e + 2) _ _ (rw two at past_y) h _ by.along_z in
      let three : e + 2 + 1 ≡ e + 3 = omega arith in
      rw (step.counted, step.written) (rw three at past_z)

  -- before the first edge, and past the last
  pub none_numbered : (work : List ℕ) → length work ≡ edge_count axes (size_of sides) → NumberedTo sides masks 0 0 work
  unfolding number count_to sum_to
  none_numbered work fits = record { whole = fits; counted = refl; ranks = λ i l t. absurd (omega arith) }

  pub all_counted : (n : ℕ) (work : List ℕ) → NumberedTo sides masks (edge_count axes (size_of sides)) n work
      → n ≡ length (point_edges axes (size_of sides) (words_above sides masks))
  unfolding number point_edges
  all_counted n work so = so.counted ∙ sym (length_keep (edge_count axes (size_of sides)) (cut sides masks))

  pub all_numbered : (n : ℕ) (work : List ℕ) → NumberedTo sides masks (edge_count axes (size_of sides)) n work
      → Numbered axes (size_of sides) (words_above sides masks) work
  all_numbered n work so = record { whole = so.whole; ranks = so.ranks }
