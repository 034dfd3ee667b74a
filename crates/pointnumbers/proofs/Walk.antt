-- The walk of a stretch from one busy sample to the next, while its points are numbered.
use mathlib.Core.Path.{◌≡◌}
use mathlib.Core.List.{List}
use Prim.Native.Nat.{ℕ, ◌+◌, ◌*◌, ◌-◌, ◌^◌, ◌<◌, ◌≤◌}
use native.Mathlib.Omega.{arith}
use lib.Bits.{bit_and}
use lib.Count.{count_trailing_zeros}
use lib.ListN.{length}
use Rattle.laws.specs.Bits.{word_bits}
use Rattle.laws.proofs.Scan.{Left, left_all}
use Rattle.rows.specs.declared.Sides.{Sides}
use Rattle.rows.specs.declared.Crossed.{Crossed}
use Rattle.rows.specs.declared.Cuts.{Cuts}
use Rattle.rows.specs.Rows.{CutWords, cuts_at}
use Rattle.rows.proofs.Busy.{busy_of, tested, Found, found, rest_uncut}
use Rattle.pointnumbers.specs.Numbers.{SampleNumbered, NumberedTo}
use Rattle.pointnumbers.proofs.Numbering.{sample_passed, none_passed}

module _ (masks : List ℕ) (s many : ℕ) (c : Crossed) (from : ℕ) (room : List ℕ) where
  -- The samples before x are passed, `rest` has the bits of the busy ones left, and the edges before sample x are numbered if those before the stretch were. That is said of any sides, since the loop
  -- does not keep them.
  pub record Walked (rest n : ℕ) (work : List ℕ) : Type 0 where
    pub x : ℕ
    pub small : rest < 2 ^ 64
    pub most : x ≤ many
    pub left : Left (busy_of c) x rest
    pub numbered : (sides : Sides) → CutWords sides masks s many c → NumberedTo sides masks (3 * s) from room → NumberedTo sides masks (3 * (s + x)) n work

  -- before the first sample
  pub walk_first : busy_of c < 2 ^ 64 → Walked (busy_of c) from room
  walk_first small =
      let q : s + 0 ≡ s = omega arith in
      record { x = 0; small = small; most = omega arith; left = left_all (busy_of c); numbered = λ sides by so. rw q so }

  module _ (rest n : ℕ) (work : List ℕ) (walked : Walked rest n work) where
    abbrev t : ℕ
    t = count_trailing_zeros word_bits rest

    module _ (sides : Sides) (by : CutWords sides masks s many c) where
      -- the next busy sample
      pub next_busy : (rest ≡ 0 → ⊥) → Found sides masks s many (busy_of c) walked.x rest t
      next_busy some = found sides masks s many c by walked.x rest walked.left walked.small some

      module _ (so : NumberedTo sides masks (3 * s) from room) where
        -- the edges before the next busy sample are numbered
        pub walk_to : (rest ≡ 0 → ⊥) → NumberedTo sides masks (3 * (s + t)) n work
        walk_to some =
            let busy = next_busy some in
            let q : 3 * (s + t) ≡ 3 * (s + walked.x) + 3 * (t - walked.x) = omega (arith, busy.from) in
            rw q (none_passed sides masks _ n work (walked.numbered sides by so) _ busy.uncut)

        -- and where no busy one is left, all of the stretch's are
        pub walk_last : rest ≡ 0 → NumberedTo sides masks (3 * (s + many)) n work
        walk_last none =
            let q : 3 * (s + many) ≡ 3 * (s + walked.x) + 3 * (many - walked.x) = omega (arith, walked.most) in
            rw q (none_passed sides masks _ n work (walked.numbered sides by so) _ (rest_uncut sides masks s many c by walked.x rest walked.left none))

    -- past the next busy sample, whose edges are numbered
    pub walk_on : (sides : Sides) → CutWords sides masks s many c → (rest ≡ 0 → ⊥)
        → (next : ℕ) (after : List ℕ) → 3 * (s + t) + 2 < length work → (cuts : Cuts) → cuts ≡ cuts_at c t → SampleNumbered cuts (3 * (s + t)) n next work after
        → Walked (bit_and rest (rest - 1)) next after
    walk_on sides by some next after there cuts is step =
        let busy = next_busy sides by some in
        record {
          x = t + 1;
          small = omega (arith, busy.falls, walked.small);
          most = omega (arith, busy.there);
          left = busy.left;
          numbered = passed busy.there;
        }
      where
        passed : t < many → (sides : Sides) → CutWords sides masks s many c → NumberedTo sides masks (3 * s) from room → NumberedTo sides masks (3 * (s + (t + 1))) next after
        passed own sides by so =
            let to = walk_to sides by so some in
            let q : 3 * (s + (t + 1)) ≡ 3 * (s + t) + 3 = omega arith in
            rw q (sample_passed sides masks _ n next work after cuts to (omega (arith, to.whole)) (rw is (tested sides masks s many c by t own)) step)
