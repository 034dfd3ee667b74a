use Rattle.std.proofs.Common.{rules, ◌≤◌, ◌≡◌, length, take, ℕ, ◌+◌, ◌-◌, List, ◌++◌, subst, ap, sym, ◌∙◌, le_refl, drop, drop_at, length-take-le}
use Rattle.std.proofs.lemmas.Slice.{take-put_mid_below}
use Rattle.std.proofs.KnownBytes.{Consumes-trans}
use Rattle.std.specs.Io.KnownBytes.{Consumes}
use borrow.Rule.Slice.PartMut.{put_mid, post_of}
use lib.Seq.{take-add, take-append-le}
use Rattle.small.proofs.streams.read_full.Goals as goal

-- what stood at the room's start, and the first bytes of what was read behind it
read_behind : (a k n : ℕ) (xs ys : List ℕ) → a ≤ length xs → n ≤ length ys → take a xs ++ take n ys ≡ take (a + n) (put_mid a k xs ys)
read_behind a k n xs ys within fits =
    let all = put_mid a k xs ys in
    let front = ap (λ l. l ++ take n (drop a all)) (take-put_mid_below _ _ _ _ _ (le_refl _) within) in
    let back = drop_at (take a xs) (ys ++ post_of a k xs) a (length-take-le a xs within) in
    sym (take-add a n all ∙ front ∙ ap (λ l. take a xs ++ take n l) back ∙ ap (λ l. take a xs ++ l) (take-append-le n ys (post_of a k xs) fits))

pub loop-filled-preserved : goal.loop-filled-preserved
loop-filled-preserved g c =
    let w = c.loop-filled in
    let joined = read_behind w.filled (length w.room - w.filled) c.in_ok-count.count w.room c.read.new.buf w.invariant.0 c.in_ok-count.ensures.bound.0 in
    (search rules, search rules, subst (Consumes _ _) joined (Consumes-trans _ _ _ _ _ w.invariant.2 c.in_ok-count.ensures.bytes.0))
