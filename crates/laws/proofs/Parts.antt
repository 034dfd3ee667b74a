-- A part of a room that was written, and the parts beside it.
use mathlib.Core.Path.{◌≡◌, refl, ap, sym, ◌∙◌}
use mathlib.Core.List.{List, [], ◌∷◌, ◌++◌, append_assoc}
use Prim.Native.Nat.{ℕ, suc, ◌+◌, ◌<◌, ◌≤◌}
use native.Mathlib.Omega.{arith}
use lib.ListN.{length, get_or, take, drop, set, length-drop, take-append-drop}
use lib.Seq.{sets, sets-eq, set-set, length-take-le, take_at, drop_at, take-append-le, drop-append-le, drop-drop, get_or-take, get_or-drop}
use Rattle.laws.proofs.Writes.{set_before, drop_behind}
use Rattle.laws.specs.Room.{laid}
use Rattle.laws.specs.Part.{part_of}

-- a part of the front of a list
part_front : {A : Type 0} (xs ys : List A) (b long : ℕ) → b + long ≤ length xs → part_of b long (xs ++ ys) ≡ part_of b long xs
part_front xs ys b long h = ap (take long) (drop-append-le b xs ys (omega arith)) ∙ take-append-le long (drop b xs) ys (omega (arith, length-drop b xs))

-- a run written over another that is no longer
pub sets_over : {A : Type 0} (room : List A) (at : ℕ) (xs ys : List A) → length xs ≤ length ys → sets (sets room at xs) at ys ≡ sets room at ys
sets_over room at [] ys e = refl
sets_over room at (x ∷ xs) [] e = absurd (omega arith)
sets_over room at (x ∷ xs) (y ∷ ys) e =
    ap (λ r. sets r (suc at) ys) (set_before (set room at x) at (suc at) xs y (omega arith) ∙ ap (λ r. sets r (suc at) xs) (set-set room at x y))
    ∙ sets_over (set room at y) (suc at) xs ys (omega arith)

module _ {A : Type 0} (room : List A) where
  -- a part has as many elements as there are, and where each of them stands
  pub length_part : (at long : ℕ) → at + long ≤ length room → length (part_of at long room) ≡ long
  length_part at long h = length-take-le long (drop at room) (omega (arith, length-drop at room))

  pub part_at : (at long i : ℕ) (d : A) → i < long → get_or (part_of at long room) i d ≡ get_or room (at + i) d
  part_at at long i d l = get_or-take long (drop at room) i d l ∙ get_or-drop at room i d

  module _ (at : ℕ) (xs : List A) (inside : at + length xs ≤ length room) where
    -- a list put in the place of a part
    pub put_sets : take at room ++ (xs ++ drop (length xs) (drop at room)) ≡ sets room at xs
    put_sets = rw drop-drop (sym (append_assoc (take at room) xs (drop (at + length xs) room)) ∙ sym (sets-eq xs room at inside))

    -- it stands there
    pub part_written : part_of at (length xs) (sets room at xs) ≡ xs
    part_written =
        let front = length-take-le at room (omega arith) in
        rw (sym put_sets, drop_at (take at room) (xs ++ drop (length xs) (drop at room)) at front) (take_at xs (drop (length xs) (drop at room)) (length xs) refl)

    -- what stands before it stays
    pub part_before : (b long : ℕ) → b + long ≤ at → part_of b long (sets room at xs) ≡ part_of b long room
    part_before b long h =
        let front = length-take-le at room (omega arith) in
        ap (part_of b long) (sym put_sets) ∙ part_front (take at room) (xs ++ drop (length xs) (drop at room)) b long (omega arith)
        ∙ sym (part_front (take at room) (drop at room) b long (omega arith)) ∙ ap (part_of b long) (take-append-drop at room)

    -- and what stands behind it
    pub part_behind : (b long : ℕ) → at + length xs ≤ b → part_of b long (sets room at xs) ≡ part_of b long room
    part_behind b long h = ap (take long) (drop_behind room at xs b h)

    -- written again, only the last counts
    pub sets_again : (ys : List A) → length ys ≡ length xs → sets (sets room at xs) at ys ≡ sets room at ys
    sets_again ys e = sets_over room at xs ys (omega (arith, e))

-- a part that was lent and came back as another list of its length: the room is then written with it, and it stands there
module _ {A : Type 0} (room xs : List A) (at long : ℕ) (e : length xs ≡ long) (inside : at + long ≤ length room) where
  pub put_back : take at room ++ (xs ++ drop long (drop at room)) ≡ sets room at xs
  put_back = rw (sym e) (put_sets room at xs (omega arith))

-- the front of a room that was lent, and came back as a part of a list
pub front_back : {A : Type 0} (read room front : List A) (from long : ℕ) → long ≤ length room → from + long ≤ length read → front ≡ part_of from (length (take long room)) read
    → front ++ drop long room ≡ laid (part_of from long read) room
unfolding laid
front_back read room front from long h k e = rw (e, length-take-le long room h, length_part read from long k)
