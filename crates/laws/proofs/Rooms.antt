-- A list laid over the front of a room, element by element.
use mathlib.Core.Path.{◌≡◌, refl, ap, sym, ◌∙◌}
use mathlib.Core.List.{List, [], ◌∷◌, ◌++◌, append_assoc, append-nil}
use Prim.Native.Nat.{ℕ, suc, ◌+◌, ◌<◌, ◌≤◌}
use native.Mathlib.Decide.{dec_lt}
use native.Mathlib.Numerals.{add-one}
use native.Mathlib.Omega.{arith}
use lib.ListN.{length, get_or, take, drop, set, replicate, length-append, length-drop, get_or-replicate, length-replicate, get_or-append, get_or-eq_default}
use lib.Seq.{take_at, take-suc, take_all, length-take-le, drop-length, drop-cons, set-append_seam, get_or-append-add, get_or-drop}
use Rattle.laws.specs.Room.{laid}

module _ {A : Type 0} (xs room : List A) where
  pub length_laid : length xs ≤ length room → length (laid xs room) ≡ length room
  unfolding laid
  length_laid h = simp (length-append, length-drop) (omega arith)

  -- what was written
  pub laid_front : (i : ℕ) (d : A) → i < length xs → get_or (laid xs room) i d ≡ get_or xs i d
  unfolding laid
  laid_front i d h = get_or-append xs (drop (length xs) room) d i h

  pub laid_read : (n : ℕ) → length xs ≡ n → take n (laid xs room) ≡ xs
  unfolding laid
  laid_read n e = take_at xs (drop (length xs) room) n e

  -- what stayed
  pub laid_rest : (i : ℕ) (d : A) → get_or (laid xs room) (length xs + i) d ≡ get_or room (length xs + i) d
  unfolding laid
  laid_rest i d = get_or-append-add xs (drop (length xs) room) i d ∙ get_or-drop (length xs) room i d

  -- nothing stays under a list that is as long
  pub laid_whole : length xs ≡ length room → laid xs room ≡ xs
  unfolding laid
  laid_whole e = rw (e, drop-length) (append-nil xs)

  -- one element more
  pub laid_next : (v : A) → length xs < length room → set (laid xs room) (length xs) v ≡ laid (xs ++ (v ∷ [])) room
  unfolding laid
  laid_next v h =
      rw (drop-cons room (length xs) v h, set-append_seam xs (get_or room (length xs) v) (drop (suc (length xs)) room) v, length-append, add-one, append_assoc)

-- a list laid over the front element by element: none, one more, and all
module _ {A : Type 0} (xs room : List A) where
  pub front_none : room ≡ laid (take 0 xs) room
  unfolding laid
  front_none = refl

  pub front_more : (d : A) (i : ℕ) {now : List A} {x : A} → now ≡ laid (take i xs) room → x ≡ get_or xs i d → i < length xs → i < length room → set now i x ≡ laid (take (i + 1) xs) room
  front_more d i is at l m =
      let e : length (take i xs) ≡ i = length-take-le i xs (omega arith) in
      rw (is, at, add-one, take-suc xs i d l) (ap (λ k. set (laid (take i xs) room) k (get_or xs i d)) (sym e) ∙ laid_next (take i xs) room (get_or xs i d) (rw e m))

  pub front_all : (i : ℕ) {now : List A} → now ≡ laid (take i xs) room → length xs ≤ i → now ≡ laid xs room
  front_all i is l = is ∙ ap (λ ys. laid ys room) (take_all i xs l)

-- a room of zeros holds zero, and so it is said of what lies beyond it
pub zeros_at : (n i : ℕ) → ◌≡◌ {A = ℕ} (get_or (replicate n 0) i 0) 0
zeros_at n i = go (dec_lt i n)
  where
    go : Dec (i < n) → ◌≡◌ {A = ℕ} (get_or (replicate n 0) i 0) 0
    go (yes l) = get_or-replicate n i 0 0 l
    go (no l) = get_or-eq_default (replicate n 0) 0 (rw (length-replicate {A = ℕ} n 0) (omega arith))
