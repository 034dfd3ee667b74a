-- A run of elements written into a room from a place on, and two runs one after the other.
use mathlib.Core.Path.{◌≡◌, refl, ap, sym, ◌∙◌}
use mathlib.Core.List.{List, [], ◌∷◌, ◌++◌, map, flat_map, map-append}
use Prim.Native.Nat.{ℕ, zero, suc, ◌+◌, ◌*◌, ◌<◌, ◌≤◌}
use native.Mathlib.Numerals.{add-one}
use native.Mathlib.Nat.{add-zero, mul-add}
use native.Mathlib.Omega.{arith}
use lib.ListN.{length, get_or, take, drop, set, length-set, length-append, length-map}
use lib.Seq.{sets, sets-eq, set_comm, drop-set-lt, take-suc, length-take-le, get_or-set_same, get_or-set_other, get_or-drop}
use Rattle.laws.specs.Room.{laid}
use Rattle.laws.proofs.Ranges.{flat_append, length_flat}

module _ {A : Type 0} where
  pub sets_append : (room : List A) (i : ℕ) (xs ys : List A) → sets (sets room i xs) (i + length xs) ys ≡ sets room i (xs ++ ys)
  sets_append room i [] ys = rw add-zero
  sets_append room i (x ∷ xs) ys =
      let e : i + suc (length xs) ≡ suc i + length xs = omega arith in
      rw e (sets_append (set room i x) (suc i) xs ys)

  -- written from the front on
  pub sets_front : (room xs : List A) → length xs ≤ length room → sets room 0 xs ≡ laid xs room
  unfolding laid
  sets_front room xs h =
      let e : 0 + length xs ≡ length xs = omega arith in
      sets-eq xs room 0 (omega arith) ∙ rw e

  -- from the front on, and then behind that
  pub laid_sets : (room xs ys : List A) (at : ℕ) → length xs ≡ at → at + length ys ≤ length room → sets (laid xs room) at ys ≡ laid (xs ++ ys) room
  laid_sets room xs ys at e l =
      let after : at ≡ 0 + length xs = omega (arith, e) in
      rw (← (sets_front room xs (omega (arith, e))), after) (sets_append room 0 xs ys ∙ sets_front room (xs ++ ys) (omega (arith, length-append xs ys, e)))

  -- what stands before the run stays
  pub sets_before : (room : List A) (i : ℕ) (xs : List A) (k : ℕ) (d : A) → k < i → get_or (sets room i xs) k d ≡ get_or room k d
  sets_before room i [] k d l = refl
  sets_before room i (x ∷ xs) k d l =
      sets_before (set room i x) (suc i) xs k d (omega arith) ∙ get_or-set_other room i k x d (λ e. absurd (omega arith))

  -- and the run stands from its place on
  pub sets_at : (room : List A) (i : ℕ) (xs : List A) (j : ℕ) (d : A) → i + length xs ≤ length room → j < length xs → get_or (sets room i xs) (i + j) d ≡ get_or xs j d
  sets_at room i [] j d h l = absurd (omega arith)
  sets_at room i (x ∷ xs) zero d h l =
      let e : i + 0 ≡ i = omega arith in
      rw e (sets_before (set room i x) (suc i) xs i d (omega arith) ∙ get_or-set_same room i x d (omega arith))
  sets_at room i (x ∷ xs) (suc j) d h l =
      let e : i + suc j ≡ suc i + j = omega arith in
      rw e (sets_at (set room i x) (suc i) xs j d (rw (length-set room i x) (omega arith)) (omega arith))

-- one element more of a list that is written from a place on
pub sets_next : {A : Type 0} (room : List A) (i : ℕ) (xs : List A) (j : ℕ) (d : A) → j < length xs
    → set (sets room i (take j xs)) (i + j) (get_or xs j d) ≡ sets room i (take (j + 1) xs)
sets_next room i xs j d l =
    let s : sets (sets room i (take j xs)) (i + length (take j xs)) (get_or xs j d ∷ []) ≡ sets room i (take j xs ++ (get_or xs j d ∷ [])) =
    sets_append room i (take j xs) (get_or xs j d ∷ []) in
    rw (add-one j, take-suc xs j d l) (rw (length-take-le j xs (omega arith)) at s)

-- three elements more
pub sets_three : {A : Type 0} (room : List A) (i : ℕ) (xs : List A) (j : ℕ) (d : A) {now : List A} {a b c : A} → j + 2 < length xs
    → now ≡ sets room i (take j xs) → a ≡ get_or xs j d → b ≡ get_or xs (j + 1) d → c ≡ get_or xs (j + 2) d
    → set (set (set now (i + j) a) (i + j + 1) b) (i + j + 2) c ≡ sets room i (take (j + 3) xs)
sets_three room i xs j d l r p q s =
    let second : i + j + 1 ≡ i + (j + 1) = omega arith in
    let third : i + j + 2 ≡ i + (j + 1 + 1) = omega arith in
    let two : j + 2 ≡ j + 1 + 1 = omega arith in
    let three : j + 3 ≡ j + 1 + 1 + 1 = omega arith in
    rw (r, p, q, s, second, third, two, three, sets_next room i xs j d (omega arith), sets_next room i xs (j + 1) d (omega arith))
    (sets_next room i xs (j + 1 + 1) d (omega arith))

-- what elements become, written where what others became ended: one place each, or as many as the width
pub map_sets : {A B : Type 0} (g : A → B) (room : List B) (n next : ℕ) (xs ys : List A) → next ≡ n + length xs
    → sets (sets room n (map g xs)) next (map g ys) ≡ sets room n (map g (xs ++ ys))
map_sets g room n next xs ys is =
    let at : next ≡ n + length (map g xs) = omega (arith, length-map xs g) in
    rw (at, map-append g xs ys) (sets_append room n (map g xs) (map g ys))

pub flat_sets : {A B : Type 0} (width : ℕ) (g : A → List B) → ((a : A) → length (g a) ≡ width) → (room : List B) (n next : ℕ) (xs ys : List A)
    → next ≡ n + length xs → sets (sets room (width * n) (flat_map g xs)) (width * next) (flat_map g ys) ≡ sets room (width * n) (flat_map g (xs ++ ys))
flat_sets width g even room n next xs ys is =
    let at : width * next ≡ width * n + length (flat_map g xs) = rw is (omega (arith, length_flat width g even xs, mul-add width n (length xs))) in
    rw (at, flat_append g xs ys) (sets_append room (width * n) (flat_map g xs) (flat_map g ys))

-- a store below a run of writes comes before it
pub set_before : {A : Type 0} (room : List A) (i j : ℕ) (xs : List A) (v : A) → i < j → set (sets room j xs) i v ≡ sets (set room i v) j xs
set_before room i j [] v l = refl
set_before room i j (x ∷ xs) v l = set_before (set room j x) i (suc j) xs v (omega arith) ∙ ap (λ r. sets r (suc j) xs) (set_comm room j i x v (omega arith))

pub sets_below : {A : Type 0} (room : List A) (i : ℕ) (xs : List A) (v : A) → set (sets room (i + 1) xs) i v ≡ sets room i (v ∷ xs)
sets_below room i xs v = rw add-one (set_before room i (suc i) xs v (omega arith))

-- a run below another comes before it
pub sets_comm : {A : Type 0} (room : List A) (i j : ℕ) (xs ys : List A) → i + length xs ≤ j → sets (sets room j ys) i xs ≡ sets (sets room i xs) j ys
sets_comm room i j [] ys h = refl
sets_comm room i j (x ∷ xs) ys h =
    ap (λ r. sets r (suc i) xs) (set_before room i j ys x (omega arith)) ∙ sets_comm (set room i x) (suc i) j xs ys (omega arith)

-- what stands behind a run stays
pub drop_behind : {A : Type 0} (room : List A) (i : ℕ) (xs : List A) (j : ℕ) → i + length xs ≤ j → drop j (sets room i xs) ≡ drop j room
drop_behind room i [] j h = refl
drop_behind room i (x ∷ xs) j h = drop_behind (set room i x) (suc i) xs j (omega arith) ∙ drop-set-lt j room i x (omega arith)

module _ {A : Type 0} where
  -- an entry is the first of what is left from it on
  first_left : (xs : List A) (k : ℕ) (d : A) → get_or (drop k xs) 0 d ≡ get_or xs k d
  first_left xs k d = get_or-drop k xs 0 d ∙ ap (λ i. get_or xs i d) (add-zero k)

  pub sets_behind : (room : List A) (i : ℕ) (xs : List A) (k : ℕ) (d : A) → i + length xs ≤ k → get_or (sets room i xs) k d ≡ get_or room k d
  sets_behind room i xs k d l = sym (first_left (sets room i xs) k d) ∙ ap (λ ys. get_or ys 0 d) (drop_behind room i xs k l) ∙ first_left room k d
