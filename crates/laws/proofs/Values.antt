-- The values of a function at the numbers below n: how many, each in its place, and one more.
use mathlib.Core.Path.{◌≡◌, refl, ap, sym, ◌∙◌}
use mathlib.Core.List.{List, [], ◌∷◌, ◌++◌, append-nil, flat_map}
use Prim.Native.Nat.{ℕ, zero, suc, ◌+◌, ◌<◌, ◌-◌, ◌≤◌}
use native.Mathlib.Decide.{dec_lt, ℕ_discrete}
use native.Mathlib.Omega.{arith}
use lib.ListN.{length, get_or, set, drop, replicate, length-append, length-replicate, length-set, get_or-append, get_or-replicate}
use lib.Seq.{get_or_at, ext_get_or, set-append_left, get_or-set_same, get_or-set_other}
use Rattle.laws.specs.Range.{join_to}
use Rattle.laws.specs.Room.{laid}
use Rattle.laws.specs.Values.{list_to}
use Rattle.laws.proofs.Ranges.{join_next, join_cong, join_split, flat_join}
use Rattle.laws.proofs.Rooms.{laid_next, laid_front, laid_whole, laid_rest}

module _ {A : Type 0} where
  pub list_next : (n : ℕ) (f : ℕ → A) → list_to (n + 1) f ≡ list_to n f ++ (f n ∷ [])
  unfolding list_to
  list_next n f = join_next n (λ i. f i ∷ [])

  pub length_list : (n : ℕ) (f : ℕ → A) → length (list_to n f) ≡ n
  unfolding list_to join_to
  length_list zero f = refl
  length_list (suc n) f = simp length-append (omega (arith, length_list n f))

  pub list_at : (n i : ℕ) (f : ℕ → A) (d : A) → i < n → get_or (list_to n f) i d ≡ f i
  unfolding list_to join_to
  list_at zero i f d l = absurd (omega arith)
  list_at (suc n) i f d l = go (dec_lt i n) (λ l'. list_at n i f d l')
    where
      go : Dec (i < n) → (i < n → get_or (list_to n f) i d ≡ f i) → get_or (join_to n (λ i. f i ∷ []) ++ (f n ∷ [])) i d ≡ f i
      go (yes l') below = get_or-append (join_to n (λ i. f i ∷ [])) (f n ∷ []) d i (omega (arith, length_list n f)) ∙ below l'
      go (no ge) below =
          let q : i ≡ n = omega arith in
          rw q (get_or_at (join_to n (λ i. f i ∷ [])) (f n) [] d n (length_list n f))

  pub list_cong : (n : ℕ) (f g : ℕ → A) → ((i : ℕ) → i < n → f i ≡ g i) → list_to n f ≡ list_to n g
  unfolding list_to
  list_cong n f g h = join_cong n (λ i. f i ∷ []) (λ i. g i ∷ []) (λ i l. ap (λ a. a ∷ []) (h i l))

  -- one value at every place
  pub list_same : (n : ℕ) (x : A) → list_to n (λ i. x) ≡ replicate n x
  list_same n x =
      ext_get_or x (list_to n (λ i. x)) (replicate n x) (length_list n (λ i. x) ∙ sym (length-replicate n x))
      (λ k l. let m : k < n = omega (arith, length_list n (λ (i : ℕ). x)) in list_at n k (λ i. x) x m ∙ sym (get_or-replicate n k x x m))

  pub list_split : (m n : ℕ) (f : ℕ → A) → list_to (m + n) f ≡ list_to m f ++ list_to n (λ i. f (m + i))
  unfolding list_to
  list_split m n f = join_split m n (λ i. f i ∷ [])

  -- each made a list of its own
  pub flat_list : {B : Type 0} (w : A → List B) (n : ℕ) (f : ℕ → A) → flat_map w (list_to n f) ≡ join_to n (λ i. w (f i))
  unfolding list_to flat_map
  flat_list w n f = flat_join w n (λ i. f i ∷ []) ∙ join_cong n _ (λ i. w (f i)) (λ i l. append-nil (w (f i)))

  -- the values laid over the front of a room: none, one more, and as many as the room is long
  pub laid_none : (f : ℕ → A) (room : List A) → laid (list_to 0 f) room ≡ room
  unfolding laid list_to join_to
  laid_none f room = refl

  pub laid_more : (n : ℕ) (f : ℕ → A) (room : List A) → n < length room → set (laid (list_to n f) room) n (f n) ≡ laid (list_to (n + 1) f) room
  laid_more n f room l =
      ap (λ k. set (laid (list_to n f) room) k (f n)) (sym (length_list n f))
      ∙ laid_next (list_to n f) room (f n) (omega (arith, length_list n f))
      ∙ ap (λ xs. laid xs room) (sym (list_next n f))

  pub laid_all : (n : ℕ) (f : ℕ → A) (room : List A) → n ≡ length room → laid (list_to n f) room ≡ list_to n f
  laid_all n f room e = laid_whole (list_to n f) room (length_list n f ∙ e)

  pub laid_at : (n i : ℕ) (f : ℕ → A) (room : List A) (d : A) → i < n → get_or (laid (list_to n f) room) i d ≡ f i
  laid_at n i f room d l = laid_front (list_to n f) room i d (omega (arith, length_list n f)) ∙ list_at n i f d l

  pub laid_past : (n i : ℕ) (f : ℕ → A) (room : List A) (d : A) → n ≤ i → get_or (laid (list_to n f) room) i d ≡ get_or room i d
  laid_past n i f room d l =
      let e : i ≡ length (list_to n f) + (i - n) = omega (arith, length_list n f) in
      rw e (laid_rest (list_to n f) room (i - n) d)

  -- one value changed, there and nowhere else
  pub list_change : (n i : ℕ) (f g : ℕ → A) → i < n → ((k : ℕ) → (k ≡ i → ⊥) → g k ≡ f k) → set (list_to n f) i (g i) ≡ list_to n g
  list_change n i f g l h =
      ext_get_or (g i) (set (list_to n f) i (g i)) (list_to n g) (length-set (list_to n f) i (g i) ∙ length_list n f ∙ sym (length_list n g)) same
    where
      long : length (set (list_to n f) i (g i)) ≡ n
      long = length-set (list_to n f) i (g i) ∙ length_list n f

      same : (k : ℕ) → k < length (set (list_to n f) i (g i)) → get_or (set (list_to n f) i (g i)) k (g i) ≡ get_or (list_to n g) k (g i)
      same k lk = go (ℕ_discrete k i)
        where
          go : Dec (k ≡ i) → get_or (set (list_to n f) i (g i)) k (g i) ≡ get_or (list_to n g) k (g i)
          go (yes e) = rw e (get_or-set_same (list_to n f) i (g i) (g i) (omega (arith, length_list n f)) ∙ sym (list_at n i g (g i) l))
          go (no ne) =
              get_or-set_other (list_to n f) i k (g i) (g i) ne
              ∙ list_at n k f (g i) (omega (arith, long))
              ∙ sym (h k ne)
              ∙ sym (list_at n k g (g i) (omega (arith, long)))

  pub laid_change : (n i : ℕ) (f g : ℕ → A) (room : List A) → i < n → ((k : ℕ) → (k ≡ i → ⊥) → g k ≡ f k) → set (laid (list_to n f) room) i (g i) ≡ laid (list_to n g) room
  unfolding laid
  laid_change n i f g room l h =
      set-append_left (list_to n f) (drop (length (list_to n f)) room) i (g i) (omega (arith, length_list n f))
      ∙ ap (λ xs. xs ++ drop (length (list_to n f)) room) (list_change n i f g l h)
      ∙ ap (λ k. list_to n g ++ drop k room) (length_list n f ∙ sym (length_list n g))
