-- What a granted call that shows a point hands out, and what a caller in C holds after any call.
use mathlib.Core.Path.{◌≡◌, refl, sym, ◌∙◌}
use mathlib.Core.List.{List, [], ◌∷◌}
use mathlib.Core.Bool.{Bool, true, false, cond, not, ◌&&◌}
use Prim.Native.Nat.{ℕ, ◌*◌, ◌/◌, ◌%◌, ◌<◌}
use native.Mathlib.Omega.{arith}
use lib.Dec.{eqb, leb}
use lib.ListN.{length, get_or, drop, length-take, length-drop}
use borrow.Author.Tests.{ne_eqb, eqb-true, leb-false}
use Rattle.show.specs.Show.{show_number, shown_else}
use Rattle.show.specs.Promise.{Shown}

of_three : (xs : List ℕ) → length xs ≡ 3 → (get_or xs 0 0 ∷ get_or xs 1 0 ∷ get_or xs 2 0 ∷ []) ≡ xs
of_three (a ∷ b ∷ c ∷ []) h = refl
of_three [] h = absurd (omega arith)
of_three (a ∷ []) h = absurd (omega arith)
of_three (a ∷ b ∷ []) h = absurd (omega arith)
of_three (a ∷ b ∷ c ∷ d ∷ xs) h = absurd (omega arith)

module _ (raw smoothed : List ℕ) (second : Bool) (point : ℕ) where
  abbrev number : ℕ
  number = show_number (length raw) (length smoothed) point

  -- the part and the number, as the contract states them
  abbrev Answered : List ℕ → ℕ → Type 0
  Answered part n = Shown raw smoothed second point part n

  -- a granted call passed all three tests
  passed : (s t l : Bool) → ◌≡◌ {A = ℕ} (cond (not (s && t)) 6 (cond l 14 0)) 0 → (s ≡ true) × (t ≡ true) × (l ≡ false)
  passed true true false h = (refl, refl, refl)
  passed true true true h = absurd (omega arith)
  passed true false l h = absurd (omega arith)
  passed false t l h = absurd (omega arith)

  chosen : (b : Bool) → length raw ≡ length smoothed → length (cond b smoothed raw) ≡ length raw
  chosen true q = sym q
  chosen false q = refl

  -- and shows three numbers
  pub three_shown : (part : List ℕ) (n : ℕ) → Answered part n → n ≡ 0 → length part ≡ 3
  unfolding shown_else show_number
  three_shown part n a z =
      let p = passed (eqb (length raw) (length smoothed)) (eqb (length raw % 3) 0) (leb (length raw / 3) point) (sym a.1 ∙ z) in
      let q : length raw ≡ length smoothed = eqb-true _ _ p.0 in
      let l : point < length raw / 3 = leb-false _ _ p.2 in
      rw (a.0, sym a.1, z, length-take 3 (drop (3 * point) (cond second smoothed raw)), length-drop (3 * point) (cond second smoothed raw), chosen second q) (omega arith)

  -- where others stand in for an empty part: the three numbers of a granted call, or the others
  pub shown_instead : (part : List ℕ) (n : ℕ) → Answered part n → n ≡ 0 → (others : List ℕ) → (get_or part 0 0 ∷ get_or part 1 0 ∷ get_or part 2 0 ∷ []) ≡ shown_else raw smoothed second point others
  unfolding shown_else
  shown_instead part n a z others = of_three part (three_shown part n a z) ∙ rw (a.0, sym a.1, z)

  pub others_instead : (n : ℕ) → n ≡ number → (n ≡ 0 → ⊥) → (others : List ℕ) → others ≡ shown_else raw smoothed second point others
  unfolding shown_else
  others_instead n a f others = rw (sym a, ne_eqb n 0 f)
