-- The sum over a box of cells that begins anywhere, in parts.
use mathlib.Core.Path.{◌≡◌, ap, ap₂, sym, ◌∙◌}
use Prim.Native.Nat.{ℕ, ◌+◌}
use native.Mathlib.Nat.{add_assoc, zero-add}
use Rattle.laws.specs.Range.{sum_to}
use Rattle.laws.proofs.Ranges.{sum_cong, sum_split, sum_add}

-- the sum over a box of p by q by r cells that begins at (x, y, z)
module _ (f : ℕ → ℕ → ℕ → ℕ) where
  abbrev pub box : ℕ → ℕ → ℕ → ℕ → ℕ → ℕ → ℕ
  box x y z p q r = sum_to r (λ c. sum_to q (λ b. sum_to p (λ a. f (x + a) (y + b) (z + c))))

  -- a box in two parts along an axis
  box_x : (x y z p p' q r : ℕ) → box x y z (p + p') q r ≡ box x y z p q r + box (x + p) y z p' q r
  box_x x y z p p' q r =
      sum_cong r _ _ (λ c lc. sum_cong q _ _ (λ b lb.
      sum_split p p' (λ a. f (x + a) (y + b) (z + c)) ∙ ap (λ s. sum_to p (λ a. f (x + a) (y + b) (z + c)) + s)
      (sum_cong p' _ _ (λ a la. ap (λ e. f e (y + b) (z + c)) (sym (add_assoc x p a)))))
      ∙ sum_add q (λ b. sum_to p (λ a. f (x + a) (y + b) (z + c))) (λ b. sum_to p' (λ a. f (x + p + a) (y + b) (z + c))))
      ∙ sum_add r (λ c. sum_to q (λ b. sum_to p (λ a. f (x + a) (y + b) (z + c)))) (λ c. sum_to q (λ b. sum_to p' (λ a. f (x + p + a) (y + b) (z + c))))

  box_y : (x y z p q q' r : ℕ) → box x y z p (q + q') r ≡ box x y z p q r + box x (y + q) z p q' r
  box_y x y z p q q' r =
      sum_cong r _ _ (λ c lc.
      sum_split q q' (λ b. sum_to p (λ a. f (x + a) (y + b) (z + c))) ∙ ap (λ s. sum_to q (λ b. sum_to p (λ a. f (x + a) (y + b) (z + c))) + s)
      (sum_cong q' _ _ (λ b lb. ap (λ e. sum_to p (λ a. f (x + a) e (z + c))) (sym (add_assoc y q b)))))
      ∙ sum_add r (λ c. sum_to q (λ b. sum_to p (λ a. f (x + a) (y + b) (z + c)))) (λ c. sum_to q' (λ b. sum_to p (λ a. f (x + a) (y + q + b) (z + c))))

  box_z : (x y z p q r r' : ℕ) → box x y z p q (r + r') ≡ box x y z p q r + box x y (z + r) p q r'
  box_z x y z p q r r' =
      sum_split r r' (λ c. sum_to q (λ b. sum_to p (λ a. f (x + a) (y + b) (z + c))))
      ∙ ap (λ s. box x y z p q r + s) (sum_cong r' _ _ (λ c lc. ap (λ e. sum_to q (λ b. sum_to p (λ a. f (x + a) (y + b) e))) (sym (add_assoc z r c))))

  -- in its eight halves
  pub box_halves : (x y z m : ℕ) → box x y z (m + m) (m + m) (m + m)
      ≡ box x y z m m m + box (x + m) y z m m m + (box x (y + m) z m m m + box (x + m) (y + m) z m m m)
      + (box x y (z + m) m m m + box (x + m) y (z + m) m m m + (box x (y + m) (z + m) m m m + box (x + m) (y + m) (z + m) m m m))
  box_halves x y z m =
      box_z x y z (m + m) (m + m) m m
      ∙ ap₂ ◌+◌ (layer z) (layer (z + m))
    where
      row : (y' z' : ℕ) → box x y' z' (m + m) m m ≡ box x y' z' m m m + box (x + m) y' z' m m m
      row y' z' = box_x x y' z' m m m m

      layer : (z' : ℕ) → box x y z' (m + m) (m + m) m
          ≡ box x y z' m m m + box (x + m) y z' m m m + (box x (y + m) z' m m m + box (x + m) (y + m) z' m m m)
      layer z' = box_y x y z' (m + m) m m m ∙ ap₂ ◌+◌ (row y z') (row (y + m) z')

pub from_origin : (f : ℕ → ℕ → ℕ → ℕ) (p q r : ℕ) → box f 0 0 0 p q r ≡ sum_to r (λ c. sum_to q (λ b. sum_to p (λ a. f a b c)))
from_origin f p q r =
    sum_cong r _ _ (λ c lc. sum_cong q _ _ (λ b lb. sum_cong p _ _ (λ a la i. f (zero-add a i) (zero-add b i) (zero-add c i))))
