-- A row of a known length that is filled with the values of a function from the front: none yet, and one more.
use mathlib.Core.Path.{◌≡◌, sym, ◌∙◌}
use mathlib.Core.List.{List}
use Prim.Native.Nat.{ℕ, ◌+◌, ◌<◌}
use native.Mathlib.Omega.{arith}
use lib.ListN.{length, set, length-set}
use Rattle.laws.specs.Room.{laid}
use Rattle.laws.specs.Values.{list_to}
use Rattle.laws.proofs.Values.{laid_none, laid_more}

-- the row `row`, which was `had` and is n long, has i values of f
pub record Filled {A : Type 0} (n : ℕ) (f : ℕ → A) (had : List A) (i : ℕ) (row : List A) : Type 0 where
  pub from : length had ≡ n
  pub long : length row ≡ n
  pub is : row ≡ laid (list_to i f) had

module _ {A : Type 0} {n : ℕ} {f : ℕ → A} {had : List A} where
  pub filled_none : length had ≡ n → Filled n f had 0 had
  filled_none long = record { from = long; long = long; is = sym (laid_none f had) }

  pub filled_more : {i : ℕ} {row : List A} {v : A} → i < n → Filled n f had i row → v ≡ f i → Filled n f had (i + 1) (set row i v)
  filled_more {i} {row} {v} l filled here = record {
    from = filled.from;
    long = length-set row i v ∙ filled.long;
    is = rw (filled.is, here) (laid_more i f had (omega arith));
  }
