-- Where every point but point 0 shares a side with a lower one, all points are one shell.
use mathlib.Core.Path.{◌≡◌, sym, ◌∙◌}
use mathlib.Core.List.{List}
use mathlib.Core.Bool.{true}
use Prim.Native.Nat.{ℕ, zero, suc, ◌<◌, ◌≤◌}
use native.Mathlib.Omega.{arith}
use lib.ListN.{replicate, length-replicate, get_or-replicate}
use Rattle.laws.specs.Range.{all_to, some_to}
use Rattle.laws.specs.Mesh.{Triangle}
use Rattle.laws.proofs.Tests.{all_at}
use Rattle.laws.proofs.Some.{some_at}
use Rattle.mesh.specs.Neighbours.{share_side}
use Rattle.sets.specs.Led.{Led, here, along}
use Rattle.shellnumbers.specs.Numbering.{number_of, Numbering}
use Rattle.sets.proofs.Leading.{led_on, led_back}

module _ (ts : List Triangle) (m : ℕ) (lower : all_to m (λ i. some_to (suc i) (share_side ts (suc i))) ≡ true) where
  -- sides lead down to point 0, and so between any two points
  step : (k p : ℕ) → p ≤ suc k → p ≤ m → ((q : ℕ) → q ≤ k → q ≤ m → Led ts q 0) → Led ts p 0
  step k zero a b below = here
  step k (suc p) a b below =
      some_at (suc p) (share_side ts (suc p)) (all_at m (λ i. some_to (suc i) (share_side ts (suc i))) lower p (omega arith))
      (λ q l s. along s (below q (omega arith) (omega arith)))

  down : (k p : ℕ) → p ≤ k → p ≤ m → Led ts p 0
  down zero p a b = let e : p ≡ 0 = omega arith in rw e here
  down (suc k) p a b = step k p a b (down k)

  between : (p q : ℕ) → p < suc m → q < suc m → Led ts p q
  between p q a b = led_on ts (down p p (omega arith) (omega arith)) (led_back ts (down q q (omega arith) (omega arith)))

  numbered : (p : ℕ) → p < suc m → number_of (replicate (suc m) 0) p ≡ 0
  numbered p l = get_or-replicate (suc m) p 0 0 l

  pub one_shell : Numbering ts (suc m) (replicate (suc m) 0) 1
  one_shell =
      record {
        long = length-replicate (suc m) 0;
        led = λ p q a b e. between p q a b;
        same = λ p q a b w. numbered p a ∙ sym (numbered q b);
        small = λ p l. omega (arith, numbered p l);
        used = λ n l. record { point = 0; small = omega arith; number = omega arith };
        rising = λ p q a b lp lq l. absurd (omega (arith, lq p a (numbered p a ∙ sym (numbered q b))));
      }
