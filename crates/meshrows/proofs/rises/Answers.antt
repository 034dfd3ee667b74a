-- `meshrows::rises` meets its contract.
use mathlib.Core.Path.{◌≡◌, sym, ◌∙◌}
use Prim.Native.Nat.{ℕ, ◌≤◌, ◌<◌}
use native.Mathlib.Decide.{dec_le}
use native.Mathlib.Omega.{arith}
use lib.Dec.{leb, ltb}
use borrow.Author.Tests.{le-leb, lt-leb, le-ltb, lt-ltb}
use Rattle.meshrows.proofs.rises.Goals as goal

-- two tests that pass together
alike : (bound edge next : ℕ) → (bound ≤ edge → bound < next) → (edge < bound → next ≤ bound) → ltb bound next ≡ leb bound edge
alike bound edge next f g = go (dec_le bound edge)
  where
    go : Dec (bound ≤ edge) → ltb bound next ≡ leb bound edge
    go (yes l) = lt-ltb bound next (f l) ∙ sym (le-leb bound edge l)
    go (no n) = let l : edge < bound = omega arith in le-ltb bound next (g l) ∙ sym (lt-leb bound edge l)

pub returns : goal.returns
returns c = alike c.args.bound c.args.edge _ (λ l. omega arith) (λ l. omega arith)
