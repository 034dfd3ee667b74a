-- What is read back of a point whose answer is granted.
use mathlib.Core.List.{List}
use mathlib.Core.Path.{◌≡◌, sym}
use Prim.Native.Nat.{ℕ, ◌*◌, ◌≤◌, ◌<◌}
use lib.Ieee.{Float}
use lib.ListN.{length, get_or}
use borrow.Author.Tests.{eq-eqb, lt-leb, le-ltb}
use Rattle.std.proofs.Common.{Ok}
use Rattle.curvature.specs.Answers.{holds_of, read_back_number, answer_at}
use Rattle.curvature.specs.Promise.{ReadsBack}

module _ (marks : List ℕ) (areas vectors : List Float) (point : ℕ) where
  abbrev number : ℕ
  number = read_back_number marks areas vectors point

  module _ (a : length areas ≡ length marks) (v : length vectors ≡ 3 * length marks) where
    granted_number : point < length marks → get_or marks point 0 ≤ 1 → number ≡ 0
    unfolding read_back_number
    granted_number l h = rw (eq-eqb _ _ a, eq-eqb _ _ v, lt-leb _ _ l, le-ltb _ _ h)

    pub answered : point < length marks → get_or marks point 0 ≤ 1 → ReadsBack marks areas vectors point (Ok (answer_at marks areas vectors point))
    unfolding holds_of
    answered l h = (sym (granted_number l h), rw (granted_number l h))
