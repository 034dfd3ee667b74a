-- Lines of any kind, read one after the other by a loop: what was read so far, and what is left to read.
use mathlib.Core.Path.{◌≡◌, refl, ap, sym}
use mathlib.Core.List.{List, [], ◌∷◌, ◌++◌, append_assoc, append-nil}
use Prim.Native.Nat.{ℕ, suc, ◌+◌, ◌-◌, ◌<◌}
use native.Mathlib.Omega.{arith}
use Rattle.reading.specs.Reading.{Got, bad, got}
use Rattle.reading.specs.Lined.{Lined, wrong, lined, following, read_line, read_lines}

-- lines that were read before these
unfoldable pub behind : {A : Type 0} → List A → Lined (List A) → Lined (List A)
behind xs (wrong line) = wrong line
behind xs (lined ys rest) = lined (xs ++ ys) rest

behind_again : {A : Type 0} (xs : List A) (x : A) (l : Lined (List A)) → behind xs (following (λ ys rest. lined (x ∷ ys) rest) l) ≡ behind (xs ++ (x ∷ [])) l
unfolding behind following
behind_again xs x (wrong line) = refl
behind_again xs x (lined ys rest) = ap (λ zs. lined zs rest) (sym (append_assoc xs (x ∷ []) ys))

pub lines_begin : {A : Type 0} (l : Lined (List A)) → l ≡ behind [] l
unfolding behind
lines_begin (wrong line) = refl
lines_begin (lined ys rest) = refl

module _ {A : Type 0} (one : ℕ → List ℕ → Got A) (next : A → ℕ) (count i bound line : ℕ) (bs : List ℕ) (xs : List A) where
  module _ (less : i < count) where
    -- one line more
    pub lines_turn : (x : A) (rest : List ℕ) → one bound bs ≡ got x rest
        → behind xs (read_lines one next (count - i) bound line bs) ≡ behind (xs ++ (x ∷ [])) (read_lines one next (count - (i + 1)) (next x) (line + 1) rest)
    unfolding read_lines read_line following
    lines_turn x rest e =
        let n : count - i ≡ suc (count - (i + 1)) = omega arith in
        rw (n, e) (behind_again xs x (read_lines one next (count - (i + 1)) (next x) (line + 1) rest))

    -- a line that is malformed
    pub lines_stop : one bound bs ≡ bad → behind xs (read_lines one next (count - i) bound line bs) ≡ wrong line
    unfolding read_lines read_line following behind
    lines_stop e =
        let n : count - i ≡ suc (count - (i + 1)) = omega arith in
        rw (n, e)

  -- no line is left
  pub lines_done : i ≡ count → behind xs (read_lines one next (count - i) bound line bs) ≡ lined xs bs
  unfolding read_lines behind
  lines_done e =
      let n : count - i ≡ 0 = omega arith in
      rw (n, append-nil xs)
