-- Lines that were read, read once more by a loop: each is there, and says what it said.
use mathlib.Core.Path.{◌≡◌, refl, ap, sym, ◌∙◌}
use mathlib.Core.List.{List, ◌∷◌}
use Prim.Native.Nat.{ℕ, zero, suc, ◌+◌, ◌-◌, ◌≤◌, ◌<◌}
use native.Mathlib.Omega.{arith}
use lib.ListN.{length, get_or, drop}
use lib.Seq.{get_or-drop, drop-drop}
use Rattle.std.specs.Prelude.{Option, Some, None, IsSome}
use Rattle.reading.specs.Reading.{Got, got}
use Rattle.reading.specs.Answers.{answered}
use Rattle.reading.specs.Lined.{lined, following, read_line, read_lines}
use Rattle.reading.proofs.Digits.{never}
use Rattle.reading.proofs.Exact.{got_value, got_rest}
use Rattle.reading.proofs.Following.{earlier, line_got, lined_value, lined_rest}

module _ {A : Type 0} (one : ℕ → List ℕ → Got A) (next : A → ℕ) where
  -- the first of some lines, and the others
  record First (k bound line : ℕ) (bs : List ℕ) (xs : List A) (rest : List ℕ) : Type 0 where
    pub first : A
    pub others : List A
    pub more : List ℕ
    pub here : one bound bs ≡ got first more
    pub split : xs ≡ first ∷ others
    pub then : read_lines one next k (next first) (line + 1) more ≡ lined others rest

  first_line : (k bound line : ℕ) (bs : List ℕ) (xs : List A) (rest : List ℕ) → read_lines one next (suc k) bound line bs ≡ lined xs rest → First k bound line bs xs rest
  unfolding read_lines
  first_line k bound line bs xs rest e =
      let a = earlier (λ a rest. following (λ as' rest. lined (a ∷ as') rest) (read_lines one next k (next a) (line + 1) rest)) (read_line line (one bound bs)) xs rest e in
      let b = earlier (λ as' rest. lined (a.first ∷ as') rest) (read_lines one next k (next a.first) (line + 1) a.more) xs rest a.then in
      record {
        first = a.first;
        others = b.first;
        more = a.more;
        here = line_got line (one bound bs) a.first a.more a.here;
        split = sym (lined_value b.then);
        then = rw (lined_rest b.then) at b.here;
      }

  -- as many lines are read as were asked for
  pub lines_many : (k bound line : ℕ) (bs : List ℕ) (xs : List A) (rest : List ℕ) → read_lines one next k bound line bs ≡ lined xs rest → length xs ≡ k
  unfolding read_lines
  lines_many zero bound line bs xs rest e = rw (sym (lined_value e)) refl
  lines_many (suc k) bound line bs xs rest e =
      let s = first_line k bound line bs xs rest e in
      rw s.split (ap suc (lines_many k (next s.first) (line + 1) s.more s.others rest s.then))

  module _ (input : List ℕ) (count : ℕ) (said : List A) where
    -- n of the lines were read again, up to a place
    pub record Again (n at bound : ℕ) : Type 0 where
      pub few : n ≤ count
      pub line : ℕ
      pub behind : List ℕ
      pub left : read_lines one next (count - n) bound line (drop at input) ≡ lined (drop n said) behind

    pub again_begin : (from bound line : ℕ) (behind : List ℕ) → read_lines one next count bound line (drop from input) ≡ lined said behind → Again 0 from bound
    again_begin from bound line behind there =
        let e : count - 0 ≡ count = omega arith in
        record { few = omega arith; line = line; behind = behind; left = rw e there }

    module _ (d : A) (n at bound : ℕ) (g : Again n at bound) (less : n < count) where
      found : First (count - (n + 1)) bound g.line (drop at input) (drop n said) g.behind
      found =
          let e : count - n ≡ suc (count - (n + 1)) = omega arith in
          first_line (count - (n + 1)) bound g.line (drop at input) (drop n said) g.behind (rw e at g.left)

      -- a reader of the line answers something
      pub again_some : (r : Option (A × ℕ)) → one bound (drop at input) ≡ answered input r → IsSome r
      again_some None e = never (sym e ∙ found.here)
      again_some (Some x) e = refl

      -- and that is what was said
      module _ (a : A) (place : ℕ) (h : one bound (drop at input) ≡ got a (drop place input)) where
        pub again_said : get_or said n d ≡ a
        again_said =
            let z : n + 0 ≡ n = omega arith in
            ap (λ i. get_or said i d) (sym z) ∙ sym (get_or-drop n said 0 d) ∙ ap (λ xs. get_or xs 0 d) found.split ∙ got_value (sym found.here ∙ h)

        pub again_next : Again (n + 1) place (next a)
        again_next =
            let r : found.more ≡ drop place input = got_rest (sym found.here ∙ h) in
            let w : found.first ≡ a = got_value (sym found.here ∙ h) in
            let s : drop (n + 1) said ≡ found.others = sym (drop-drop 1 n said) ∙ ap (drop 1) found.split in
            record {
              few = omega (arith, less);
              line = g.line + 1;
              behind = g.behind;
              left = ap (λ x. read_lines one next (count - (n + 1)) (next x) (g.line + 1) (drop place input)) (sym w)
                  ∙ ap (read_lines one next (count - (n + 1)) (next found.first) (g.line + 1)) (sym r) ∙ found.then ∙ ap (λ xs. lined xs g.behind) (sym s);
            }
