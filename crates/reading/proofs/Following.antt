-- Lines of any kind, read as they were written.
use mathlib.Core.Path.{◌≡◌, refl, ap, sym, ◌∙◌}
use mathlib.Core.List.{List, [], ◌∷◌, ◌++◌, flat_map, append_assoc}
use Prim.Native.Nat.{ℕ, zero, suc, ◌+◌}
use native.Mathlib.Omega.{arith}
use lib.ListN.{length}
use Rattle.reading.specs.Reading.{Got, bad, got}
use Rattle.reading.specs.Lined.{Lined, wrong, lined, following, read_line, read_lines, read_end}
use Rattle.reading.proofs.Exact.{Exact}

-- a line is malformed where lines were read
pub never_lined : {A B : Type 0} {line : ℕ} {a : A} {rest : List ℕ} → wrong line ≡ lined a rest → B
never_lined {line = line} {a = a} {rest = rest} e = let z : ◌≡◌ {A = ℕ} 0 1 = cc in absurd (omega arith)

pub lined_value : {A : Type 0} {a b : A} {rest more : List ℕ} → lined a rest ≡ lined b more → a ≡ b
lined_value e = cc

pub lined_rest : {A : Type 0} {a b : A} {rest more : List ℕ} → lined a rest ≡ lined b more → rest ≡ more
lined_rest e = cc

-- lines were read before those that follow
pub record Earlier {A B : Type 0} (next : A → List ℕ → Lined B) (read : Lined A) (b : B) (rest : List ℕ) : Type 0 where
  pub first : A
  pub more : List ℕ
  pub here : read ≡ lined first more
  pub then : next first more ≡ lined b rest

pub earlier : {A B : Type 0} (next : A → List ℕ → Lined B) (read : Lined A) (b : B) (rest : List ℕ) → following next read ≡ lined b rest → Earlier next read b rest
unfolding following
earlier next (wrong line) b rest e = never_lined e
earlier next (lined a more) b rest e = record { first = a; more = more; here = refl; then = e }

pub line_got : {A : Type 0} (line : ℕ) (read : Got A) (a : A) (rest : List ℕ) → read_line line read ≡ lined a rest → read ≡ got a rest
unfolding read_line
line_got line bad a rest e = never_lined e
line_got line (got b more) a rest e = cc

-- each line fits the bound that the one before it sets
abbrev pub Chain : {A : Type 0} → (ℕ → A → Type 0) → (A → ℕ) → ℕ → List A → Type 0
Chain Fits next bound [] = Unit {0}
Chain Fits next bound (a ∷ xs) = Fits bound a × Chain Fits next (next a) xs

module _ {A : Type 0} (one : ℕ → List ℕ → Got A) (next : A → ℕ) (write : A → List ℕ) (Fits : ℕ → A → Type 0) (exact : (bound : ℕ) → Exact (one bound) write (Fits bound)) where
  pub lines_written : (xs : List A) (bound line : ℕ) (rest : List ℕ) → Chain Fits next bound xs → read_lines one next (length xs) bound line (flat_map write xs ++ rest) ≡ lined xs rest
  unfolding read_lines following read_line flat_map
  lines_written [] bound line rest c = refl
  lines_written (a ∷ xs) bound line rest c =
      rw (append_assoc (write a) (flat_map write xs) rest, (exact bound).written a (flat_map write xs ++ rest) c.0, lines_written xs (next a) (line + 1) rest c.1)

  -- the bytes are so many lines, each fitting the bound that the one before it sets, and a rest
  pub record AreLines (count bound : ℕ) (bs : List ℕ) (xs : List A) (rest : List ℕ) : Type 0 where
    pub many : length xs ≡ count
    pub text : bs ≡ flat_map write xs ++ rest
    pub chain : Chain Fits next bound xs

  pub lines_read : (count bound line : ℕ) (bs : List ℕ) (xs : List A) (rest : List ℕ) → read_lines one next count bound line bs ≡ lined xs rest → AreLines count bound bs xs rest
  unfolding read_lines flat_map
  lines_read zero bound line bs xs rest e =
      let q : xs ≡ [] = sym (lined_value e) in
      let r : bs ≡ rest = lined_rest e in
      rw q (record { many = refl; text = r; chain = tt })
  lines_read (suc k) bound line bs xs rest e =
      let s = earlier (λ a rest. following (λ xs rest. lined (a ∷ xs) rest) (read_lines one next k (next a) (line + 1) rest)) (read_line line (one bound bs)) xs rest e in
      let t = earlier (λ xs rest. lined (s.first ∷ xs) rest) (read_lines one next k (next s.first) (line + 1) s.more) xs rest s.then in
      let g = line_got line (one bound bs) s.first s.more s.here in
      let u = lines_read k (next s.first) (line + 1) s.more t.first t.more t.here in
      let q : xs ≡ s.first ∷ t.first = sym (lined_value t.then) in
      let r : t.more ≡ rest = lined_rest t.then in
      rw q (record {
        many = ap suc u.many;
        text = (exact bound).was s.first bs s.more g ∙ ap (λ m. write s.first ++ m) (u.text ∙ ap (λ m. flat_map write t.first ++ m) r) ∙ sym (append_assoc (write s.first) (flat_map write t.first) rest);
        chain = ((exact bound).fits s.first bs s.more g, u.chain);
      })

-- the end of the text
pub end_read : {A : Type 0} (line : ℕ) (a b : A) (bs rest : List ℕ) → read_end line a bs ≡ lined b rest → (bs ≡ []) × (a ≡ b)
unfolding read_end
end_read line a b [] rest e = (refl, lined_value e)
end_read line a b (c ∷ bs) rest e = never_lined e
