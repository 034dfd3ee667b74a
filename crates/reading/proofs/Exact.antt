-- A reader that is exact for a writer: it reads back what was written, and takes nothing else. How readers that are put together are exact.
use mathlib.Core.Path.{◌≡◌, refl, ap, sym, ◌∙◌, subst}
use mathlib.Core.List.{List, [], ◌∷◌, ◌++◌, append_assoc}
use mathlib.Core.Bool.{Bool, true, false, cond, ◌&&◌}
use Prim.Native.Nat.{ℕ}
use lib.Dec.{eqb}
use borrow.Author.Tests.{eq-eqb, eqb-true}
use Rattle.laws.proofs.Tests.{both}
use Rattle.lines.specs.Line.{tab}
use Rattle.reading.specs.Reading.{Got, bad, got, after, read_both, read_lettered, read_if}
use Rattle.reading.proofs.Digits.{never}

-- what is written is read back, whatever follows; and what is read was written, and fits
pub record Exact {A : Type 0} (read : List ℕ → Got A) (write : A → List ℕ) (Fits : A → Type 0) : Type 0 where
  pub written : (a : A) (rest : List ℕ) → Fits a → read (write a ++ rest) ≡ got a rest
  pub was : (a : A) (bs rest : List ℕ) → read bs ≡ got a rest → bs ≡ write a ++ rest
  pub fits : (a : A) (bs rest : List ℕ) → read bs ≡ got a rest → Fits a

-- what was got, twice told
pub got_value : {A : Type 0} {a b : A} {rest more : List ℕ} → got a rest ≡ got b more → a ≡ b
got_value e = cc

pub got_rest : {A : Type 0} {a b : A} {rest more : List ℕ} → got a rest ≡ got b more → rest ≡ more
got_rest e = cc

-- a piece was read before the next one
pub record Before {A B : Type 0} (next : A → List ℕ → Got B) (read : Got A) (b : B) (rest : List ℕ) : Type 0 where
  pub first : A
  pub more : List ℕ
  pub here : read ≡ got first more
  pub then : next first more ≡ got b rest

pub before : {A B : Type 0} (next : A → List ℕ → Got B) (read : Got A) (b : B) (rest : List ℕ) → after next read ≡ got b rest → Before next read b rest
unfolding after
before next bad b rest e = never e
before next (got a more) b rest e = record { first = a; more = more; here = refl; then = e }

-- two pieces put together
module _ {A B C : Type 0} (build : A → B → C) (write-a : A → List ℕ) (write-b : B → List ℕ) (Fits-a : A → Type 0) (Fits-b : B → Type 0) where
  -- the two pieces of a whole
  pub record Parts (c : C) : Type 0 where
    pub one : A
    pub two : B
    pub fit_one : Fits-a one
    pub fit_two : Fits-b two
    pub same : c ≡ build one two

  -- what is put together fits and is written piece by piece, and what fits is put together
  pub record Built (write : C → List ℕ) (Fits : C → Type 0) : Type 0 where
    pub made : (a : A) (b : B) → Fits-a a → Fits-b b → Fits (build a b)
    pub text : (a : A) (b : B) → Fits-a a → Fits-b b → write (build a b) ≡ write-a a ++ write-b b
    pub parts : (c : C) → Fits c → Parts c

pub both_exact : {A B C : Type 0} {build : A → B → C} {first : List ℕ → Got A} {second : List ℕ → Got B} {write-a : A → List ℕ} {write-b : B → List ℕ} {Fits-a : A → Type 0} {Fits-b : B → Type 0}
    {write : C → List ℕ} {Fits : C → Type 0} → Built build write-a write-b Fits-a Fits-b write Fits → Exact first write-a Fits-a → Exact second write-b Fits-b → Exact (read_both build first second) write Fits
unfolding read_both after
both_exact {A} {B} {C} {build} {first} {second} {write-a} {write-b} {Fits-a} {Fits-b} {write} {Fits} u x y =
    record { written = written; was = λ c bs rest e. (found c bs rest e).0; fits = λ c bs rest e. (found c bs rest e).1 }
  where
    written : (c : C) (rest : List ℕ) → Fits c → read_both build first second (write c ++ rest) ≡ got c rest
    written c rest f =
        let p = u.parts c f in
        let t : write c ++ rest ≡ write-a p.one ++ (write-b p.two ++ rest) = ap (λ d. write d ++ rest) p.same ∙ ap (λ w. w ++ rest) (u.text p.one p.two p.fit_one p.fit_two) ∙ append_assoc (write-a p.one) (write-b p.two) rest in
        rw (t, x.written p.one (write-b p.two ++ rest) p.fit_one, y.written p.two rest p.fit_two) (ap (λ d. got d rest) (sym p.same))

    found : (c : C) (bs rest : List ℕ) → read_both build first second bs ≡ got c rest → (bs ≡ write c ++ rest) × Fits c
    found c bs rest e =
        let s = before (λ a rest. after (λ b rest. got (build a b) rest) (second rest)) (first bs) c rest e in
        let t = before (λ b rest. got (build s.first b) rest) (second s.more) c rest s.then in
        let fa = x.fits s.first bs s.more s.here in
        let fb = y.fits t.first s.more t.more t.here in
        let q : build s.first t.first ≡ c = got_value t.then in
        let r : t.more ≡ rest = got_rest t.then in
        let w : bs ≡ write (build s.first t.first) ++ t.more =
        x.was s.first bs s.more s.here ∙ ap (λ m. write-a s.first ++ m) (y.was t.first s.more t.more t.here)
        ∙ sym (append_assoc (write-a s.first) (write-b t.first) t.more) ∙ ap (λ d. d ++ t.more) (sym (u.text s.first t.first fa fb)) in
        (w ∙ ap (λ d. write d ++ t.more) q ∙ ap (λ m. write c ++ m) r, subst Fits q (u.made s.first t.first fa fb))

-- behind a letter and a tab
pub lettered_exact : {A : Type 0} {read : List ℕ → Got A} {write : A → List ℕ} {Fits : A → Type 0} (letter : ℕ) → Exact read write Fits → Exact (read_lettered letter read) (λ a. letter ∷ tab ∷ write a) Fits
unfolding read_lettered
lettered_exact {A} {read} {write} {Fits} letter x =
    record { written = written; was = λ a bs rest e. (found a bs rest e).0; fits = λ a bs rest e. (found a bs rest e).1 }
  where
    written : (a : A) (rest : List ℕ) → Fits a → read_lettered letter read (letter ∷ tab ∷ (write a ++ rest)) ≡ got a rest
    written a rest f = rw (eq-eqb letter letter refl) (x.written a rest f)

    go : (a : A) (b c : ℕ) (bs rest : List ℕ) (t : Bool) → eqb b letter && eqb c tab ≡ t → cond t (read bs) bad ≡ got a rest → (b ∷ c ∷ bs ≡ letter ∷ tab ∷ write a ++ rest) × Fits a
    go a b c bs rest true t e =
        let s = both (eqb b letter) (eqb c tab) t in
        let p : b ≡ letter = eqb-true b letter s.0 in
        let q : c ≡ tab = eqb-true c tab s.1 in
        (rw (p, q) (ap (λ l. letter ∷ tab ∷ l) (x.was a bs rest e)), x.fits a bs rest e)
    go a b c bs rest false t e = never e

    found : (a : A) (bs rest : List ℕ) → read_lettered letter read bs ≡ got a rest → (bs ≡ letter ∷ tab ∷ write a ++ rest) × Fits a
    found a [] rest e = never e
    found a (b ∷ []) rest e = never e
    found a (b ∷ c ∷ bs) rest e = go a b c bs rest (eqb b letter && eqb c tab) refl e

-- where it passes a test
pub if_exact : {A : Type 0} {read : List ℕ → Got A} {write : A → List ℕ} {Fits : A → Type 0} (test : A → Bool) → Exact read write Fits → Exact (read_if test read) write (λ a. Fits a × (test a ≡ true))
unfolding read_if after
if_exact {A} {read} {write} {Fits} test x =
    record { written = written; was = λ a bs rest e. (found a bs rest e).0; fits = λ a bs rest e. (found a bs rest e).1 }
  where
    written : (a : A) (rest : List ℕ) → Fits a × (test a ≡ true) → read_if test read (write a ++ rest) ≡ got a rest
    written a rest f = rw (x.written a rest f.0, f.1)

    found : (a : A) (bs rest : List ℕ) → read_if test read bs ≡ got a rest → (bs ≡ write a ++ rest) × (Fits a × (test a ≡ true))
    found a bs rest e =
        let s = before (λ a rest. cond (test a) (got a rest) bad) (read bs) a rest e in
        go s.first s.more s.here (test s.first) refl s.then
      where
        go : (d : A) (more : List ℕ) → read bs ≡ got d more → (t : Bool) → test d ≡ t → cond t (got d more) bad ≡ got a rest → (bs ≡ write a ++ rest) × (Fits a × (test a ≡ true))
        go d more h true t e =
            let q : d ≡ a = got_value e in
            let r : more ≡ rest = got_rest e in
            (x.was d bs more h ∙ ap (λ z. write z ++ more) q ∙ ap (λ m. write a ++ m) r, (subst Fits q (x.fits d bs more h), ap test (sym q) ∙ t))
        go d more h false t e = never e

-- under another name: `f` and `g` undo each other
pub map_exact : {A B : Type 0} {read : List ℕ → Got A} {write : A → List ℕ} {Fits : A → Type 0} (f : A → B) (g : B → A) → ((b : B) → f (g b) ≡ b) → ((a : A) → Fits a → g (f a) ≡ a)
    → Exact read write Fits → Exact (λ bs. after (λ a rest. got (f a) rest) (read bs)) (λ b. write (g b)) (λ b. Fits (g b))
unfolding after
map_exact {A} {B} {read} {write} {Fits} f g there back x =
    record { written = written; was = λ b bs rest e. (found b bs rest e).0; fits = λ b bs rest e. (found b bs rest e).1 }
  where
    written : (b : B) (rest : List ℕ) → Fits (g b) → after (λ a rest. got (f a) rest) (read (write (g b) ++ rest)) ≡ got b rest
    written b rest fit = rw (x.written (g b) rest fit) (ap (λ c. got c rest) (there b))

    found : (b : B) (bs rest : List ℕ) → after (λ a rest. got (f a) rest) (read bs) ≡ got b rest → (bs ≡ write (g b) ++ rest) × Fits (g b)
    found b bs rest e =
        let s = before (λ a rest. got (f a) rest) (read bs) b rest e in
        let fit = x.fits s.first bs s.more s.here in
        let q : s.first ≡ g b = sym (back s.first fit) ∙ ap g (got_value s.then) in
        let r : s.more ≡ rest = got_rest s.then in
        (x.was s.first bs s.more s.here ∙ ap (λ d. write d ++ s.more) q ∙ ap (λ m. write (g b) ++ m) r, subst Fits q fit)
