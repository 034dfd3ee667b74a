-- The face rule, for a way round any face: corners and edges may be renamed before or after, and both ends of a segment are crossed edges of the face.
use mathlib.Core.Path.{◌≡◌, refl, ap, ap₂}
use mathlib.Core.List.{List, [], ◌∷◌, ◌++◌, map, map-append, Memᴰ}
use mathlib.Core.Bool.{Bool, true, false, cond, not, ◌&&◌, xor, false≢true}
use Prim.Native.Nat.{ℕ}
use Rattle.laws.specs.Sum.{All}
use Rattle.laws.specs.Mesh.{Arrow, arrow, Ends}
use Rattle.laws.proofs.Sums.{all_append, all_weaken, all_mapped}
use Rattle.cube.specs.Face.{Step, enters_run, leaves_run, left_by, cut_runs, cuts, round_from, go_round}

-- a step by the renamed edge, and an arrow between the renamed edges
abbrev pub by_named : (ℕ → ℕ) → Step → Step
by_named r s = record { leaving = s.leaving; by = r s.by; coming = s.coming }

abbrev pub arrow_named : (ℕ → ℕ) → Arrow → Arrow
arrow_named r a = arrow (r a.from) (r a.to)

-- going round a ring whose corners are renamed, and making something else of each step
module _ {A B : Type 0} (f : ℕ → ℕ → A) (g : A → B) where
  round_mapped_from : (first c : ℕ) (ds : List ℕ) → map g (round_from f first c ds) ≡ round_from (λ c d. g (f c d)) first c ds
  unfolding round_from
  round_mapped_from first c [] = refl
  round_mapped_from first c (d ∷ ds) = ap (λ later. g (f c d) ∷ later) (round_mapped_from first d ds)

  pub round_mapped : (ring : List ℕ) → map g (go_round f ring) ≡ go_round (λ c d. g (f c d)) ring
  unfolding go_round
  round_mapped [] = refl
  round_mapped (c ∷ cs) = round_mapped_from c c cs

module _ {A : Type 0} (f : ℕ → ℕ → A) (r : ℕ → ℕ) where
  round_renamed_from : (first c : ℕ) (ds : List ℕ) → round_from f (r first) (r c) (map r ds) ≡ round_from (λ c d. f (r c) (r d)) first c ds
  unfolding round_from
  round_renamed_from first c [] = refl
  round_renamed_from first c (d ∷ ds) = ap (λ later. f (r c) (r d) ∷ later) (round_renamed_from first d ds)

  pub round_renamed : (ring : List ℕ) → go_round f (map r ring) ≡ go_round (λ c d. f (r c) (r d)) ring
  unfolding go_round
  round_renamed [] = refl
  round_renamed (c ∷ cs) = round_renamed_from c c cs

-- what is made of each step needs to agree only at the ring's own corners
module _ {A : Type 0} (P : ℕ → Type 0) (f g : ℕ → ℕ → A) (agree : (c d : ℕ) → P c → P d → f c d ≡ g c d) where
  round_agrees_from : (first c : ℕ) (ds : List ℕ) → P first → P c → All P ds → round_from f first c ds ≡ round_from g first c ds
  unfolding round_from
  round_agrees_from first c [] p q a = ap (λ s. s ∷ []) (agree c first q p)
  round_agrees_from first c (d ∷ ds) p q a = ap₂ ◌∷◌ (agree c d q a.0) (round_agrees_from first d ds p a.0 a.1)

  pub round_agrees : (ring : List ℕ) → All P ring → go_round f ring ≡ go_round g ring
  unfolding go_round
  round_agrees [] a = refl
  round_agrees (c ∷ cs) a = round_agrees_from c c cs a.0 a.0 a.1

choose : {A B : Type 0} (f : A → B) (b : Bool) (x y : A) → cond b (f x) (f y) ≡ f (cond b x y)
choose f true x y = refl
choose f false x y = refl

module _ (r : ℕ → ℕ) where
  left_renamed : (e : ℕ) (ss : List Step) → left_by (r e) (map (by_named r) ss) ≡ r (left_by e ss)
  unfolding left_by
  left_renamed e [] = refl
  left_renamed e (s ∷ ss) = rw (left_renamed e ss) (choose r (leaves_run s) s.by (left_by e ss))

  runs_renamed : (round ss : List Step) → cut_runs (map (by_named r) round) (map (by_named r) ss) ≡ map (arrow_named r) (cut_runs round ss)
  unfolding cut_runs
  runs_renamed round [] = refl
  runs_renamed round (s ∷ ss) =
      let left : left_by (r s.by) (map (by_named r) ss ++ map (by_named r) round) ≡ r (left_by s.by (ss ++ round))
      = rw (← (map-append (by_named r) ss round)) (left_renamed s.by (ss ++ round)) in
      rw (left, runs_renamed round ss)
      (choose (map (arrow_named r)) (enters_run s) (arrow s.by (left_by s.by (ss ++ round)) ∷ cut_runs round ss) (cut_runs round ss))

  pub cuts_renamed : (round : List Step) → cuts (map (by_named r) round) ≡ map (arrow_named r) (cuts round)
  unfolding cuts
  cuts_renamed round = runs_renamed round round

-- a step whose two corners differ goes by a crossed edge
abbrev pub crossed_step : Step → Bool
crossed_step s = xor s.leaving s.coming

-- what holds of each crossed edge of the face holds of both ends of each of its segments
module _ (P : ℕ → Type 0) where
  abbrev pub CrossedHave : Step → Type 0
  CrossedHave s = crossed_step s ≡ true → P s.by

  -- a step that enters or leaves a run goes by a crossed edge
  entering : (a b : Bool) → (not a && b) ≡ true → xor a b ≡ true
  unfolding xor
  entering true b h = absurd (false≢true h)
  entering false true h = refl
  entering false false h = absurd (false≢true h)

  leaving : (a b : Bool) → (a && not b) ≡ true → xor a b ≡ true
  unfolding xor
  leaving true true h = absurd (false≢true h)
  leaving true false h = refl
  leaving false b h = absurd (false≢true h)

  left_has : (e : ℕ) (ss : List Step) → P e → All CrossedHave ss → P (left_by e ss)
  unfolding left_by
  left_has e [] p a = p
  left_has e (s ∷ ss) p a = go (leaves_run s) refl (left_has e ss p a.1)
    where
      go : (b : Bool) → leaves_run s ≡ b → P (left_by e ss) → P (cond b s.by (left_by e ss))
      go true h later = a.0 (leaving s.leaving s.coming h)
      go false h later = later

  runs_crossed : (round ss : List Step) → All CrossedHave round → All CrossedHave ss → All (Ends P) (cut_runs round ss)
  unfolding cut_runs
  runs_crossed round [] r a = tt
  runs_crossed round (s ∷ ss) r a = go (enters_run s) refl (runs_crossed round ss r a.1)
    where
      go : (b : Bool) → enters_run s ≡ b → All (Ends P) (cut_runs round ss)
          → All (Ends P) (cond b (arrow s.by (left_by s.by (ss ++ round)) ∷ cut_runs round ss) (cut_runs round ss))
      go true h later =
          let by : P s.by = a.0 (entering s.leaving s.coming h) in
          ((by, left_has s.by (ss ++ round) by (all_append CrossedHave ss round a.1 r)), later)
      go false h later = later

  pub ends_crossed : (round : List Step) → All CrossedHave round → All (Ends P) (cuts round)
  unfolding cuts
  ends_crossed round a = runs_crossed round round a a

-- both ends of a segment lie in the face that it cuts
pub ends_in_face : (round : List Step) → All (Ends (λ e. Memᴰ e (map (λ s. s.by) round))) (cuts round)
ends_in_face round =
    ends_crossed (λ e. Memᴰ e (map (λ s. s.by) round)) round
    (all_weaken _ _ (λ s m crossed. m) round (all_mapped (λ s. s.by) round))
