-- From what was decided and filled to what the reader promises.
use mathlib.Core.Path.{◌≡◌, refl, ap, sym, ◌∙◌, subst}
use mathlib.Core.List.{List}
use mathlib.Core.Bool.{Bool, true, false, cond}
use Prim.Native.Nat.{ℕ, ◌/◌, ◌≤◌, min}
use native.Mathlib.Nat.{le_trans, min-le_left, min-le_right}
use native.Mathlib.Omega.{arith}
use lib.ListN.{length, get_or, replicate}
use Rattle.laws.specs.Room.{laid}
use Rattle.grid.specs.Limits.{most_points, most_triangles}
use Rattle.std.specs.Prelude.{Ok, Err}
use Rattle.grid.specs.declared.refusal.Refusal.{Refusal}
use Rattle.grid.specs.declared.refusal.Refusal.TheVariants.{OtherShells}
use Rattle.grid.specs.Refusal.{number_of, mesh_line}
use Rattle.mesh.proofs.Places.{within_any}
use Rattle.mesh.proofs.Passed.{passed}
use Rattle.records.specs.declared.Shell.{Shell}
use Rattle.meshread.specs.Mesh.{Mesh}
use Rattle.meshread.specs.Promise.{Rooms, Outcome, refused, cleared, granted, lengths_of, room_number, mesh, said, Numbered, own_records, Reads}
use Rattle.meshread.specs.Promise as P
use Rattle.meshread.specs.Own.{counts_in}
use Rattle.meshread.proofs.Read.{Text, text_says, counts_in_lem}
use Rattle.sameshells.specs.Same.{shells_at, LinesThere}
use Rattle.judge.specs.declared.Judged.{Judged}
use Rattle.judge.specs.Judged.{FoundAt, refused_early, others_shells, taken, Judges}
use Rattle.judge.proofs.Steps.{Holds, rooms_hold}
use Rattle.filling.specs.Filled.{Fillable, ListsFilled}

-- what is answered if granted, and the rooms after the call
abbrev pub outcome_of : Judged → Rooms → Outcome
outcome_of j rooms = record { number = 0; line = 0; points = j.counts.points; triangles = j.counts.triangles; shells = j.counts.shells; rooms = rooms }

-- the same rooms with another work room
abbrev pub with_work : Rooms → List ℕ → Rooms
with_work r work = record { points = r.points; edges = r.edges; marks = r.marks; triangles = r.triangles; records = r.records; work = work }

-- outcomes that are the same in every part
abbrev outcome : ℕ → ℕ → ℕ → ℕ → ℕ → List ℕ → List ℕ → List ℕ → List ℕ → List Shell → List ℕ → Outcome
outcome n l p t s points edges marks triangles records work =
    record { number = n; line = l; points = p; triangles = t; shells = s; rooms = record { points = points; edges = edges; marks = marks; triangles = triangles; records = records; work = work } }

same_outcome : {n n' l l' p p' t t' s s' : ℕ} {a a' b b' c c' d d' w w' : List ℕ} {e e' : List Shell} → n ≡ n' → l ≡ l' → p ≡ p' → t ≡ t' → s ≡ s' → a ≡ a' → b ≡ b' → c ≡ c' → d ≡ d' → e ≡ e' → w ≡ w'
    → outcome n l p t s a b c d e w ≡ outcome n' l' p' t' s' a' b' c' d' e' w'
same_outcome h i j k m n o p q r s = rw (h, i, j, k, m, n, o, p, q, r, s)

-- a refusal leaves every result room
pub read_refused : (input : List ℕ) (r : Rooms) (e : Refusal) (work : List ℕ) → Judges input (lengths_of r) r.work (Err e) work → Reads input r (refused (number_of e) (mesh_line e) (with_work r work))
unfolding cleared
read_refused input r e work h = go h
  where
    after : (zeroed : Bool) → work ≡ cond zeroed (replicate (length r.work) 0) r.work → with_work r work ≡ cond zeroed (cleared r) r
    after true z = ap (with_work r) z
    after false z = ap (with_work r) z

    go : Judges input (lengths_of r) r.work (Err e) work → Reads input r (refused (number_of e) (mesh_line e) (with_work r work))
    go (refused_early x q zeroed s z) =
        let y : x ≡ e = cc in
        rw (sym y) (P.refused_early (number_of x) (mesh_line x) zeroed s (ap (refused (number_of x) (mesh_line x)) (after zeroed z)))
    go (others_shells m s found k N d q z) =
        let y : e ≡ OtherShells = cc in
        rw y (P.others_shells m s found k N d (ap (refused 16 0) (ap (with_work r) z)))
    go (taken m s found k N w j q f) = absurd cc

module _ (input : List ℕ) (r : Rooms) (j : Judged) (work : List ℕ) (h : Judges input (lengths_of r) r.work (Ok j) work) where
  -- where the call is granted
  pub record Grants : Type 0 where
    pub mesh : Mesh
    pub says : said input (lengths_of r) ≡ P.mesh mesh
    pub found : List ℕ
    pub many : ℕ
    pub numbered : Numbered mesh found many
    pub own : mesh.records ≡ own_records mesh found many
    pub at : FoundAt input mesh j work

  grants : Grants
  grants = go h
    where
      go : Judges input (lengths_of r) r.work (Ok j) work → Grants
      go (refused_early x q zeroed s z) = absurd cc
      go (others_shells m s found k N d q z) = absurd cc
      go (taken m s found k N w i q f) =
          let y : i ≡ j = cc in
          record { mesh = m; says = s; found = found; many = k; numbered = N; own = w; at = subst (λ x. FoundAt input m x work) y f }

  abbrev m : Mesh
  m = grants.mesh

  text : Text input (lengths_of r) m
  text = text_says input (lengths_of r) m grants.says

  counts_are : counts_in m ≡ record { points = j.counts.points; triangles = j.counts.triangles; shells = j.counts.shells }
  counts_are = let f = grants.at in rw (sym f.many_points, sym f.many_triangles, sym f.many_shells)

  holds : Holds (record { points = j.counts.points; triangles = j.counts.triangles; shells = j.counts.shells }) (lengths_of r)
  holds = rooms_hold _ (lengths_of r) (ap (λ c. room_number c (lengths_of r)) (sym counts_are ∙ counts_in_lem input (lengths_of r) m text) ∙ text.holds)

  -- there is a record for each shell, and its line is there
  pub lines_there : LinesThere input j.shells_at j.counts.shells
  lines_there = grants.at.shells_read

  pub records_hold : j.counts.shells ≤ length r.records
  records_hold = holds.shells

  -- the lists can be filled
  pub fillable : length work ≡ length r.work → Fillable input j r.points r.edges r.marks r.triangles work
  fillable long =
      let rest : ℕ = min (length r.edges) (length r.marks) in
      let all : ℕ = min (length r.points / 3) rest in
      let few : j.counts.points ≤ all = le_trans holds.points (min-le_right most_points all) in
      let thirds : j.counts.points ≤ length r.points / 3 = le_trans few (min-le_left (length r.points / 3) rest) in
      let others : j.counts.points ≤ rest = le_trans few (min-le_right (length r.points / 3) rest) in
      let triangle-thirds : j.counts.triangles ≤ length r.triangles / 3 = le_trans holds.triangles (min-le_right most_triangles (length r.triangles / 3)) in
      record {
        whole = long ∙ holds.work;
        few = le_trans holds.points (min-le_left most_points all);
        triangles_few = le_trans holds.triangles (min-le_left most_triangles (length r.triangles / 3));
        points_hold = omega arith;
        edges_hold = le_trans others (min-le_left (length r.edges) (length r.marks));
        marks_hold = le_trans others (min-le_right (length r.edges) (length r.marks));
        triangles_hold = omega arith;
        there = record { behind = grants.at.behind; read = grants.at.points_read };
        fit = λ i l. subst (λ ms. get_or ms i 0 ≤ 1) (sym grants.at.marks_are) (within_any 1 m.marks i (passed m.points m.triangles m.marks text.passes).marks_fit);
      }

  -- and when they are, with the records, that is what the reader promises
  pub read_granted : (points edges marks triangles cleared : List ℕ) (records : List Shell) → length work ≡ length r.work → ListsFilled input j r.points points r.edges edges r.marks marks r.triangles triangles work cleared
      → records ≡ laid (shells_at input j.shells_at j.counts.shells) r.records
      → Reads input r (outcome_of j (record { points = points; edges = edges; marks = marks; triangles = triangles; records = records; work = cleared }))
  unfolding granted
  read_granted points edges marks triangles zeros records long filled lines =
      let f = grants.at in
      P.taken m grants.says grants.found grants.many grants.numbered grants.own
      (same_outcome refl refl f.many_points f.many_triangles f.many_shells (filled.points_are ∙ ap (λ x. laid x r.points) f.points_are)
      (filled.edges_are ∙ ap (λ x. laid x r.edges) f.edges_are) (filled.marks_are ∙ ap (λ x. laid x r.marks) f.marks_are)
      (filled.triangles_are ∙ ap (λ x. laid x r.triangles) f.triangles_are) (lines ∙ ap (λ x. laid x r.records) f.records_are) (filled.zeroed ∙ ap (λ n. replicate {A = ℕ} n 0) long))
