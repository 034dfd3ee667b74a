-- The promise leaves one answer to each input.
use mathlib.Core.Path.{◌≡◌, ap, ap₂, sym, ◌∙◌, subst}
use mathlib.Core.List.{List}
use Prim.Native.Nat.{ℕ}
use native.Mathlib.Omega.{arith}
use lib.ListN.{length, take, replicate, length-replicate}
use Rattle.laws.proofs.Rooms.{laid_read}
use Rattle.grid.specs.Limits.{most_small}
use Rattle.mesh.specs.Mesh.{triangles_of}
use Rattle.records.specs.Record.{record_of}
use Rattle.shellnumbers.proofs.OneNumbering.{one_numbering}
use Rattle.closed.specs.Left.{Mesh}
use Rattle.gridtext.specs.Grid.{samples_of, granted, read_grid}
use Rattle.meshtext.specs.MeshText.{mesh_text}
use Rattle.gridtext.specs.GridText.{Small, grid_text}
use Rattle.gridtext.specs.declared.Head.{Head}
use Rattle.gridtext.proofs.Checks.{passed}
use Rattle.gridtext.proofs.GridTexts.{grid_read, grid_taken}
use Rattle.small.specs.Answer.{smoothed_mesh, grid_edges, Answers, printed, refused}
use Rattle.printing.specs.Prints.{Prints}
use Rattle.small.proofs.Read.{head_in}

-- a mesh has one text: its shells are numbered in one way
pub one_print : (m : Mesh) (edges a b : List ℕ) → Prints m edges a → Prints m edges b → a ≡ b
one_print m edges a b p q =
    let u = one_numbering (triangles_of m.triangles) (length m.marks) p.numbers q.numbers p.shells q.shells p.numbering q.numbering in
    p.written
    ∙ (ap₂ (λ found shells. mesh_text m.points edges m.marks m.triangles shells (record_of m.points m.triangles m.marks found)) u.0 u.1
    ∙ sym q.written)

abbrev room : List ℕ
room = replicate most_small 0

-- the grid of a text
pub grid_of_text : (input : List ℕ) (h : Head) (samples : List ℕ) → Small h samples → input ≡ grid_text h samples → read_grid input room ≡ granted h samples room
grid_of_text input h samples small e =
    rw e (grid_read h samples room small (omega (arith, (passed h small.checked).1, length-replicate {A = ℕ} most_small 0)))

front : (h : Head) (samples : List ℕ) → Small h samples → take (samples_of h) (granted h samples room).samples ≡ samples
unfolding granted
front h samples small = laid_read samples room (samples_of h) small.whole

-- a granted grid says which one it is
head_of_granted : (h h' : Head) (s s' : List ℕ) → granted h s room ≡ granted h' s' room → h ≡ h'
unfolding granted
head_of_granted h h' s s' e = ap (λ o. head_in o.answer) e

samples_of_granted : (h h' : Head) (s s' : List ℕ) → Small h s → Small h' s' → granted h s room ≡ granted h' s' room → s ≡ s'
samples_of_granted h h' s s' small small' e =
    sym (front h s small) ∙ (ap₂ (λ k o. take (samples_of k) o.samples) (head_of_granted h h' s s' e) e ∙ front h' s' small')

-- and what is read as a grid is its text
pub text_of_grid : (input : List ℕ) (h : Head) (samples : List ℕ) → Small h samples → read_grid input room ≡ granted h samples room → input ≡ grid_text h samples
unfolding granted
text_of_grid input h samples small e =
    let t = grid_taken input room (ap (λ o. o.answer.number) e) in
    let q = sym t.answer ∙ e in
    t.text ∙ ap₂ grid_text (head_of_granted t.head h t.samples samples q) (samples_of_granted t.head h t.samples samples t.small small q)

-- a text is that of one grid
module _ (input : List ℕ) (h h' : Head) (s s' : List ℕ) (small : Small h s) (small' : Small h' s') (e : input ≡ grid_text h s) (e' : input ≡ grid_text h' s') where
  same : granted h s room ≡ granted h' s' room
  same = sym (grid_of_text input h s small e) ∙ grid_of_text input h' s' small' e'

  same_head : h ≡ h'
  same_head = head_of_granted h h' s s' same

  same_samples : s ≡ s'
  same_samples = samples_of_granted h h' s s' small small' same

pub one_answer : (input a b : List ℕ) → Answers input a → Answers input b → a ≡ b
unfolding granted
one_answer input a b (printed h s small e p) (printed h' s' small' e' p') =
    let k = same_head input h h' s s' small small' e e' in
    let l = same_samples input h h' s s' small small' e e' in
    let q = subst (λ h. Prints (smoothed_mesh h s') (grid_edges h s') b) (sym k) p' in
    one_print (smoothed_mesh h s) (grid_edges h s) a b p (subst (λ s. Prints (smoothed_mesh h s) (grid_edges h s) b) (sym l) q)
one_answer input a b (printed h s small e p) (refused n r) = absurd (n (ap (λ o. o.answer.number) (grid_of_text input h s small e)))
one_answer input a b (refused n r) (printed h s small e p) = absurd (n (ap (λ o. o.answer.number) (grid_of_text input h s small e)))
one_answer input a b (refused n r) (refused n' r') = r ∙ sym r'
