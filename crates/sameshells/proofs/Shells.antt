-- All fields of every shell are those of its record exactly if the lists of records are the same.
use mathlib.Core.Path.{◌≡◌, ap, sym, ◌∙◌, subst}
use mathlib.Core.List.{List, []}
use Prim.Native.Nat.{ℕ, ◌*◌, ◌≤◌, ◌<◌}
use lib.IntN.{ℤ}
use native.Mathlib.Omega.{arith}
use lib.ListN.{length, get_or, drop}
use lib.Seq.{ext_get_or}
use Rattle.laws.specs.Values.{list_to}
use Rattle.laws.proofs.Values.{length_list, list_at}
use Rattle.records.specs.declared.Shell.{Shell}
use Rattle.records.specs.Grown.{none, most_volume}
use Rattle.shelllines.specs.ShellLines.{shell_text}
use Rattle.reading.proofs.Following.{lines_read}
use Rattle.columns.specs.Room.{StandsIn, ShellsStand, record_in, points_in, triangles_in}
use Rattle.columns.specs.Columns.{field_of}
use Rattle.columns.proofs.Rooms.{few_shells, shells_stand}
use Rattle.volumes.specs.Volumes.{volume_in, stored_volume, words_in, volume_read, all_words}
use Rattle.volumes.proofs.Volumes.{volume_is, volume_back, words_fit}
use Rattle.volumes.proofs.Words.{words_leave}
use Rattle.meshread.specs.Lines.{read_shell}
use Rattle.meshread.proofs.Lines.{ShellFits, shell_exact}
use Rattle.sameshells.specs.Same.{shells_at, LinesThere, SameFields, SameVolumes, ColumnLeft, WordsThere, MeshLeft}
use Rattle.sameshells.proofs.Columns.{same_left, stands_left, same_record}

-- a record is its ten other fields and its volume
abbrev built : ℕ → ℕ → ℕ → ℕ → ℤ → ℕ → ℕ → ℕ → ℕ → ℕ → ℕ → Shell
built low points triangles touches volume x x' y y' z z' =
    record { low = low; points = points; triangles = triangles; touches = touches; volume = volume; least_x = x; greatest_x = x'; least_y = y; greatest_y = y'; least_z = z; greatest_z = z' }

record_same : (a b : Shell) → ((kind : ℕ) → kind < 10 → field_of kind a ≡ field_of kind b) → a.volume ≡ b.volume → a ≡ b
record_same a b same volume =
    let low : a.low ≡ b.low = same 0 (omega arith) in
    let points : a.points ≡ b.points = same 1 (omega arith) in
    let touches : a.touches ≡ b.touches = same 2 (omega arith) in
    let x : a.least_x ≡ b.least_x = same 3 (omega arith) in
    let x' : a.greatest_x ≡ b.greatest_x = same 4 (omega arith) in
    let y : a.least_y ≡ b.least_y = same 5 (omega arith) in
    let y' : a.greatest_y ≡ b.greatest_y = same 6 (omega arith) in
    let z : a.least_z ≡ b.least_z = same 7 (omega arith) in
    let z' : a.greatest_z ≡ b.greatest_z = same 8 (omega arith) in
    let triangles : a.triangles ≡ b.triangles = same 9 (omega arith) in
    let whole : built a.low a.points a.triangles a.touches a.volume a.least_x a.greatest_x a.least_y a.greatest_y a.least_z a.greatest_z
    ≡ built b.low b.points b.triangles b.touches b.volume b.least_x b.greatest_x b.least_y b.greatest_y b.least_z b.greatest_z =
    rw (low, points, triangles, touches, volume, x, x', y, y', z, z') in
    whole

module _ (input : List ℕ) (from shells : ℕ) (there : LinesThere input from shells) (record_of_lem : ℕ → Shell) where
  long : length (shells_at input from shells) ≡ shells
  long = (lines_read (λ bound. read_shell) (λ shell. 0) shell_text (λ bound. ShellFits) (λ bound. shell_exact) shells 0 0 (drop from input) (shells_at input from shells) [] there).many

  pub all_same : SameFields (shells_at input from shells) shells record_of_lem → SameVolumes (shells_at input from shells) shells (λ n. (record_of_lem n).volume) → shells_at input from shells ≡ list_to shells record_of_lem
  all_same fields volumes =
      ext_get_or none (shells_at input from shells) (list_to shells record_of_lem) (long ∙ sym (length_list shells record_of_lem))
      (λ n l. let m : n < shells = omega (arith, l, long) in record_same (get_or (shells_at input from shells) n none) (get_or (list_to shells record_of_lem) n none)
      (λ kind k. fields kind k n m ∙ ap (field_of kind) (sym (list_at shells n record_of_lem none m))) (volumes n m ∙ ap (λ s. s.volume) (sym (list_at shells n record_of_lem none m))))

  pub same_fields : shells_at input from shells ≡ list_to shells record_of_lem → SameFields (shells_at input from shells) shells record_of_lem
  same_fields e kind k n l = ap (λ ss. field_of kind (get_or ss n none)) e ∙ ap (field_of kind) (list_at shells n record_of_lem none l)

  pub same_volumes : shells_at input from shells ≡ list_to shells record_of_lem → SameVolumes (shells_at input from shells) shells (λ n. (record_of_lem n).volume)
  same_volumes e n l = ap (λ ss. (get_or ss n none).volume) e ∙ ap (λ s. s.volume) (list_at shells n record_of_lem none l)

-- the room after the columns, and after the volumes
module _ (shells v t : ℕ) (old : List ℕ) (stands : StandsIn shells v t old) (work : List ℕ) (left : ColumnLeft v t shells old work) where
  pub left_mesh : MeshLeft v t old work
  left_mesh = let s = same_left shells v t old stands work left in record { points = s.beside.points; triangles = s.beside.triangles }

  pub volumes_stand : ShellsStand shells v t work
  volumes_stand = shells_stand shells v t work (stands_left shells v t old stands work left)

  module _ (after : List ℕ) (e : after ≡ all_words v t shells (λ n. stored_volume (volume_in v t work n)) work) where
    pub words_there : WordsThere shells v t after
    words_there =
        let s = volumes_stand in
        let few = few_shells shells v t work volumes_stand in
        record {
          whole = ap length e ∙ (words_leave v t shells work s.whole few (λ n. stored_volume (volume_in v t work n))).long ∙ s.whole;
          few = few;
          small = λ n l. subst (λ r. words_in v t r n ≤ 2 * most_volume) (sym e) (words_fit shells v t work s n l);
        }

    pub volumes_read : (n : ℕ) → n < shells → volume_read v t after n ≡ (record_in v t old n).volume
    volumes_read n l =
        ap (λ r. volume_read v t r n) e ∙ volume_back shells v t work volumes_stand n l ∙ volume_is v t work n
        ∙ ap (λ s. s.volume) (same_record shells v t old stands work left n)

    pub mesh_left_lem : MeshLeft v t old after
    mesh_left_lem =
        let s = words_leave v t shells work volumes_stand.whole (few_shells shells v t work volumes_stand) (λ n. stored_volume (volume_in v t work n)) in
        record { points = ap (points_in v) e ∙ s.points ∙ left_mesh.points; triangles = ap (triangles_in v t) e ∙ s.triangles ∙ left_mesh.triangles }
