-- One column after the other in the work room, and each held against the lines.
use mathlib.Core.Path.{◌≡◌, refl, ap, sym, ◌∙◌, subst}
use mathlib.Core.List.{List, [], ◌∷◌}
use mathlib.Core.Bool.{Bool, true, false}
use Prim.Native.Nat.{ℕ, zero, suc, ◌+◌, ◌≤◌, ◌<◌}
use native.Mathlib.Omega.{arith}
use lib.ListN.{length, get_or}
use lib.Seq.{sets, length-sets}
use Rattle.laws.specs.Values.{list_to}
use Rattle.laws.proofs.Values.{length_list, list_cong}
use Rattle.laws.proofs.Parts.{sets_over}
use Rattle.laws.proofs.Runs.{run_at}
use Rattle.records.specs.declared.Shell.{Shell}
use Rattle.columns.specs.Room.{column_at, StandsIn, record_in}
use Rattle.columns.specs.declared.field.Field.{Field}
use Rattle.columns.specs.declared.field.Field.TheVariants.{Low, Points, Touches, LeastX, GreatestX, LeastY, GreatestY, LeastZ, GreatestZ, Triangles}
use Rattle.columns.specs.Columns.{field_of, kind_of}
use Rattle.columns.proofs.Rooms.{SameMesh, column_leaves, still_stands, same_records, shells_inside}
use Rattle.sameshells.specs.Same.{Decides, SameColumn, SameField, ColumnLeft}

-- the fields in the order in which they are compared, each at its number
abbrev pub field_at : ℕ → Field
field_at k = get_or (Low ∷ Points ∷ Touches ∷ LeastX ∷ GreatestX ∷ LeastY ∷ GreatestY ∷ LeastZ ∷ GreatestZ ∷ Triangles ∷ []) k Low

pub number_at : (k : ℕ) → k < 10 → kind_of (field_at k) ≡ k
number_at zero l = refl
number_at (suc zero) l = refl
number_at (suc (suc zero)) l = refl
number_at (suc (suc (suc zero))) l = refl
number_at (suc (suc (suc (suc zero)))) l = refl
number_at (suc (suc (suc (suc (suc zero))))) l = refl
number_at (suc (suc (suc (suc (suc (suc zero)))))) l = refl
number_at (suc (suc (suc (suc (suc (suc (suc zero))))))) l = refl
number_at (suc (suc (suc (suc (suc (suc (suc (suc zero)))))))) l = refl
number_at (suc (suc (suc (suc (suc (suc (suc (suc (suc zero))))))))) l = refl
number_at (suc (suc (suc (suc (suc (suc (suc (suc (suc (suc k)))))))))) l = absurd (omega arith)

module _ (shells v t : ℕ) (old : List ℕ) (stands : StandsIn shells v t old) where
  inside : column_at v t + shells ≤ length old
  inside = shells_inside shells v t old stands

  module _ (work : List ℕ) (left : ColumnLeft v t shells old work) where
    pub same_left : SameMesh v t old work
    same_left = subst (SameMesh v t old) (sym left.stays) (column_leaves v t old left.column (omega (arith, left.short, inside)))

    pub stands_left : StandsIn shells v t work
    stands_left = still_stands shells v t old work same_left stands

    pub same_record : (n : ℕ) → record_in v t work n ≡ record_in v t old n
    same_record n = same_records v t old work same_left n

    -- a column more
    module _ (kind : ℕ) (after : List ℕ) (g : after ≡ sets work (column_at v t) (list_to shells (λ n. field_of kind (record_in v t work n)))) where
      abbrev fields : List ℕ
      fields = list_to shells (λ n. field_of kind (record_in v t old n))

      after_is : after ≡ sets old (column_at v t) fields
      after_is =
          g ∙ ap (sets work (column_at v t)) (list_cong shells (λ n. field_of kind (record_in v t work n)) (λ n. field_of kind (record_in v t old n)) (λ n l. ap (field_of kind) (same_record n)))
          ∙ ap (λ r. sets r (column_at v t) fields) left.stays ∙ sets_over old (column_at v t) left.column fields (omega (arith, left.short, length_list shells (λ n. field_of kind (record_in v t old n))))

      pub column_next : ColumnLeft v t shells old after
      column_next = record { column = fields; short = omega (arith, length_list shells (λ n. field_of kind (record_in v t old n))); stays = after_is }

      pub column_inside : column_at v t + shells ≤ length after
      column_inside = omega (arith, inside, ap length after_is, length-sets old (column_at v t) fields)

      column_at_lem : (n : ℕ) → n < shells → get_or after (column_at v t + n) 0 ≡ field_of kind (record_in v t old n)
      column_at_lem n l =
          ap (λ r. get_or r (column_at v t + n) 0) after_is ∙ run_at old (column_at v t) shells n (λ n. field_of kind (record_in v t old n)) 0 inside l

      -- the answer on the column is the answer on the field
      module _ (said : List Shell) (r : Bool) (d : Decides r (SameColumn said shells kind after (column_at v t))) where
        pub field_same : r ≡ true → SameField said shells kind (record_in v t old)
        field_same e n l = d.yes e n l ∙ column_at_lem n l

        pub field_not : r ≡ false → SameField said shells kind (record_in v t old) → r ≡ true
        field_not e same = d.so (λ n l. same n l ∙ sym (column_at_lem n l))
